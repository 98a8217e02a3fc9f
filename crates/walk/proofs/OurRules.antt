-- Our engine keeps the rule of each call, at any sheet, register, walk and rows.
use Rattle.std.proofs.Common.{ℕ, suc, ◌+◌, ◌-◌, ◌*◌, ◌^◌, ◌≤◌, ◌≡◌, refl, sym, ◌∙◌, ap, subst, true, false, true≢false, List, [], inl, inr, add-one}
use Rattle.std.proofs.Common.{arith, length, get_or, set, eqb}
use Rattle.std.specs.Prelude.{Result, Ok, Err, ⊤}
use Rattle.cash.specs.Units.{B}
use Rattle.cash.specs.Sums.{sum_to}
use Rattle.hedges.specs.Hedges.{ratio_of}
use Rattle.cash.proofs.Sums.{sum_cong}
use Rattle.register.specs.Register.{WriteAnswer, Write, issue, withdraw, answer_of}
use Rattle.register.proofs.Rules.{left, of_length, of_withdrawn, of_unissued, of_live, Says, wrong, withdrawn, unissued, live, says}
use Rattle.sheet.specs.Terms.{Terms}
use Rattle.sheet.specs.Limits.{TermsWithin}
use Rattle.sheet.proofs.Limits.{limits_terms}
use Rattle.tree.specs.Sheet.{tree_of}
use Rattle.tree.specs.Forward.{distribution, probability, apart, errors}
use Rattle.tree.proofs.Statements.{distribution_bounds}
use Rattle.rows.specs.Rows.{distribution_row, Rows}
use Rattle.rows.proofs.Tables.{length_tab, get_d_tab}
use Rattle.sheet.specs.Brought.{Brought}
use Rattle.refusals.specs.declared.Refusal.{Refusal}
use Rattle.refusals.specs.Tests.{Test, first}
use Rattle.walk.specs.declared.Walk.{Walk}
use Rattle.figures.specs.Answer.{Refused, Done, Position, Ratio}
use Rattle.walk.specs.Answers.{said_of, said_by, accepted}
use Rattle.figures.specs.Nodes.{jump}
use Rattle.walk.specs.RefusalOrders.{RefusalOrder, Judges}
use Rattle.walk.specs.Calls.{Outcome, ForwardOutcome, open_tests, back_tests, value_tests, ratio_tests, forward_tests, or_outcome, or_forward_outcome, zeros, rolls, open_call, back_call, value_call, ratio_call, forward_call}
use Rattle.figures.specs.Replies.{worth}
use Rattle.walk.specs.CallRules.{RegisterResult, WalkResult, ForwardResult, says as saying, AcceptedOpen, AcceptedBack, AcceptedValue, AcceptedRatio, AcceptedForward, RefusalEffect, ByteWrite, IssueRule, WithdrawRule, OpenRule, BackRule, ValueRule, RatioRule, ForwardRule}
use Rattle.walk.specs.OurEngine.{write_call, walk_result, forward_result, ours}
use Rattle.walk.specs.Promise.{Rules}
use Rattle.walk.proofs.Judging.{refusal, refusal_some, Holds, Stands, stands_fine, stands_judges}
use Rattle.walk.proofs.Walking.{rolls_back_steps, zeros_full, zeros_default, zeros_premium}
use Rattle.walk.proofs.Ordering.{live_issued, not_either, open_stands, back_stands, value_stands, ratio_stands, forward_stands, forward_holds}

-- ---- issue and withdraw

-- What the register's calls give back where they answer a.
abbrev entry : Write → List ℕ → ℕ → WriteAnswer → RegisterResult
entry c g y a = record { said = said_by a; register = left c g y a }

module _ (g : List ℕ) (y : ℕ) where
  writes_not : (byte n : ℕ) → eqb n 0 ≡ false → ByteWrite g y byte (record { said = refusal n; register = g })
  writes_not byte n e = record { does = λ a. absurd (true≢false (sym a ∙ e)); leaves = λ a. refl }

  writes_one : (byte : ℕ) → ByteWrite g y byte (record { said = saying []; register = set g y byte })
  writes_one byte = record { does = λ a. (refl, refl); leaves = λ a. absurd (true≢false a) }

  given : (c : Write) (P : RegisterResult → Type 0) {a : WriteAnswer} → answer_of c g y ≡ a → P (entry c g y a) → P (write_call c g y)
  given c P e r = subst (λ (a : WriteAnswer). P (entry c g y a)) (sym e) r

  pub issues : IssueRule g y (write_call issue g y)
  unfolding Judges
  issues = go (says g y)
    where
      go : Says g y → IssueRule g y (write_call issue g y)
      go (wrong h) = given issue (IssueRule g y) (of_length issue g y h) (record { judged = inl (h, refl); writes = writes_not 0xA5 2 refl })
      go (withdrawn h) =
          given issue (IssueRule g y) (of_withdrawn issue g y h)
          (record { judged = inr (h.size, inl (not_either g y h, refl)); writes = writes_not 0xA5 9 refl })
      go (live h) = given issue (IssueRule g y) (of_live issue g y h) (record { judged = inr (h.size, inr (inr h, inl (λ n. n h, refl))); writes = writes_not 0xA5 17 refl })
      go (unissued h) =
          given issue (IssueRule g y) (of_unissued issue g y h)
          (record { judged = inr (h.size, inr (inl h, inr (λ v. live_issued g y v h, refl))); writes = writes_one 0xA5 })

  pub withdraws : WithdrawRule g y (write_call withdraw g y)
  unfolding Judges
  withdraws = go (says g y)
    where
      go : Says g y → WithdrawRule g y (write_call withdraw g y)
      go (wrong h) = given withdraw (WithdrawRule g y) (of_length withdraw g y h) (record { judged = inl (h, refl); writes = writes_not 0x00 2 refl })
      go (withdrawn h) =
          given withdraw (WithdrawRule g y) (of_withdrawn withdraw g y h)
          (record { judged = inr (h.size, inl (not_either g y h, refl)); writes = writes_not 0x00 9 refl })
      go (unissued h) = given withdraw (WithdrawRule g y) (of_unissued withdraw g y h) (record { judged = inr (h.size, inr (inl h, inl (λ n. n h, refl))); writes = writes_not 0x00 10 refl })
      go (live h) =
          given withdraw (WithdrawRule g y) (of_live withdraw g y h)
          (record { judged = inr (h.size, inr (inr h, inr (live_issued g y h, refl))); writes = writes_one 0x00 })

-- ---- an outcome by the first test met

module _ (w : Walk) (l : Rows) (good : Outcome) where
  pub outcome_fine : (o : Result ⊤ Refusal) → o ≡ Ok tt → or_outcome o w l good ≡ good
  unfolding or_outcome
  outcome_fine o e = rw e

  pub outcome_refused : (o : Result ⊤ Refusal) (f : Refusal) → o ≡ Err f → or_outcome o w l good ≡ record { answer = Refused f; walk = w; rows = l }
  unfolding or_outcome
  outcome_refused o f e = rw e

  pub outcome_cases : (P : Outcome → Type 0) (o : Result ⊤ Refusal) → (o ≡ Ok tt → P good)
      → ((f : Refusal) → o ≡ Err f → P (record { answer = Refused f; walk = w; rows = l })) → P (or_outcome o w l good)
  unfolding or_outcome
  outcome_cases P (Ok tt) p q = p refl
  outcome_cases P (Err f) p q = q f refl

module _ (q : List ℕ) (good : ForwardOutcome) where
  pub forward_outcome_fine : (o : Result ⊤ Refusal) → o ≡ Ok tt → or_forward_outcome o q good ≡ good
  unfolding or_forward_outcome
  forward_outcome_fine o e = rw e

  pub forward_outcome_refused : (o : Result ⊤ Refusal) (f : Refusal) → o ≡ Err f → or_forward_outcome o q good ≡ record { answer = Refused f; row = q }
  unfolding or_forward_outcome
  forward_outcome_refused o f e = rw e

  pub forward_outcome_cases : (P : ForwardOutcome → Type 0) (o : Result ⊤ Refusal) → (o ≡ Ok tt → P good)
      → ((f : Refusal) → o ≡ Err f → P (record { answer = Refused f; row = q })) → P (or_forward_outcome o q good)
  unfolding or_forward_outcome
  forward_outcome_cases P (Ok tt) p r = p refl
  forward_outcome_cases P (Err f) p r = r f refl

-- What tests that stand for an order make of an outcome, and of forward's.
module _ (t : List Test) (m : RefusalOrder) (s : Stands t m) (w : Walk) (l : Rows) (good : Outcome) (done : (said_of good.answer).number ≡ 0) where
  pub outcome_judged : Judges m (said_of (or_outcome (first t) w l good).answer)
  outcome_judged =
      stands_judges t m _ s
      (λ e. ap (λ (o : Outcome). (said_of o.answer).number) (outcome_fine w l good (first t) e) ∙ done)
      (λ f e. ap (λ (o : Outcome). said_of o.answer) (outcome_refused w l good (first t) f e))

  pub outcome_does : (P : WalkResult → Type 0) → (Holds m → P (walk_result good))
      → accepted (said_of (or_outcome (first t) w l good).answer) ≡ true → P (walk_result (or_outcome (first t) w l good))
  outcome_does P p =
      outcome_cases w l good (λ o. accepted (said_of o.answer) ≡ true → P (walk_result o)) (first t)
      (λ e a. p ((stands_fine t m s).0 e))
      (λ f e a. absurd (true≢false (sym a ∙ refusal_some f)))

  pub outcome_leaves : RefusalEffect w l (walk_result (or_outcome (first t) w l good))
  outcome_leaves =
      outcome_cases w l good (λ o. RefusalEffect w l (walk_result o)) (first t)
      (λ e a. absurd (true≢false (sym (ap (λ (n : ℕ). eqb n 0) done) ∙ a)))
      (λ f e a. (refl, refl))

module _ (t : List Test) (m : RefusalOrder) (s : Stands t m) (q : List ℕ) (good : ForwardOutcome) (done : (said_of good.answer).number ≡ 0) where
  pub forward_outcome_judged : Judges m (said_of (or_forward_outcome (first t) q good).answer)
  forward_outcome_judged =
      stands_judges t m _ s
      (λ e. ap (λ (o : ForwardOutcome). (said_of o.answer).number) (forward_outcome_fine q good (first t) e) ∙ done)
      (λ f e. ap (λ (o : ForwardOutcome). said_of o.answer) (forward_outcome_refused q good (first t) f e))

  pub forward_outcome_does : (P : ForwardResult → Type 0) → (Holds m → P (forward_result good))
      → accepted (said_of (or_forward_outcome (first t) q good).answer) ≡ true → P (forward_result (or_forward_outcome (first t) q good))
  forward_outcome_does P p =
      forward_outcome_cases q good (λ o. accepted (said_of o.answer) ≡ true → P (forward_result o)) (first t)
      (λ e a. p ((stands_fine t m s).0 e))
      (λ f e a. absurd (true≢false (sym a ∙ refusal_some f)))

  pub forward_outcome_leaves : accepted (said_of (or_forward_outcome (first t) q good).answer) ≡ false → (or_forward_outcome (first t) q good).row ≡ q
  forward_outcome_leaves =
      forward_outcome_cases q good (λ o. accepted (said_of o.answer) ≡ false → o.row ≡ q) (first t)
      (λ e a. absurd (true≢false (sym (ap (λ (n : ℕ). eqb n 0) done) ∙ a)))
      (λ f e a. refl)

-- ---- open, back, value and hedge ratio

-- What each gives back where its tests find nothing.
abbrev pub open_done : Brought → Outcome
open_done x = record { answer = Done; walk = record { «open» = true; number = x.number; position = x.sheet.steps }; rows = zeros x }

abbrev pub back_done : Brought → Walk → Rows → ℕ → Outcome
back_done x w l c =
    record {
      answer = Position (w.position - c);
      walk = record { «open» = w.«open»; number = w.number; position = w.position - c };
      rows = rolls x w.position c l;
    }

abbrev pub value_done : Brought → Walk → Rows → ℕ → ℕ → Outcome
value_done x w l j k = record { answer = worth x l j k; walk = w; rows = l }

abbrev pub ratio_done : Brought → Walk → Rows → ℕ → ℕ → Outcome
ratio_done x w l j k = record { answer = Ratio (ratio_of (jump x l j k) (jump x l x.sheet.tranches k)); walk = w; rows = l }

abbrev pub forward_done : Brought → ℕ → ForwardOutcome
forward_done x i = record { answer = Done; row = distribution_row x.sheet i }

-- What each gives back where they find a refusal.
abbrev pub not_done : Refusal → Walk → Rows → Outcome
not_done f w l = record { answer = Refused f; walk = w; rows = l }

abbrev pub not_forward : Refusal → List ℕ → ForwardOutcome
not_forward f q = record { answer = Refused f; row = q }

module _ (x : Brought) (g : List ℕ) (w : Walk) (l : Rows) where
  pub open_fine : first (open_tests x g l) ≡ Ok tt → open_call x g w l ≡ open_done x
  unfolding open_call
  open_fine = outcome_fine w l (open_done x) (first (open_tests x g l))

  pub open_refused : (f : Refusal) → first (open_tests x g l) ≡ Err f → open_call x g w l ≡ not_done f w l
  unfolding open_call
  open_refused = outcome_refused w l (open_done x) (first (open_tests x g l))

  pub opens : OpenRule x g w l (walk_result (open_call x g w l))
  unfolding open_call
  opens =
      record {
        judged = outcome_judged (open_tests x g l) _ (open_stands x g l) w l (open_done x) refl;
        does = outcome_does (open_tests x g l) _ (open_stands x g l) w l (open_done x) refl (AcceptedOpen x) (λ h.
            record {
              said = refl;
              walk = refl;
              size = zeros_full x;
              default = zeros_default x;
              premium = zeros_premium x;
            });
        leaves = outcome_leaves (open_tests x g l) _ (open_stands x g l) w l (open_done x) refl;
      }

  module _ (c : ℕ) where
    pub back_fine : first (back_tests x g w l c) ≡ Ok tt → back_call x g w l c ≡ back_done x w l c
    unfolding back_call
    back_fine = outcome_fine w l (back_done x w l c) (first (back_tests x g w l c))

    pub back_refused : (f : Refusal) → first (back_tests x g w l c) ≡ Err f → back_call x g w l c ≡ not_done f w l
    unfolding back_call
    back_refused = outcome_refused w l (back_done x w l c) (first (back_tests x g w l c))

    pub backs : BackRule x g w l c (walk_result (back_call x g w l c))
    unfolding back_call
    backs =
        record {
          judged = outcome_judged (back_tests x g w l c) _ (back_stands x g w l c) w l (back_done x w l c) refl;
          does = outcome_does (back_tests x g w l c) _ (back_stands x g w l c) w l (back_done x w l c) refl (AcceptedBack x w l c) (λ h.
              record { said = refl; walk = refl; rows = rolls_back_steps x c w.position l });
          leaves = outcome_leaves (back_tests x g w l c) _ (back_stands x g w l c) w l (back_done x w l c) refl;
        }

  module _ (j k : ℕ) where
    pub value_fine : first (value_tests x g w l j k) ≡ Ok tt → value_call x g w l j k ≡ value_done x w l j k
    unfolding value_call
    value_fine = outcome_fine w l (value_done x w l j k) (first (value_tests x g w l j k))

    pub value_refused : (f : Refusal) → first (value_tests x g w l j k) ≡ Err f → value_call x g w l j k ≡ not_done f w l
    unfolding value_call
    value_refused = outcome_refused w l (value_done x w l j k) (first (value_tests x g w l j k))

    pub values : ValueRule x g w l j k (walk_result (value_call x g w l j k))
    unfolding value_call worth
    values =
        record {
          judged = outcome_judged (value_tests x g w l j k) _ (value_stands x g w l j k) w l (value_done x w l j k) refl;
          does = outcome_does (value_tests x g w l j k) _ (value_stands x g w l j k) w l (value_done x w l j k) refl (AcceptedValue x w l j k) (λ h.
              record { said = refl; walk = refl; rows = refl });
          leaves = outcome_leaves (value_tests x g w l j k) _ (value_stands x g w l j k) w l (value_done x w l j k) refl;
        }

    pub ratio_fine : first (ratio_tests x g w l j k) ≡ Ok tt → ratio_call x g w l j k ≡ ratio_done x w l j k
    unfolding ratio_call
    ratio_fine = outcome_fine w l (ratio_done x w l j k) (first (ratio_tests x g w l j k))

    pub ratio_refused : (f : Refusal) → first (ratio_tests x g w l j k) ≡ Err f → ratio_call x g w l j k ≡ not_done f w l
    unfolding ratio_call
    ratio_refused = outcome_refused w l (ratio_done x w l j k) (first (ratio_tests x g w l j k))

    pub hedges : RatioRule x g w l j k (walk_result (ratio_call x g w l j k))
    unfolding ratio_call
    hedges =
        record {
          judged = outcome_judged (ratio_tests x g w l j k) _ (ratio_stands x g w l j k) w l (ratio_done x w l j k) refl;
          does = outcome_does (ratio_tests x g w l j k) _ (ratio_stands x g w l j k) w l (ratio_done x w l j k) refl (AcceptedRatio x w l j k) (λ h.
              record { said = refl; walk = refl; rows = refl });
          leaves = outcome_leaves (ratio_tests x g w l j k) _ (ratio_stands x g w l j k) w l (ratio_done x w l j k) refl;
        }

-- ---- forward

module _ (x : Terms) (i : ℕ) where
  pub distribution_size : length (distribution_row x i) ≡ x.names + 1
  unfolding distribution_row
  distribution_size = length_tab (suc x.names) (distribution (tree_of x) i) ∙ sym (add-one x.names)

  pub distribution_entry : (k : ℕ) → k ≤ x.names → get_or (distribution_row x i) k 0 ≡ distribution (tree_of x) i k
  unfolding distribution_row
  distribution_entry k h = get_d_tab (suc x.names) (distribution (tree_of x) i) k (omega arith)

  -- A sum over the row's counts is the sum by the rule.
  distribution_sum : (f : ℕ → ℕ → ℕ) → sum_to (x.names + 1) (λ k. f k (get_or (distribution_row x i) k 0)) ≡ sum_to (suc x.names) (λ k. f k (distribution (tree_of x) i k))
  distribution_sum f =
      ap (λ (n : ℕ). sum_to n (λ k. f k (get_or (distribution_row x i) k 0))) (add-one x.names)
      ∙ sum_cong (suc x.names) _ _ (λ k h. ap (f k) (distribution_entry k (omega arith)))

  distribution_total : TermsWithin x → sum_to (x.names + 1) (λ k. get_or (distribution_row x i) k 0) ≡ B
  distribution_total w = distribution_sum (λ k y. y) ∙ (distribution_bounds x w).whole i

  distribution_near : TermsWithin x → sum_to (x.names + 1) (λ k. apart (get_or (distribution_row x i) k 0 * B ^ i) (probability (tree_of x) i k * B)) ≤ x.names * i * B ^ i
  distribution_near w = rw (distribution_sum (λ k y. apart (y * B ^ i) (probability (tree_of x) i k * B))) (unfold errors tree_of in (distribution_bounds x w).error i)

module _ (x : Brought) (g q : List ℕ) (i : ℕ) where
  pub forward_fine : first (forward_tests x g q i) ≡ Ok tt → forward_call x g q i ≡ forward_done x i
  unfolding forward_call
  forward_fine = forward_outcome_fine q (forward_done x i) (first (forward_tests x g q i))

  pub forward_refused : (f : Refusal) → first (forward_tests x g q i) ≡ Err f → forward_call x g q i ≡ not_forward f q
  unfolding forward_call
  forward_refused = forward_outcome_refused q (forward_done x i) (first (forward_tests x g q i))

  pub forwards : ForwardRule x g q i (forward_result (forward_call x g q i))
  unfolding forward_call
  forwards =
      record {
        judged = forward_outcome_judged (forward_tests x g q i) _ (forward_stands x g q i) q (forward_done x i) refl;
        does = forward_outcome_does (forward_tests x g q i) _ (forward_stands x g q i) q (forward_done x i) refl (AcceptedForward x.sheet i) (λ h.
            let v = limits_terms x ((forward_holds x g q i).0 h).limits in
            record { said = refl; size = distribution_size x.sheet i; row = distribution_entry x.sheet i; total = distribution_total x.sheet i v; near = distribution_near x.sheet i v });
        leaves = forward_outcome_leaves (forward_tests x g q i) _ (forward_stands x g q i) q (forward_done x i) refl;
      }

pub ours_rules : Rules ours
ours_rules = record { issue = issues; withdraw = withdraws; opening = opens; back = backs; value = values; ratio = hedges; forward = forwards }
