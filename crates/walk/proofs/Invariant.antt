-- What every list of calls keeps, by the rules of the calls alone.
use Rattle.std.proofs.Common.{ℕ, zero, suc, ◌+◌, ◌-◌, ◌≤◌, ◌≡◌, refl, sym, ◌∙◌, ap, subst, Bool, true, false, cond, ◌&&◌, ◌||◌, List, [], ◌∷◌, ◌≢◌}
use Rattle.std.proofs.Common.{◌⊎◌, inl, inr, arith, add-zero, length, get_or, set, length-set, get_or-set_other, eqb, eqb-true}
use mathlib.Core.Bool.{false≢true}
use mathlib.Core.Option.{some, some-injective, none-ne-some}
use native.Mathlib.Decide.{ℕ_discrete}
use Rattle.register.specs.Rules.{Unissued, Live}
use Rattle.std.proofs.lemmas.Bool.{and_parts as both}
use Rattle.sheet.specs.Brought.{Brought}
use Rattle.sheet.specs.Limits.{Limits}
use Rattle.walk.specs.declared.Walk.{Walk}
use Rattle.rows.specs.Rows.{Rows}
use Rattle.walk.specs.Answers.{accepted}
use Rattle.walk.specs.CallRules.{RegisterResult, WalkResult, BackSteps, IssueRule, WithdrawRule, OpenRule, BackRule, ValueRule}
use Rattle.walk.specs.Engine.{Engine}
use Rattle.walk.specs.CallLists.{LentRows, own_rows, other_rows, rows_lent, rows_kept, Call, issue, withdraw, opening, back, value, State, after_write, after_open, after_walk_call, call_result, History, is_own, noted, state_after, history_after, no_history, Run, end, history}
use Rattle.walk.specs.Promise.{Rules}
use Rattle.walk.proofs.Acceptance.{issue_taken, open_taken, back_taken}
use Rattle.walk.proofs.Steps.{Holding, back_steps_lem, zeros_hold}

-- How the walk on x stands: the position is what is left of the steps, and the rows hold D and A where back and value were lent them.
pub record Stands (x : Brought) (k : History) (s : State) : Type 0 where
  pub limits : Limits x
  pub opened : s.walk.«open» ≡ true
  pub number : s.walk.number ≡ x.number
  pub place : s.walk.position + k.walked ≡ x.sheet.steps
  pub held : k.own ≡ true → Holding x.sheet k.walked s.walk.position s.rows

pub record Inv (sheets : ℕ → Brought) (s : State) (k : History) : Type 0 where
  pub size : length s.register ≡ 256
  pub out : (y : ℕ) → k.gone y ≡ true → get_or s.register y 0 ≡ 0
  pub stood : (y : ℕ) → k.opened ≡ some y → Stands (sheets y) k s

-- ---- the register

set_zero : (g : List ℕ) (y : ℕ) → get_or (set g y 0) y 0 ≡ 0
set_zero [] zero = refl
set_zero [] (suc y) = refl
set_zero (a ∷ g) zero = refl
set_zero (a ∷ g) (suc y) = set_zero g y

pub writes_zero : (g : List ℕ) (y z : ℕ) → (z ≡ y) ⊎ (get_or g z 0 ≡ 0) → get_or (set g y 0) z 0 ≡ 0
writes_zero g y z (inl e) = rw e (set_zero g y)
writes_zero g y z (inr p) = go (ℕ_discrete z y)
  where
    go : Dec (z ≡ y) → get_or (set g y 0) z 0 ≡ 0
    go (yes e) = rw e (set_zero g y)
    go (no e) = get_or-set_other g y z 0 0 e ∙ p

-- A byte 00 stays, whatever is written where another byte stands.
pub zero_stays : (g : List ℕ) (y z b : ℕ) → get_or g y 0 ≢ 0 → get_or g z 0 ≡ 0 → get_or (set g y b) z 0 ≡ 0
zero_stays g y z b n p = get_or-set_other g y z b 0 (λ e. n (rw e at p)) ∙ p

pub unissued_some : (g : List ℕ) (y : ℕ) → Unissued g y → get_or g y 0 ≢ 0
unissued_some g y u e = omega (arith, u.byte)

pub live_some : (g : List ℕ) (y : ℕ) → Live g y → get_or g y 0 ≢ 0
live_some g y u e = omega (arith, u.byte)

-- A byte 00 says withdrawn.
pub zero_gone : (g : List ℕ) (y : ℕ) → get_or g y 0 ≡ 0 → ¬ (Unissued g y ⊎ Live g y)
zero_gone g y e (inl u) = unissued_some g y u e
zero_gone g y e (inr l) = live_some g y l e

-- ---- Booleans

pub or_cases : (a b : Bool) → (a || b) ≡ true → (a ≡ true) ⊎ (b ≡ true)
or_cases true b e = inl refl
or_cases false b e = inr e

-- ---- the rows lent

pub kept_lent : (t : LentRows) (l : Rows) → rows_kept t l (rows_lent t l) ≡ l
kept_lent own_rows l = refl
kept_lent (other_rows m) l = refl

-- ---- each call

module _ (sheets : ℕ → Brought) (bears : (y : ℕ) → (sheets y).number ≡ y) (s : State) (k : History) (inv : Inv sheets s k) where
  -- The walk goes on as it stood, with as much known of its rows, or less.
  stays : (own : Bool) (w : Walk) (l : Rows) (g : List ℕ) (gone : ℕ → Bool) → (own ≡ true → k.own ≡ true) → w ≡ s.walk → l ≡ s.rows → (y : ℕ) → k.opened ≡ some y →
      Stands (sheets y) (record { opened = k.opened; walked = k.walked; own = own; gone = gone }) (record { register = g; walk = w; rows = l })
  stays own w l g gone o ew el y p =
      let q = inv.stood y p in
      record {
        limits = q.limits;
        opened = rw ew q.opened;
        number = rw ew q.number;
        place = rw ew q.place;
        held = λ t. rw (ew, el) (q.held (o t));
      }

  keep_issue : (y : ℕ) (o : RegisterResult) → IssueRule s.register y o → Inv sheets (after_write s o).state k
  unfolding after_write
  keep_issue y o r = go (accepted o.said) refl
    where
      go : (b : Bool) → accepted o.said ≡ b → Inv sheets (record { register = o.register; walk = s.walk; rows = s.rows }) k
      go true e =
          let d = (r.writes.does e).1 in
          let u = (issue_taken s.register y o r).0 e in
          record {
            size = ap length d ∙ length-set s.register y 0xA5 ∙ inv.size;
            out = λ z p. ap (λ g. get_or g z 0) d ∙ zero_stays s.register y z 0xA5 (unissued_some _ _ u) (inv.out z p);
            stood = stays k.own s.walk s.rows _ k.gone (λ t. t) refl refl;
          }
      go false e = rw (r.writes.leaves e) inv

  keep_withdraw : (y : ℕ) (o : RegisterResult) → WithdrawRule s.register y o → Inv sheets (after_write s o).state (noted k (withdraw y) o.said)
  unfolding after_write noted
  keep_withdraw y o r = go (accepted o.said) refl
    where
      go : (b : Bool) → accepted o.said ≡ b →
          Inv sheets (record { register = o.register; walk = s.walk; rows = s.rows })
          (record { opened = k.opened; walked = k.walked; own = k.own; gone = λ z. accepted o.said && eqb z y || k.gone z })
      go true e =
          let d = (r.writes.does e).1 in
          record {
            size = ap length d ∙ length-set s.register y 0x00 ∙ inv.size;
            out = λ z p. ap (λ g. get_or g z 0) d ∙ writes_zero s.register y z (which z (or_cases _ _ p));
            stood = stays k.own s.walk s.rows _ _ (λ t. t) refl refl;
          }
        where
          which : (z : ℕ) → ((accepted o.said && eqb z y) ≡ true) ⊎ (k.gone z ≡ true) → (z ≡ y) ⊎ (get_or s.register z 0 ≡ 0)
          which z (inl p) = inl (eqb-true z y (both (accepted o.said) (eqb z y) p).1)
          which z (inr p) = inr (inv.out z p)
      go false e =
          record {
            size = ap length (r.writes.leaves e) ∙ inv.size;
            out = λ z p. ap (λ g. get_or g z 0) (r.writes.leaves e) ∙ inv.out z (rw e at p);
            stood = stays k.own s.walk s.rows _ _ (λ t. t) refl refl;
          }

  keep_open : (y : ℕ) (t : LentRows) (o : WalkResult) → OpenRule (sheets y) s.register s.walk (rows_lent t s.rows) o →
      Inv sheets (after_open s t o).state (noted k (opening y t) o.said)
  unfolding after_open noted
  keep_open y t o r = go (accepted o.said) refl
    where
      go : (b : Bool) → accepted o.said ≡ b →
          Inv sheets (record { register = s.register; walk = o.walk; rows = cond (accepted o.said) o.rows (rows_kept t s.rows o.rows) })
          (cond (accepted o.said) (record { opened = some y; walked = 0; own = true; gone = k.gone }) k)
      go true e =
          let d = r.does e in
          rw e (record {
            size = inv.size;
            out = inv.out;
            stood = λ z p.
                subst (λ v. Stands (sheets v) (record { opened = some y; walked = 0; own = true; gone = k.gone }) (record { register = s.register; walk = o.walk; rows = o.rows }))
                (some-injective y z p)
                (record {
                  limits = ((open_taken (sheets y) s.register s.walk (rows_lent t s.rows) o r).0 e).limits;
                  opened = ap (λ w. w.«open») d.walk;
                  number = ap (λ w. w.number) d.walk;
                  place = rw d.walk (add-zero (sheets y).sheet.steps);
                  held = λ h. rw d.walk (zeros_hold (sheets y).sheet o.rows d.size d.default d.premium);
                });
          })
      go false e =
          let d = r.leaves e in
          rw (e, d.0, d.1, kept_lent) inv

  keep_back : (y : ℕ) (t : LentRows) (c : ℕ) (o : WalkResult) → BackRule (sheets y) s.register s.walk (rows_lent t s.rows) c o →
      Inv sheets (after_walk_call s t o).state (noted k (back y t c) o.said)
  unfolding after_walk_call noted
  keep_back y t c o r = go (accepted o.said) refl
    where
      held : (t : LentRows) (z : ℕ) → Stands (sheets z) k s → z ≡ y → c ≤ s.walk.position → BackSteps (sheets y).sheet c s.walk.position (rows_lent t s.rows) o.rows →
          (k.own && is_own t) ≡ true → Holding (sheets z).sheet (k.walked + c) (s.walk.position - c) (rows_kept t s.rows o.rows)
      held own_rows z q e far w h =
          back_steps_lem (sheets z).sheet c k.walked s.walk.position s.rows o.rows far (rw e w) (q.held (both _ _ h).0)
      held (other_rows l) z q e far w h = absurd (false≢true (both k.own false h).1)

      go : (b : Bool) → accepted o.said ≡ b →
          Inv sheets (record { register = s.register; walk = o.walk; rows = rows_kept t s.rows o.rows })
          (record { opened = k.opened; walked = cond (accepted o.said) (k.walked + c) k.walked; own = k.own && is_own t; gone = k.gone })
      go true e =
          let d = r.does e in
          let a = (back_taken (sheets y) s.register s.walk (rows_lent t s.rows) o c r).0 e in
          record {
            size = inv.size;
            out = inv.out;
            stood = λ z p.
                let q = inv.stood z p in
                let far : c ≤ s.walk.position = a.1 in
                let z=y : z ≡ y = sym (bears z) ∙ sym q.number ∙ a.0.walk.number ∙ bears y in
                record {
                  limits = q.limits;
                  opened = rw d.walk q.opened;
                  number = rw d.walk q.number;
                  place = rw (d.walk, e) (omega (arith, q.place));
                  held = λ h. rw (d.walk, e) (held t z q z=y far d.rows h);
                };
          }
      go false e =
          let d = r.leaves e in
          rw e (record {
            size = inv.size;
            out = inv.out;
            stood = stays (k.own && is_own t) _ _ _ _ (λ h. (both _ _ h).0) d.0 (ap (rows_kept t s.rows) d.1 ∙ kept_lent t s.rows);
          })

  keep_value : (y : ℕ) (t : LentRows) (i j : ℕ) (o : WalkResult) → ValueRule (sheets y) s.register s.walk (rows_lent t s.rows) i j o →
      Inv sheets (after_walk_call s t o).state (noted k (value y t i j) o.said)
  unfolding after_walk_call noted
  keep_value y t i j o r = go (accepted o.said) refl
    where
      stay : o.walk ≡ s.walk → o.rows ≡ rows_lent t s.rows →
          Inv sheets (record { register = s.register; walk = o.walk; rows = rows_kept t s.rows o.rows })
          (record { opened = k.opened; walked = k.walked; own = k.own && is_own t; gone = k.gone })
      stay w l =
          record {
            size = inv.size;
            out = inv.out;
            stood = stays (k.own && is_own t) _ _ _ _ (λ h. (both _ _ h).0) w (ap (rows_kept t s.rows) l ∙ kept_lent t s.rows);
          }

      go : (b : Bool) → accepted o.said ≡ b →
          Inv sheets (record { register = s.register; walk = o.walk; rows = rows_kept t s.rows o.rows })
          (record { opened = k.opened; walked = k.walked; own = k.own && is_own t; gone = k.gone })
      go true e = stay (r.does e).walk (r.does e).rows
      go false e = stay (r.leaves e).0 (r.leaves e).1

module _ (e : Engine) (rules : Rules e) (sheets : ℕ → Brought) (bears : (y : ℕ) → (sheets y).number ≡ y) where
  keep : (s : State) (k : History) → Inv sheets s k → (c : Call) → Inv sheets (call_result e sheets s c).state (noted k c (call_result e sheets s c).said)
  unfolding call_result after_write after_open after_walk_call
  keep s k inv (issue y) = unfold noted in keep_issue sheets bears s k inv y _ (rules.issue _ y)
  keep s k inv (withdraw y) = keep_withdraw sheets bears s k inv y _ (rules.withdraw _ y)
  keep s k inv (opening y t) = keep_open sheets bears s k inv y t _ (rules.opening _ _ _ _)
  keep s k inv (back y t c) = keep_back sheets bears s k inv y t c _ (rules.back _ _ _ _ c)
  keep s k inv (value y t i j) = keep_value sheets bears s k inv y t i j _ (rules.value _ _ _ _ i j)

  keep_all : (s : State) (k : History) → Inv sheets s k → (l : List Call) → Inv sheets (state_after e sheets s l) (history_after e sheets s k l)
  unfolding state_after history_after
  keep_all s k inv [] = inv
  keep_all s k inv (c ∷ l) = keep_all (call_result e sheets s c).state (noted k c (call_result e sheets s c).said) (keep s k inv c) l

at_start : (sheets : ℕ → Brought) (s : State) → length s.register ≡ 256 → Inv sheets s no_history
at_start sheets s e =
    record {
      size = e;
      out = λ y p. absurd (false≢true p);
      stood = λ y p. absurd (none-ne-some y p);
    }

-- Where any list ends.
pub known : (e : Engine) → Rules e → (u : Run) → Inv u.catalogue.sheet (end e u) (history e u)
known e rules u = keep_all e rules u.catalogue.sheet u.catalogue.bears _ _ (at_start u.catalogue.sheet u.start u.whole) u.calls
