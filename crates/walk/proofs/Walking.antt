-- The rows of a walk: the calls' rows keep to the backward rule, and it gives no others.
use Rattle.std.proofs.Common.{ℕ, zero, suc, ◌+◌, ◌-◌, ◌*◌, ◌≤◌, ◌≡◌, refl, sym, ◌∙◌, ap, ap₂, subst, List, add-zero, arith, length, get_or}
use Rattle.cash.specs.Units.{half}
use Rattle.cash.specs.Losses.{default_payment, premium_payment, elapsed_payment}
use Rattle.tree.specs.Paths.{survive, default}
use Rattle.tree.specs.Backward.{roll_node, Leg}
use Rattle.tree.specs.Legs.{default_cash, premium_cash, elapsed_cash}
use Rattle.sheet.specs.Terms.{Terms}
use Rattle.tree.specs.Sheet.{hazard_of, discount_of, accrual_of, elapsed_of, loss_of, outstanding_of, default_of, premium_of}
use Rattle.rows.specs.Rows.{node_in, rolled, rolled_back, Rows, row_length}
use Rattle.rows.proofs.Tables.{length_row, node_row, is_row}
use Rattle.rows.proofs.Rolled.{length_rolled, rolled_entry, rolled_join}
use Rattle.sheet.specs.Brought.{Brought}
use Rattle.walk.specs.Calls.{zeros, rolls}
use Rattle.walk.specs.RefusalOrders.{FullRows}
use Rattle.walk.specs.CallRules.{backward_rule, BackStep, BackSteps}

-- ---- rows by their entries

-- Two rows of the right length with the same entries are the same.
pub row_once : (x : Terms) (a b : List ℕ) → length a ≡ row_length x → length b ≡ row_length x
    → ((j k : ℕ) → j ≤ x.tranches → k ≤ x.names → node_in x a j k ≡ node_in x b j k) → a ≡ b
row_once x a b p q h = is_row x a (node_in x b) p h ∙ sym (is_row x b (node_in x b) q (λ j k m n. refl))

pub rows_same : (l m : Rows) → l.defaults ≡ m.defaults → l.premiums ≡ m.premiums → l ≡ m
rows_same l m p q = λ t. record { defaults = p t; premiums = q t }

-- ---- one step back

pub rule_is : (x : Terms) (i k defaulted survived : ℕ)
    → roll_node (hazard_of x (suc i) k) (discount_of x (suc i)) defaulted survived ≡ backward_rule x i k defaulted survived
unfolding roll_node discount_of backward_rule
rule_is x i k d u = refl

module _ (x : Terms) (j i k : ℕ) where
  pub default_defaulted : (default_of x j).rounded (suc i) k default ≡ loss_of x j (suc k) - loss_of x j k
  unfolding default_of default_cash default_payment
  default_defaulted = refl

  pub default_survived : (default_of x j).rounded (suc i) k survive ≡ 0
  unfolding default_of default_cash
  default_survived = refl

  pub premium_defaulted : (premium_of x j).rounded (suc i) k default
      ≡ half (get_or x.accruals i 0 * outstanding_of x j (suc k)) + half (get_or x.elapsed i 0 * (outstanding_of x j k - outstanding_of x j (suc k)))
  unfolding premium_of premium_cash premium_payment elapsed_cash elapsed_payment accrual_of elapsed_of
  premium_defaulted = refl

  pub premium_survived : (premium_of x j).rounded (suc i) k survive ≡ half (get_or x.accruals i 0 * outstanding_of x j k)
  unfolding premium_of premium_cash premium_payment elapsed_cash accrual_of
  premium_survived = add-zero _

-- Both rows one step back.
unfoldable pub step_rows : Terms → ℕ → Rows → Rows
step_rows x i l = record { defaults = rolled x (default_of x) i l.defaults; premiums = rolled x (premium_of x) i l.premiums }

pub back_step : (x : Terms) (i : ℕ) (l : Rows) → BackStep x i l (step_rows x i l)
unfolding step_rows
back_step x i l =
    record {
      size = record { defaults = length_rolled x (default_of x) i l.defaults; premiums = length_rolled x (premium_of x) i l.premiums };
      default = λ j k p q.
          rolled_entry x (default_of x) i l.defaults j k p q ∙ rule_is x i k _ _
          ∙ ap₂ (backward_rule x i k) (ap (λ y. node_in x l.defaults j (suc k) + y) (default_defaulted x j i k)) (ap (λ y. node_in x l.defaults j k + y) (default_survived x j i k) ∙ add-zero _);
      premium = λ j k p q.
          rolled_entry x (premium_of x) i l.premiums j k p q ∙ rule_is x i k _ _
          ∙ ap₂ (backward_rule x i k) (ap (λ y. node_in x l.premiums j (suc k) + y) (premium_defaulted x j i k)) (ap (λ y. node_in x l.premiums j k + y) (premium_survived x j i k));
    }

pub back_step_once : (x : Terms) (i : ℕ) (l m n : Rows) → BackStep x i l m → BackStep x i l n → m ≡ n
back_step_once x i l m n p q =
    rows_same m n
    (row_once x m.defaults n.defaults p.size.defaults q.size.defaults (λ j k a b. p.default j k a b ∙ sym (q.default j k a b)))
    (row_once x m.premiums n.premiums p.size.premiums q.size.premiums (λ j k a b. p.premium j k a b ∙ sym (q.premium j k a b)))

-- ---- c steps back

-- The first of suc c steps comes off: step i to i - 1, then c steps from there.
pub rolled_peel : (x : Terms) (leg : ℕ → Leg) (i c : ℕ) (row : List ℕ)
    → rolled_back x leg i (suc c) row ≡ rolled_back x leg (i - 1) c (rolled x leg (i - 1) row)
rolled_peel x leg i c row =
    let e : suc c ≡ 1 + c = omega arith in
    ap (λ (n : ℕ). rolled_back x leg i n row) e ∙ sym (rolled_join x leg i 1 c row) ∙ ap (rolled_back x leg (i - 1) c) one
  where
    one : rolled_back x leg i 1 row ≡ rolled x leg (i - 1) row
    one = unfold rolled_back in refl

pub rolls_none : (x : Brought) (i : ℕ) (l : Rows) → rolls x i 0 l ≡ l
unfolding rolls rolled_back
rolls_none x i l = refl

pub rolls_peel : (x : Brought) (i c : ℕ) (l : Rows) → rolls x i (suc c) l ≡ rolls x (i - 1) c (step_rows x.sheet (i - 1) l)
unfolding rolls step_rows
rolls_peel x i c l =
    λ t. record {
      defaults = rolled_peel x.sheet (default_of x.sheet) i c l.defaults t;
      premiums = rolled_peel x.sheet (premium_of x.sheet) i c l.premiums t;
    }

pub rolls_back_steps : (x : Brought) (c i : ℕ) (l : Rows) → BackSteps x.sheet c i l (rolls x i c l)
unfolding BackSteps
rolls_back_steps x zero i l = sym (rolls_none x i l)
rolls_back_steps x (suc c) i l = (
  step_rows x.sheet (i - 1) l,
  back_step x.sheet (i - 1) l,
  subst (BackSteps x.sheet c (i - 1) (step_rows x.sheet (i - 1) l)) (sym (rolls_peel x i c l)) (rolls_back_steps x c (i - 1) (step_rows x.sheet (i - 1) l)),
)

pub back_steps_once : (x : Terms) (c i : ℕ) (l m n : Rows) → BackSteps x c i l m → BackSteps x c i l n → m ≡ n
unfolding BackSteps
back_steps_once x zero i l m n p q = sym p ∙ q
back_steps_once x (suc c) i l m n (a, s, p) (b, t, q) =
    back_steps_once x c (i - 1) a m n p (subst (λ (r : Rows). BackSteps x c (i - 1) r n) (sym (back_step_once x (i - 1) l a b s t)) q)

-- ---- rows of zeros

module _ (x : Brought) where
  pub zeros_full : FullRows x.sheet (zeros x)
  unfolding zeros
  zeros_full =
      let long = length_row x.sheet (λ j k. 0) in
      record { defaults = long; premiums = long }

  pub zeros_default : (j k : ℕ) → j ≤ x.sheet.tranches → k ≤ x.sheet.names → node_in x.sheet (zeros x).defaults j k ≡ 0
  unfolding zeros
  zeros_default j k p q = node_row x.sheet (λ j k. 0) j k p q

  pub zeros_premium : (j k : ℕ) → j ≤ x.sheet.tranches → k ≤ x.sheet.names → node_in x.sheet (zeros x).premiums j k ≡ 0
  unfolding zeros
  zeros_premium j k p q = node_row x.sheet (λ j k. 0) j k p q
