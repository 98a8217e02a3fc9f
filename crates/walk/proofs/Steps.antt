-- Rows that hold D and A, and that a step and c steps back take such rows to such rows.
use Rattle.std.proofs.Common.{ℕ, zero, suc, ◌+◌, ◌-◌, ◌*◌, ◌≤◌, ◌≡◌, refl, sym, ◌∙◌, ap, subst₂, subst, arith, add-zero, get_or}
use Rattle.cash.specs.Units.{half}
use Rattle.cash.specs.Losses.{default_payment, premium_payment, elapsed_payment}
use Rattle.tree.specs.Backward.{roll_node, back_from, back, leg_value}
use Rattle.tree.specs.Legs.{default_cash, premium_cash, elapsed_cash}
use Rattle.sheet.specs.Terms.{Terms}
use Rattle.sheet.specs.Limits.{TermsWithin}
use Rattle.tree.specs.Sheet.{hazard_of, discount_of, accrual_of, elapsed_of, loss_of, outstanding_of, tree_of, default_of, premium_of, D, A}
use Rattle.tree.proofs.Statements.{ceilings}
use Rattle.rows.specs.Rows.{node_in, Rows, AtEveryNode}
use Rattle.rows.proofs.Rolled.{node_same}
use Rattle.walk.specs.RefusalOrders.{FullRows, Clean}
use Rattle.walk.specs.CallRules.{BackStep, BackSteps}
use Rattle.walk.proofs.Walking.{rule_is}

-- Both rows at position i, h steps before the end.
pub record Holding (x : Terms) (h i : ℕ) (l : Rows) : Type 0 where
  pub size : FullRows x l
  pub default : AtEveryNode x (λ j k. node_in x l.defaults j k ≡ D x j h i k)
  pub premium : AtEveryNode x (λ j k. node_in x l.premiums j k ≡ A x j h i k)

-- ---- a step

D_start : (x : Terms) (j i k : ℕ) → D x j 0 i k ≡ 0
unfolding D leg_value back back_from
D_start x j i k = refl

A_start : (x : Terms) (j i k : ℕ) → A x j 0 i k ≡ 0
unfolding A leg_value back back_from
A_start x j i k = refl

D_step : (x : Terms) (j h i k : ℕ) → roll_node (hazard_of x (suc i) k) (discount_of x (suc i)) (D x j h (suc i) (suc k) + (loss_of x j (suc k) - loss_of x j k)) (D x j h (suc i) k) ≡ D x j (suc h) i k
unfolding D leg_value back back_from tree_of default_of default_cash default_payment
D_step x j h i k = simp add-zero

A_step : (x : Terms) (j h i k : ℕ) →
    roll_node (hazard_of x (suc i) k) (discount_of x (suc i))
    (A x j h (suc i) (suc k)
    + (half (get_or x.accruals i 0 * outstanding_of x j (suc k)) + half (get_or x.elapsed i 0 * (outstanding_of x j k - outstanding_of x j (suc k)))))
    (A x j h (suc i) k + half (get_or x.accruals i 0 * outstanding_of x j k)) ≡ A x j (suc h) i k
unfolding A leg_value back back_from tree_of premium_of premium_cash premium_payment elapsed_cash elapsed_payment accrual_of elapsed_of
A_step x j h i k = rw (add-zero (half (get_or x.accruals i 0 * outstanding_of x j k)))

pub step : (x : Terms) (h i : ℕ) (l m : Rows) → BackStep x i l m → Holding x h (suc i) l → Holding x (suc h) i m
step x h i l m s q =
    record {
      size = s.size;
      default = λ j k p r.
          s.default j k p r ∙ sym (rule_is x i k _ _)
          ∙ node_same x (suc i) k (discount_of x (suc i)) _ _ _ _ (λ b. ap (λ y. y + (loss_of x j (suc k) - loss_of x j k)) (q.default j (suc k) p b)) (q.default j k p r)
          ∙ D_step x j h i k;
      premium = λ j k p r.
          s.premium j k p r ∙ sym (rule_is x i k _ _)
          ∙ node_same x (suc i) k (discount_of x (suc i)) _ _ _ _
          (λ b.
          ap (λ y.
          y + (half (get_or x.accruals i 0 * outstanding_of x j (suc k)) + half (get_or x.elapsed i 0 * (outstanding_of x j k - outstanding_of x j (suc k)))))
          (q.premium j (suc k) p b))
          (ap (λ y. y + half (get_or x.accruals i 0 * outstanding_of x j k)) (q.premium j k p r))
          ∙ A_step x j h i k;
    }

-- ---- c steps

pub back_steps_lem : (x : Terms) (c h i : ℕ) (l m : Rows) → c ≤ i → BackSteps x c i l m → Holding x h i l → Holding x (h + c) (i - c) m
unfolding BackSteps
back_steps_lem x zero h i l m b w q =
    let e : h ≡ h + 0 = omega arith in
    let f : i ≡ i - 0 = omega arith in
    subst₂ (λ a b. Holding x a b m) e f (subst (Holding x h i) w q)
back_steps_lem x (suc c) h i l m b (n, s, w) q =
    let e : i ≡ suc (i - 1) = omega arith in
    let d : suc h + c ≡ h + suc c = omega arith in
    let f : (i - 1) - c ≡ i - suc c = omega arith in
    let r : Holding x (suc h) (i - 1) n = step x h (i - 1) l n s (subst (λ a. Holding x h a l) e q) in
    subst₂ (λ a b. Holding x a b m) d f (back_steps_lem x c (suc h) (i - 1) n m (omega arith) w r)

-- ---- from zeros, and under their ceilings

pub zeros_hold : (x : Terms) (l : Rows) → FullRows x l → AtEveryNode x (λ j k. node_in x l.defaults j k ≡ 0) →
    AtEveryNode x (λ j k. node_in x l.premiums j k ≡ 0) → Holding x 0 x.steps l
zeros_hold x l full n m =
    record {
      size = full;
      default = λ j k p r. n j k p r ∙ sym (D_start x j x.steps k);
      premium = λ j k p r. m j k p r ∙ sym (A_start x j x.steps k);
    }

pub clean : (x : Terms) → TermsWithin x → (h i : ℕ) (l : Rows) → i + h ≡ x.steps → Holding x h i l → Clean x i l
clean x within h i l e q =
    record {
      default = λ j k p r. omega (arith, q.default j k p r, (ceilings x within).default j h i k e r);
      premium = λ j k p r. omega (arith, q.premium j k p r, (ceilings x within).premium j h i k e r);
    }
