-- With all fractions 0 no default pays a premium.
use Rattle.std.proofs.Common.{ℕ, suc, ◌+◌, ◌-◌, ◌*◌, ◌≡◌, refl, ◌∙◌, ap, add-zero, zero-mul, arith}
use mathlib.Core.Path.{fun_ext}
use Rattle.cash.specs.Units.{B, half}
use Rattle.cash.specs.Losses.{elapsed_payment}
use Rattle.sheet.specs.Terms.{Terms}
use Rattle.tree.specs.Paths.{Move, survive, default}
use Rattle.tree.specs.Backward.{Leg, over, leg_value, leg_exact}
use Rattle.tree.specs.Legs.{premium_cash, premium_exact, elapsed_cash, elapsed_exact, mark}
use Rattle.tree.specs.Sheet.{accrual_of, elapsed_of, NoneElapsed, outstanding_of, tree_of, premium_of, A, exact_a, dates, elapsed_count, premium_halves}
use Rattle.tree.specs.DatesOnly.{dates_only, dates_most, NoneElapsedByDates, DatesMostKept}
use Rattle.tree.proofs.Rolling.{over_zero}
use Rattle.tree.proofs.Ceilings.{date_ceiling}
use Rattle.tree.proofs.Sheets.{fair_of, outstanding_within, accruals_after_lem}

pays_none : (y z : ℕ) → elapsed_payment 0 y z ≡ 0
unfolding elapsed_payment half B
pays_none y z = rw (zero-mul (y - z)) refl

mark_none : mark 0 ≡ 0
unfolding mark
mark_none = refl

module _ (x : Terms) (none : NoneElapsed x) (j : ℕ) where
  cash_none : (s k : ℕ) (m : Move) → elapsed_cash (elapsed_of x) (outstanding_of x j) s k m ≡ 0
  unfolding elapsed_cash
  cash_none s k default = ap (λ (e : ℕ). elapsed_payment e (outstanding_of x j k) (outstanding_of x j (suc k))) (none s) ∙ pays_none _ _
  cash_none s k survive = refl

  exact_none : (s k : ℕ) (m : Move) → elapsed_exact (elapsed_of x) (outstanding_of x j) s k m ≡ 0
  unfolding elapsed_exact
  exact_none s k default = ap (λ (e : ℕ). e * (outstanding_of x j k - outstanding_of x j (suc k))) (none s) ∙ zero-mul _
  exact_none s k survive = refl

  pub by_dates : premium_of x j ≡ dates_only x j
  unfolding premium_of dates_only
  by_dates t =
      record {
        exactly = fun_ext (λ s. fun_ext (λ k. fun_ext (λ m. ap (λ y. premium_exact (accrual_of x) (outstanding_of x j) s k m + y) (exact_none s k m) ∙ add-zero _))) t;
        rounded = fun_ext (λ s. fun_ext (λ k. fun_ext (λ m. ap (λ y. premium_cash (accrual_of x) (outstanding_of x j) s k m + y) (cash_none s k m) ∙ add-zero _))) t;
        halves = fun_ext (λ s. ap (λ e. mark (accrual_of x s) + mark e) (none s) ∙ ap (λ y. mark (accrual_of x s) + y) mark_none ∙ add-zero _) t;
      }

pub none_elapsed : NoneElapsedByDates
unfolding A exact_a premium_halves elapsed_count
none_elapsed x none =
    record {
      leg = by_dates x none;
      premium = λ j h i k. ap (λ (g : Leg). leg_value (tree_of x) g h i k) (by_dates x none j);
      premium_exact = λ j h i k. ap (λ (g : Leg). leg_exact (tree_of x) g h i k) (by_dates x none j);
      distance = λ h i.
          ap (λ (w : ℕ → ℕ). 2 * h + dates x h i + over w h i) (fun_ext (λ s. ap mark (none s) ∙ mark_none)) ∙ omega (arith, over_zero h i);
    }

pub dates_most_kept : DatesMostKept
unfolding dates_only dates_most tree_of
dates_most_kept x w j row h i starts k l =
    omega (arith, accruals_after_lem x h i, date_ceiling (tree_of x) (fair_of x w) (accrual_of x) (outstanding_of x j) row _ (λ k l. outstanding_within x w.tranches j k) starts h i k l)
