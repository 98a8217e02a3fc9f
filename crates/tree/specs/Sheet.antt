-- A sheet by its lists, and what each means on the tree (document 01, 'Sheet and units', 'Arithmetic and cash' and 'Walking back').
use Rattle.std.specs.Prelude.{ℕ, suc, pred, ◌+◌, ◌-◌, ◌*◌, ◌≡◌, cond, [], ◌∷◌, get_or, drop, ltb}
use Rattle.cash.specs.Units.{B}
use Rattle.sheet.specs.Terms.{Terms, sum_of}
use Rattle.sheet.specs.Periods.{period_of}
use Rattle.cash.specs.Losses.{pool_loss, pool_recovery, tranche_loss, tranche_outstanding, index_outstanding}
use Rattle.tree.specs.Paths.{Tree}
use Rattle.tree.specs.Backward.{Leg, over, leg_value, leg_exact}
use Rattle.tree.specs.Legs.{default_leg, premium_leg, mark}

-- p: the chance of a default into step s from the count k, in the period that holds s. None comes from the last count. ('Sheet and units', and T-06)
unfoldable pub hazard_of : Terms → ℕ → ℕ → ℕ
hazard_of x s k = cond (ltb k x.names) (get_or x.hazards (period_of x.starts s * x.names + k) 0) 0

-- v and a of step s stand at s - 1 in their lists. ('Sheet and units')
unfoldable pub discount_of : Terms → ℕ → ℕ
discount_of x s = get_or x.discounts (pred s) 0

unfoldable pub accrual_of : Terms → ℕ → ℕ
accrual_of x s = get_or x.accruals (pred s) 0

-- e of step s, likewise. (T-01)
unfoldable pub elapsed_of : Terms → ℕ → ℕ
elapsed_of x s = get_or x.elapsed (pred s) 0

-- No default pays an elapsed premium: all fractions are 0.
abbrev pub NoneElapsed : Terms → Type 0
NoneElapsed x = (s : ℕ) → elapsed_of x s ≡ 0

-- L(k) ('Arithmetic and cash')
unfoldable pub pool_loss_of : Terms → ℕ → ℕ
pool_loss_of x k = pool_loss x.names x.recovery k

-- Z(k) (T-12)
unfoldable pub pool_recovery_of : Terms → ℕ → ℕ
pool_recovery_of x k = pool_recovery x.names x.recovery k

-- M(k) of tranche j; tranche r is the index. ('Arithmetic and cash')
unfoldable pub loss_of : Terms → ℕ → ℕ → ℕ
loss_of x j k =
    cond (ltb j x.tranches)
    (tranche_loss (get_or x.attachments j 0) (get_or x.attachments (suc j) 0) (pool_loss_of x k))
    (pool_loss_of x k)

-- Its width. ('Arithmetic and cash')
unfoldable pub width_of : Terms → ℕ → ℕ
width_of x j = cond (ltb j x.tranches) (get_or x.attachments (suc j) 0 - get_or x.attachments j 0) (B - x.recovery)

-- O(k) of tranche j. ('Arithmetic and cash', and T-12)
unfoldable pub outstanding_of : Terms → ℕ → ℕ → ℕ
outstanding_of x j k =
    cond (ltb j x.tranches)
    (tranche_outstanding (get_or x.attachments j 0) (get_or x.attachments (suc j) 0) (pool_loss_of x k) (pool_recovery_of x k))
    (index_outstanding (pool_loss_of x k) (pool_recovery_of x k))

-- The tree of a sheet. ('Walking back', as all below)
unfoldable pub tree_of : Terms → Tree
tree_of x = record { names = x.names; hazard = hazard_of x; discount = discount_of x }

-- The legs of tranche j.
unfoldable pub default_of : Terms → ℕ → Leg
default_of x j = default_leg (loss_of x j)

unfoldable pub premium_of : Terms → ℕ → Leg
premium_of x j = premium_leg (accrual_of x) (elapsed_of x) (outstanding_of x j)

-- D and A of tranche j at step i and count k, by the rounded rule over the h steps after i.
unfoldable pub D : Terms → ℕ → ℕ → ℕ → ℕ → ℕ
D x j = leg_value (tree_of x) (default_of x j)

unfoldable pub A : Terms → ℕ → ℕ → ℕ → ℕ → ℕ
A x j = leg_value (tree_of x) (premium_of x j)

-- The exact values that they stand for, over B ^ (2 h + 1).
unfoldable pub exact_d : Terms → ℕ → ℕ → ℕ → ℕ → ℕ
exact_d x j = leg_exact (tree_of x) (default_of x j)

unfoldable pub exact_a : Terms → ℕ → ℕ → ℕ → ℕ → ℕ
exact_a x j = leg_exact (tree_of x) (premium_of x j)

-- q: how many of the h steps after step i are premium dates.
unfoldable pub dates : Terms → ℕ → ℕ → ℕ
dates x h i = over (λ s. mark (accrual_of x s)) h i

-- f: how many of them have an elapsed fraction. (T-01)
unfoldable pub elapsed_count : Terms → ℕ → ℕ → ℕ
elapsed_count x h i = over (λ s. mark (elapsed_of x s)) h i

-- The distance of A over those steps, in half units: h + (q + f) / 2 units.
unfoldable pub premium_halves : Terms → ℕ → ℕ → ℕ
premium_halves x h i = 2 * h + dates x h i + elapsed_count x h i

-- Ceilings at count k: what tranche j has left to lose; and the accruals after step i, a unit for each name that is left and two for each step to
-- come. (T-01, on the second)
unfoldable pub default_most : Terms → ℕ → ℕ → ℕ
default_most x j k = width_of x j - loss_of x j k

unfoldable pub premium_most : Terms → ℕ → ℕ → ℕ
premium_most x i k = sum_of (drop i x.accruals) + (x.names - k) + 2 * (x.steps - i)

-- The attachment points run from 0 to B, so that the tranches are the whole pool. (T-12)
pub record WholePool (x : Terms) : Type 0 where
  pub first : get_or x.attachments 0 0 ≡ 0
  pub last : get_or x.attachments x.tranches 0 ≡ B

-- The sheet with the one tranche that spans the tranches of x.
unfoldable pub spanning : Terms → Terms
spanning x =
    record {
      names = x.names;
      steps = x.steps;
      tranches = 1;
      recovery = x.recovery;
      attachments = get_or x.attachments 0 0 ∷ get_or x.attachments x.tranches 0 ∷ [];
      starts = x.starts;
      hazards = x.hazards;
      discounts = x.discounts;
      accruals = x.accruals;
      elapsed = x.elapsed;
    }
