-- What the laws of the tree say of every sheet within limits (document 01, 'Walking back' but where said). Proofs stand in proofs/.
use Rattle.std.specs.Prelude.{ℕ, suc, ◌+◌, ◌-◌, ◌*◌, ◌^◌, ◌≤◌, ◌<◌, ◌≡◌}
use Rattle.cash.specs.Units.{B}
use Rattle.cash.specs.Near.{Near}
use Rattle.cash.specs.Sums.{sum_to}
use Rattle.cash.specs.Losses.{default_payment}
use Rattle.tree.specs.Paths.{Tree, path_sum}
use Rattle.sheet.specs.Terms.{Terms}
use Rattle.tree.specs.Sheet.{accrual_of, elapsed_of, NoneElapsed, tree_of, loss_of, outstanding_of, D, A, exact_d, exact_a, premium_halves}
use Rattle.tree.specs.Sheet.{default_most, premium_most, WholePool, spanning}
use Rattle.tree.specs.Forward.{distribution, errors}

-- The chances of all lists of h moves from a count add to certainty.
abbrev pub Certain : Tree → Type 0
Certain t = (h i k : ℕ) → k ≤ t.names → path_sum t (λ ms. 1) h i k ≡ B ^ h

-- D within h units of its exact value, and A within h + (q + f) / 2 (doubled, so that it is whole).
pub record Distance (x : Terms) : Type 0 where
  pub default : (j h i k : ℕ) → k ≤ x.names → Near (h * B ^ (2 * h + 1)) (D x j h i k * B ^ (2 * h + 1)) (exact_d x j h i k)
  pub premium : (j h i k : ℕ) → k ≤ x.names →
      Near (premium_halves x h i * B ^ (2 * h + 1)) (2 * (A x j h i k * B ^ (2 * h + 1))) (2 * exact_a x j h i k)

-- Where the tranches are the whole pool, their premium legs add to the index's, tranche r of the sheet, within r + 1 times the distance (doubled).
abbrev pub IndexPremiumsAdd : Terms → ℕ → ℕ → ℕ → Type 0
IndexPremiumsAdd x h i k =
    Near ((x.tranches + 1) * premium_halves x h i) (2 * sum_to x.tranches (λ j. A x j h i k)) (2 * A x x.tranches h i k)

-- So it is of the rounded figures; the cash of every step and count, on a date and up to a default, before it is rounded, and the exact
-- values add without any distance. (T-12, and T-01)
pub record IndexPremiums (x : Terms) : Type 0 where
  pub dates : (s k : ℕ) → sum_to x.tranches (λ j. accrual_of x s * outstanding_of x j k) ≡ accrual_of x s * outstanding_of x x.tranches k
  pub elapsed : (s k : ℕ) →
      sum_to x.tranches (λ j. elapsed_of x s * (outstanding_of x j k - outstanding_of x j (suc k)))
      ≡ elapsed_of x s * (outstanding_of x x.tranches k - outstanding_of x x.tranches (suc k))
  pub exact : (h i k : ℕ) → sum_to x.tranches (λ j. exact_a x j h i k) ≡ exact_a x x.tranches h i k
  pub computed : (h i k : ℕ) → k ≤ x.names → IndexPremiumsAdd x h i k

-- The tranches add to the one that spans them within r + 1 times the distance, by the rounded rule at one node (A doubled).
abbrev pub DefaultsAdd : Terms → ℕ → ℕ → ℕ → Type 0
DefaultsAdd x h i k = Near ((x.tranches + 1) * h) (sum_to x.tranches (λ j. D x j h i k)) (D (spanning x) 0 h i k)

abbrev pub PremiumsAdd : Terms → ℕ → ℕ → ℕ → Type 0
PremiumsAdd x h i k =
    Near ((x.tranches + 1) * premium_halves x h i) (2 * sum_to x.tranches (λ j. A x j h i k)) (2 * A (spanning x) 0 h i k)

-- And exactly in their exact values.
pub record Additive (x : Terms) : Type 0 where
  pub default_exact : (h i k : ℕ) → sum_to x.tranches (λ j. exact_d x j h i k) ≡ exact_d (spanning x) 0 h i k
  pub premium_exact : (h i k : ℕ) → sum_to x.tranches (λ j. exact_a x j h i k) ≡ exact_a (spanning x) 0 h i k
  pub default : (h i k : ℕ) → k ≤ x.names → DefaultsAdd x h i k
  pub premium : (h i k : ℕ) → k ≤ x.names → PremiumsAdd x h i k
  pub index : WholePool x → IndexPremiums x

-- Every node of a walk from the last step keeps to its ceilings.
pub record Ceilings (x : Terms) : Type 0 where
  pub default : (j h i k : ℕ) → i + h ≡ x.steps → k ≤ x.names → D x j h i k ≤ default_most x j k
  pub premium : (j h i k : ℕ) → i + h ≡ x.steps → k ≤ x.names → A x j h i k ≤ premium_most x i k

-- A default never lowers the default leg by more than it pays; and it never raises the premium leg, if no premium is paid up to a default: one paid
-- early may be worth more than one paid late. So no jump on walked rows is negative where no fraction is paid. ('Hedge ratio', and T-01)
pub record Jumps (x : Terms) : Type 0 where
  pub default : (j h i k : ℕ) → k < x.names → D x j h i k ≤ default_payment (loss_of x j k) (loss_of x j (suc k)) + D x j h i (suc k)
  pub premium : NoneElapsed x → (j h i k : ℕ) → k < x.names → A x j h i (suc k) ≤ A x j h i k

-- Its errors total at most n × i units after i steps. ('Going forward', as below)
abbrev pub ErrorsWithin : Terms → ℕ → Type 0
ErrorsWithin x i = errors (tree_of x) i ≤ x.names * i * B ^ i

-- The distribution always totals B.
pub record DistributionBounds (x : Terms) : Type 0 where
  pub whole : (i : ℕ) → sum_to (suc x.names) (distribution (tree_of x) i) ≡ B
  pub error : (i : ℕ) → ErrorsWithin x i
