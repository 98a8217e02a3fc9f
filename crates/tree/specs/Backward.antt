-- The rounded rule, one step back at a time (document 01, 'Walking back').
use Rattle.std.specs.Prelude.{ℕ, zero, suc, ◌+◌, ◌-◌, ◌*◌}
use Rattle.cash.specs.Units.{B, half}
use Rattle.cash.specs.Near.{Near}
use Rattle.tree.specs.Paths.{Move, survive, default, Cash, Tree, exact}

-- What a node is worth one step before a default leads to one figure and survival to another: rounded once for the chance and once for the discount.
unfoldable pub roll_node : ℕ → ℕ → ℕ → ℕ → ℕ
roll_node hazard discount defaulted survived = half (discount * half (hazard * defaulted + (B - hazard) * survived))

-- The value at step i and count k of a row q that stands h steps on, and of the rounded cash r in between.
-- At the last count the hazard is 0, so only the second term counts.
unfoldable pub back_from : Tree → Cash → (ℕ → ℕ) → ℕ → ℕ → ℕ → ℕ
back_from t r q zero i k = q k
back_from t r q (suc h) i k =
    roll_node (t.hazard (suc i) k) (t.discount (suc i))
    (back_from t r q h (suc i) (suc k) + r (suc i) k default)
    (back_from t r q h (suc i) k + r (suc i) k survive)

-- From rows of zeros, as an open leaves them.
unfoldable pub back : Tree → Cash → ℕ → ℕ → ℕ → ℕ
back t r = back_from t r (λ k. 0)

-- The sum of w over the h steps after step i.
unfoldable pub over : (ℕ → ℕ) → ℕ → ℕ → ℕ
over w zero i = 0
over w (suc h) i = w (suc i) + over w h (suc i)

-- A leg: its exact cash, a number over B; its rounded cash; and by step the half units that may lie between the two.
pub record Leg : Type 0 where
  pub exactly : Cash
  pub rounded : Cash
  pub halves : ℕ → ℕ

-- The rounded cash of a leg lies so near its exact cash.
abbrev pub Agrees : Leg → Type 0
Agrees g = (s k : ℕ) (m : Move) → Near (g.halves s * B) (2 * (g.rounded s k m * B)) (2 * g.exactly s k m)

-- The value of a leg by the rounded rule, its exact value over B ^ (2 h + 1), and the half units that may lie between them.
unfoldable pub leg_value : Tree → Leg → ℕ → ℕ → ℕ → ℕ
leg_value t g h i k = back t g.rounded h i k

unfoldable pub leg_exact : Tree → Leg → ℕ → ℕ → ℕ → ℕ
leg_exact t g h i k = exact t g.exactly h i k

unfoldable pub leg_halves : Leg → ℕ → ℕ → ℕ
leg_halves g h i = 2 * h + over g.halves h i
