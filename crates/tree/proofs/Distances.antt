-- How far the rounded rule may lie from the exact value, of any leg.
use Rattle.std.proofs.Common.{ℕ, zero, suc, ◌+◌, ◌*◌, ◌^◌, ◌≤◌, ◌<◌, pow-suc, ◌≡◌, refl, ◌∙◌, ap, ◌⊎◌, inl, inr, arith}
use Rattle.cash.specs.Units.{B}
use Rattle.cash.specs.Near.{Near}
use Rattle.cash.proofs.Nearness.{near_add, near_times, near_as}
use Rattle.tree.specs.Paths.{survive, default, Tree, Fair}
use Rattle.tree.specs.Backward.{back_from, back, over, Leg, Agrees, leg_value, leg_exact, leg_halves}
use Rattle.tree.proofs.PathSums.{default_case, exact_step, exact_zero}
use Rattle.tree.proofs.Rolling.{near_roll}

default_near : (t : Tree) → Fair t → (s k : ℕ) → k ≤ t.names → (d a b : ℕ) → (k < t.names → Near d a b) →
    Near (t.hazard s k * d) (t.hazard s k * a) (t.hazard s k * b)
default_near t fair s k l d a b f = go (default_case t fair s k l)
  where
    go : (k < t.names) ⊎ (t.hazard s k ≡ 0) → Near (t.hazard s k * d) (t.hazard s k * a) (t.hazard s k * b)
    go (inl g) = near_times (t.hazard s k) (f g)
    go (inr e) = rw e (omega arith)

grid_suc : (h : ℕ) → B ^ (2 * suc h + 1) ≡ B ^ (2 * h + 1) * B * B
grid_suc h = ap (λ x. B ^ x) (omega arith) ∙ pow-suc B (suc (2 * h + 1)) ∙ ap (λ x. x * B) (pow-suc B (2 * h + 1))

grid_of : (h : ℕ) → B ^ (2 * h + 1) ≡ B ^ (2 * h) * B
grid_of h = ap (λ x. B ^ x) (omega arith) ∙ pow-suc B (2 * h)

-- a value and the cash added to it
with_cash : (h e w X r E u : ℕ) → Near (e * B ^ (2 * h + 1)) (2 * (X * B ^ (2 * h + 1))) (2 * E) → Near (w * B) (2 * (r * B)) (2 * u) →
    Near ((e + w) * B ^ (2 * h + 1)) (2 * ((X + r) * B ^ (2 * h + 1))) (2 * (E + u * B ^ (2 * h)))
with_cash h e w X r E u f g =
    rw grid_of (near_as (near_add (rw grid_of at f) (near_times (B ^ (2 * h)) g)) (omega arith) (omega arith) (omega arith))

pub leg_distance : (t : Tree) → Fair t → (g : Leg) → Agrees g → (h i k : ℕ) → k ≤ t.names →
    Near (leg_halves g h i * B ^ (2 * h + 1)) (2 * (leg_value t g h i k * B ^ (2 * h + 1))) (2 * leg_exact t g h i k)
unfolding leg_halves leg_value leg_exact back back_from over
leg_distance t fair g agrees zero i k l = rw exact_zero (omega arith)
leg_distance t fair g agrees (suc h) i k l =
    rw (exact_step t fair g.exactly h i k l, grid_suc h)
    (near_as
    (near_roll (B ^ (2 * h + 1)) ((2 * h + over g.halves h (suc i) + g.halves (suc i)) * B ^ (2 * h + 1)) (t.hazard (suc i) k) (t.discount (suc i)) _ _ _ _
    (fair.sure (suc i) k) (fair.shrinks (suc i))
    (default_near t fair (suc i) k l _ _ _ (λ below.
    with_cash h (2 * h + over g.halves h (suc i)) (g.halves (suc i)) _ _ _ _ (leg_distance t fair g agrees h (suc i) (suc k) below) (agrees (suc i) k default)))
    (with_cash h (2 * h + over g.halves h (suc i)) (g.halves (suc i)) _ _ _ _ (leg_distance t fair g agrees h (suc i) k l) (agrees (suc i) k survive)))
    (omega arith) refl refl)
