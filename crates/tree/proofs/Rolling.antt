-- Laws of the rounded rule: one node, many steps.
use Rattle.std.proofs.Common.{ℕ, zero, suc, ◌+◌, ◌-◌, ◌*◌, ◌≤◌, mul-le-mul_left, mul-le-mul_right, le_trans, le_of_eq, zero-add, add-zero, suc-add}
use Rattle.std.proofs.Common.{add-suc, ◌≡◌, refl, sym, ◌∙◌, ap, ap₂, subst, arith}
use mathlib.Core.Path.{fun_ext}
use Rattle.cash.specs.Units.{B, half}
use Rattle.cash.specs.Near.{Near}
use Rattle.cash.proofs.Nearness.{near_add, near_times, near_trans, near_as}
use Rattle.cash.proofs.Rounding.{half_near, half_rises, half_whole, half_most}
use Rattle.tree.specs.Paths.{survive, default, Cash, Tree}
use Rattle.tree.specs.Backward.{roll_node, back_from, over}
use Rattle.tree.proofs.PathSums.{mixed}

-- ---- one node

-- where neither figure is above z, the node is not above z brought back by the discount
pub roll_above : (p v x y z : ℕ) → p ≤ B → p * x ≤ p * z → y ≤ z → roll_node p v x y ≤ half (v * z)
unfolding roll_node
roll_above p v x y z p≤B f g =
    let chanced : half (p * x + (B - p) * y) ≤ z = half_most _ z (omega (arith, mul-le-mul_left (B - p) g, mixed p z p≤B)) in
    half_rises _ _ (mul-le-mul_left v chanced)

-- and where neither is below z, it is not below
pub roll_below : (p v x y z : ℕ) → p ≤ B → p * z ≤ p * x → z ≤ y → half (v * z) ≤ roll_node p v x y
unfolding roll_node
roll_below p v x y z p≤B f g =
    let mixes : B * z ≤ p * x + (B - p) * y = omega (arith, mul-le-mul_left (B - p) g, mixed p z p≤B) in
    let chanced : z ≤ half (p * x + (B - p) * y) = subst (λ (c : ℕ). c ≤ half (p * x + (B - p) * y)) (half_whole z) (half_rises _ _ mixes) in
    half_rises _ _ (mul-le-mul_left v chanced)

-- a discount is at most B
pub half_shrinks : (v z : ℕ) → v ≤ B → half (v * z) ≤ z
half_shrinks v z h = half_most _ z (omega (arith, mul-le-mul_right z h))

pub half_plus : (v z c : ℕ) → v ≤ B → half (v * (z + c)) ≤ half (v * z) + c
unfolding B half
half_plus v z c h = omega (arith, mul-le-mul_right c h)

-- a bound that neither figure passes bounds the node
pub roll_most : (p v x y z : ℕ) → p ≤ B → v ≤ B → p * x ≤ p * z → y ≤ z → roll_node p v x y ≤ z
roll_most p v x y z p≤B v≤B f g = le_trans (roll_above p v x y z p≤B f g) (half_shrinks v z v≤B)

-- A node on a grid of S to the unit, its two figures each within d of a and b there: each of its two roundings adds half a unit.
pub near_roll : (S d p v x y a b : ℕ) → p ≤ B → v ≤ B →
    Near (p * d) (p * (2 * (x * S))) (p * (2 * a)) → Near d (2 * (y * S)) (2 * b) →
    Near (2 * (S * B * B) + B * (B * d)) (2 * (roll_node p v x y * (S * B * B))) (2 * (v * (p * a + (B - p) * b)))
unfolding roll_node
near_roll S d p v x y a b p≤B v≤B f g = near_as (near_trans rounded brought) (omega arith) refl refl
  where
    Y : ℕ
    Y = p * x + (B - p) * y

    Z : ℕ
    Z = p * a + (B - p) * b

    figures : Near (B * d) (2 * (Y * S)) (2 * Z)
    figures = near_as (near_add f (near_times (B - p) g)) (le_of_eq (mixed p d p≤B)) (omega arith) (omega arith)

    chanced : Near (S * B + B * d) (2 * (half Y * (S * B))) (2 * Z)
    chanced = near_trans (near_as (near_times S (half_near Y)) (omega arith) (omega arith) (omega arith)) figures

    brought : Near (B * (S * B + B * d)) (2 * (v * half Y * (S * B))) (2 * (v * Z))
    brought = near_as (near_times v chanced) (mul-le-mul_right (S * B + B * d) v≤B) (omega arith) (omega arith)

    rounded : Near (S * B * B) (2 * (half (v * half Y) * (S * B * B))) (2 * (v * half Y * (S * B)))
    rounded = near_as (near_times (S * B) (half_near (v * half Y))) (omega arith) (omega arith) (omega arith)

-- ---- many steps

-- two calls, one after the other, are one
pub back_join : (t : Tree) (r : Cash) (q : ℕ → ℕ) (h g i : ℕ) → back_from t r q (g + h) i ≡ back_from t r (back_from t r q h (i + g)) g i
unfolding back_from
back_join t r q h zero i = fun_ext (λ k. ap₂ (λ x y. back_from t r q x y k) (zero-add h) (sym (add-zero i)))
back_join t r q h (suc g) i =
    fun_ext (λ k.
    ap (λ x. back_from t r q x i k) (suc-add g h)
    ∙ ap (λ f. roll_node (t.hazard (suc i) k) (t.discount (suc i)) (f (suc k) + r (suc i) k default) (f k + r (suc i) k survive))
    (back_join t r q h g (suc i) ∙ ap (λ x. back_from t r (back_from t r q h x) g (suc i)) (suc-add i g ∙ sym (add-suc i g))))

-- ---- sums over steps

pub over_step : (w : ℕ → ℕ) (h i : ℕ) → over w (suc h) i ≡ w (suc i) + over w h (suc i)
unfolding over
over_step w h i = refl

pub over_zero : (h i : ℕ) → over (λ s. 0) h i ≡ 0
unfolding over
over_zero zero i = refl
over_zero (suc h) i = omega (arith, over_zero h (suc i))

pub over_add : (v w : ℕ → ℕ) (h i : ℕ) → over (λ s. v s + w s) h i ≡ over v h i + over w h i
unfolding over
over_add v w zero i = refl
over_add v w (suc h) i = omega (arith, over_add v w h (suc i))
