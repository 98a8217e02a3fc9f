-- Laws of nearness.
use Rattle.std.proofs.Common.{ℕ, ◌+◌, ◌*◌, ◌≤◌, ◌<◌, ◌≡◌, mul-le-mul_left, le_of_mul-le-mul_right, arith}
use Rattle.cash.specs.Near.{Near}

pub near_refl : (d x : ℕ) → Near d x x
near_refl d x = omega arith

pub near_swap : {d x y : ℕ} → Near d x y → Near d y x
near_swap h = omega arith

pub near_trans : {d e x y z : ℕ} → Near d x y → Near e y z → Near (d + e) x z
near_trans h k = omega arith

pub near_add : {d e x y a b : ℕ} → Near d x y → Near e a b → Near (d + e) (x + a) (y + b)
near_add h k = omega arith

pub near_times : {d x y : ℕ} (c : ℕ) → Near d x y → Near (c * d) (c * x) (c * y)
near_times c h = omega (arith, mul-le-mul_left c h.below, mul-le-mul_left c h.above)

-- the same, with a larger distance and its parts written otherwise
pub near_as : {d e x y a b : ℕ} → Near d x y → d ≤ e → x ≡ a → y ≡ b → Near e a b
near_as h l p q = omega arith

pub near_halve : {d x y : ℕ} → Near (2 * d) (2 * x) (2 * y) → Near d x y
near_halve h = omega arith

pub near_cancel : {d x y : ℕ} (c : ℕ) → 0 < c → Near (d * c) (x * c) (y * c) → Near d x y
near_cancel {d} {x} {y} c p h =
    record {
      below = le_of_mul-le-mul_right (omega (arith, h.below)) p;
      above = le_of_mul-le-mul_right (omega (arith, h.above)) p;
    }
