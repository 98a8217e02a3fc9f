-- Laws of B and half.
use Rattle.std.proofs.Common.{ℕ, ◌*◌, ◌≤◌, ◌<◌, ◌≡◌, arith, lit<}
use Rattle.cash.specs.Units.{B, half}
use Rattle.cash.specs.Near.{Near}

pub B_positive : 0 < B
unfolding B
B_positive = lit< tt

-- half a unit, doubled so that it is whole
pub half_near : (y : ℕ) → Near B (2 * (half y * B)) (2 * y)
unfolding B half
half_near y = omega arith

pub half_rises : (x y : ℕ) → x ≤ y → half x ≤ half y
unfolding B half
half_rises x y h = omega arith

pub half_whole : (x : ℕ) → half (B * x) ≡ x
unfolding B half
half_whole x = omega arith

-- whole billions bound what is rounded
pub half_most : (y c : ℕ) → y ≤ c * B → half y ≤ c
unfolding B half
half_most y c h = omega arith
