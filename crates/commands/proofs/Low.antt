-- Laws of `low_first`.
use Rattle.std.proofs.Common.{ℕ, zero, suc, ◌+◌, ◌^◌, ◌≤◌, ◌<◌, ◌≡◌, List, pow-suc, arith, get_or}
use Rattle.commands.specs.Commands.{low_first}
use Rattle.commands.specs.Sizes.{Bytes}

-- one byte is the byte itself
pub one : (s : List ℕ) (at : ℕ) → get_or s at 0 ≡ low_first 1 s at
unfolding low_first
one s at = omega arith

-- a number of some bytes is below 256 to the power of their count
pub low_below : (w : ℕ) (s : List ℕ) (at : ℕ) → Bytes s → low_first w s at < 256 ^ w
unfolding low_first
low_below zero s at h = omega arith
low_below (suc w) s at h = omega (arith, h at, low_below w s (at + 1) h, pow-suc 256 w)

module _ (s : List ℕ) (h : Bytes s) (at : ℕ) where
  pub one_below : low_first 1 s at ≤ 255
  one_below = omega (arith, low_below 1 s at h)

  pub two_below : low_first 2 s at ≤ 65535
  two_below = omega (arith, low_below 2 s at h)

  pub four_below : low_first 4 s at < 2 ^ 32
  four_below = omega (arith, low_below 4 s at h)
