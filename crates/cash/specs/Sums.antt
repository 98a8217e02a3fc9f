-- Sums over the numbers below a bound.
use Rattle.std.specs.Prelude.{ℕ, zero, suc, ◌+◌, ◌<◌}

-- f 0 + .. + f (r - 1)
unfoldable pub sum_to : ℕ → (ℕ → ℕ) → ℕ
sum_to zero f = 0
sum_to (suc r) f = sum_to r f + f r

-- c 0 < .. < c r
abbrev pub Rising : ℕ → (ℕ → ℕ) → Type 0
Rising r c = (j : ℕ) → j < r → c j < c (suc j)
