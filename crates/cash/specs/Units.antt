-- Units and rounding (document 01, 'Sheet and units' and 'Arithmetic and cash').
use Rattle.std.specs.Prelude.{ℕ, ◌+◌, ◌/◌}

-- A billion: the units of one pool, and the certainty of a chance, a discount or a year.
unfoldable pub B : ℕ
B = 1_000_000_000

-- y billionths to the nearest whole number, a half upwards.
unfoldable pub half : ℕ → ℕ
half y = (y + 500_000_000) / B
