-- A number outside its limits.
use Rattle.std.specs.Prelude.{ℕ, Bool, ◌||◌, ltb}

abbrev pub outside : ℕ → ℕ → ℕ → Bool
outside least most y = ltb y least || ltb most y
