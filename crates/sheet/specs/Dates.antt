-- Premium dates: steps whose accrual is not 0 (document 01, 'Sheet and units').
use Rattle.std.specs.Prelude.{ℕ, zero, suc, List, [], ◌∷◌}

-- The accrual of the first premium date among steps, by their accruals; 0 where none is one. (T-01)
unfoldable pub next_accrual : List ℕ → ℕ
next_accrual [] = 0
next_accrual (zero ∷ later) = next_accrual later
next_accrual (suc a ∷ later) = suc a
