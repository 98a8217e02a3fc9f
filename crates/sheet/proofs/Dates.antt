-- Laws of premium dates.
use Rattle.std.proofs.Common.{ℕ, zero, suc, ◌≤◌, zero-le, arith, List, [], ◌∷◌, get_or}
use Rattle.sheet.specs.Terms.{sum_of}
use Rattle.sheet.specs.Dates.{next_accrual}

-- The next date's accrual is one of the list,
pub next_most : (l : List ℕ) (most : ℕ) → ((i : ℕ) → get_or l i 0 ≤ most) → next_accrual l ≤ most
unfolding next_accrual
next_most [] most h = zero-le
next_most (zero ∷ l) most h = next_most l most (λ i. h (suc i))
next_most (suc a ∷ l) most h = h 0

-- so it is at most their sum.
pub next_sum : (l : List ℕ) → next_accrual l ≤ sum_of l
unfolding next_accrual sum_of
next_sum [] = zero-le
next_sum (zero ∷ l) = omega (arith, next_sum l)
next_sum (suc a ∷ l) = omega arith
