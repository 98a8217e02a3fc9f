-- The distribution of the default count (document 01, 'Going forward').
use Rattle.std.specs.Prelude.{ℕ, zero, suc, ◌+◌, ◌-◌, ◌*◌, ◌^◌, cond, List, [], ◌∷◌, eqb}
use Rattle.cash.specs.Units.{B, half}
use Rattle.cash.specs.Sums.{sum_to}
use Rattle.tree.specs.Paths.{Move, count_after, Tree, path_sum}

-- 1 where two counts are the same, and else 0.
unfoldable pub same : ℕ → ℕ → ℕ
same x y = cond (eqb x y) 1 0

-- What moves in step s from the count k of a row to the next count.
unfoldable pub outflow : Tree → ℕ → (ℕ → ℕ) → ℕ → ℕ
outflow t s q k = half (q k * t.hazard s k)

-- What a count gets from the count below it.
unfoldable pub from_below : (ℕ → ℕ) → ℕ → ℕ
from_below f zero = 0
from_below f (suc k) = f k

-- The row after step s, every move taken from the row before it.
unfoldable pub pushed : Tree → ℕ → (ℕ → ℕ) → ℕ → ℕ
pushed t s q k = q k - outflow t s q k + from_below (outflow t s q) k

-- Q(k) after h steps: B at the count 0 and 0 elsewhere, then h steps.
unfoldable pub distribution : Tree → ℕ → ℕ → ℕ
distribution t zero k = B * same 0 k
distribution t (suc h) k = pushed t (suc h) (distribution t h) k

-- The count that a list of moves from the count k ends at.
unfoldable pub lands : ℕ → List Move → ℕ
lands k [] = k
lands k (m ∷ ms) = lands (count_after k m) ms

-- The exact probability of x defaults after h steps: the weights of the lists of moves that end there, over B ^ h.
unfoldable pub probability : Tree → ℕ → ℕ → ℕ
probability t h x = path_sum t (λ ms. same (lands 0 ms) x) h 0 0

-- How far apart two numbers are.
unfoldable pub apart : ℕ → ℕ → ℕ
apart x y = x - y + (y - x)

-- The absolute errors of all counts after h steps: a number of units over B ^ h.
unfoldable pub errors : Tree → ℕ → ℕ
errors t h = sum_to (suc t.names) (λ k. apart (distribution t h k * B ^ h) (probability t h k * B))
