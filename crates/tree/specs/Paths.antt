-- Exact values: sums over explicit lists of moves (document 01, 'Walking back', on the exact value).
use Rattle.std.specs.Prelude.{ℕ, zero, suc, ◌+◌, ◌-◌, ◌*◌, ◌^◌, ◌≤◌, ◌≡◌, Bool, true, ◌&&◌, cond, List, [], ◌∷◌, ◌++◌, map, length, leb}
use Rattle.cash.specs.Units.{B}

-- What a step does: every name survives it, or one defaults. (Document 01 says stay and default.)
pub data Move : Type 0 where
  survive default : Move

-- The count of defaults after a move from the count k.
abbrev pub count_after : ℕ → Move → ℕ
count_after k survive = k
count_after k default = suc k

-- Cash by the step paid into, the count before the step, and the move.
abbrev pub Cash : Type 0
Cash = ℕ → ℕ → Move → ℕ

-- The tree: its names, the chance in billionths that a default comes into step s from the count k, and the discount from step s to the step before.
pub record Tree : Type 0 where
  pub names : ℕ
  pub hazard : ℕ → ℕ → ℕ
  pub discount : ℕ → ℕ

-- No default comes from the last count, and chances and discounts are at most B.
pub record Fair (t : Tree) : Type 0 where
  pub last : (s : ℕ) → t.hazard s t.names ≡ 0
  pub sure : (s k : ℕ) → t.hazard s k ≤ B
  pub shrinks : (s : ℕ) → t.discount s ≤ B

-- The chance, in billionths, of a move into step s from the count k.
abbrev pub chance : Tree → ℕ → ℕ → Move → ℕ
chance t s k default = t.hazard s k
chance t s k survive = B - t.hazard s k

-- Every list of h moves.
unfoldable pub all_moves : ℕ → List (List Move)
all_moves zero = [] ∷ []
all_moves (suc h) = map (λ ms. default ∷ ms) (all_moves h) ++ map (λ ms. survive ∷ ms) (all_moves h)

-- Whether a list of moves from the count k keeps the count at n or below.
unfoldable pub keeps : ℕ → ℕ → List Move → Bool
keeps n k [] = true
keeps n k (m ∷ ms) = leb (count_after k m) n && keeps n (count_after k m) ms

-- The lists for which a test holds.
unfoldable pub those : (List Move → Bool) → List (List Move) → List (List Move)
those ok [] = []
those ok (ms ∷ l) = cond (ok ms) (ms ∷ those ok l) (those ok l)

-- Every list of h moves that keeps a count that starts at k at n or below.
unfoldable pub paths : ℕ → ℕ → ℕ → List (List Move)
paths n h k = those (keeps n k) (all_moves h)

-- The product of the chances of a list of moves from the count k at step i: a number over B ^ length.
unfoldable pub weight : Tree → ℕ → ℕ → List Move → ℕ
weight t i k [] = 1
weight t i k (m ∷ ms) = chance t (suc i) k m * weight t (suc i) (count_after k m) ms

-- The cash of a list of moves from the count k at step i, each payment brought back by d and by the discounts of the steps from i + 1 to its own.
-- Cash u is a number over B, and the sum a number over B ^ (length + 1), where d is 1.
unfoldable pub paid : Tree → Cash → ℕ → ℕ → ℕ → List Move → ℕ
paid t u d i k [] = 0
paid t u d i k (m ∷ ms) =
    d * t.discount (suc i) * u (suc i) k m * B ^ length ms + paid t u (d * t.discount (suc i)) (suc i) (count_after k m) ms

-- The sum of f over some lists of moves.
unfoldable pub total : (List Move → ℕ) → List (List Move) → ℕ
total f [] = 0
total f (ms ∷ l) = f ms + total f l

-- The sum, over every list of h moves from the count k at step i, of its weight times f.
unfoldable pub path_sum : Tree → (List Move → ℕ) → ℕ → ℕ → ℕ → ℕ
path_sum t f h i k = total (λ ms. weight t i k ms * f ms) (paths t.names h k)

-- The exact value at step i and count k of the cash u in the h steps that follow: one whole number, over B ^ (2 h + 1).
unfoldable pub exact : Tree → Cash → ℕ → ℕ → ℕ → ℕ
exact t u h i k = path_sum t (paid t u 1 i k) h i k
