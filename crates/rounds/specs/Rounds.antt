-- The words of fairness: how far a place lies after another, and how many turns it has.
use Rattle.std.specs.Prelude.{ℕ, suc, ◌+◌, ◌-◌, cond, List, [], ◌∷◌, ltb, eqb}

-- How many places on x lies from s, in a table of n, in cyclic order: 1 to n, and n from a place to itself.
unfoldable pub ahead : ℕ → ℕ → ℕ → ℕ
ahead n s x = cond (ltb s x) (x - s) (x + n - s)

-- How many of these turns are the walk's at place q.
unfoldable pub turns_at : ℕ → List ℕ → ℕ
turns_at q [] = 0
turns_at q (p ∷ places) = cond (eqb q p) (suc (turns_at q places)) (turns_at q places)
