-- The starts at or below a step, as a count.
use Rattle.std.proofs.Common.{◌≡◌, ℕ, ◌+◌, List, Bool, true, false, cond, leb, count_by, refl, arith}
use Rattle.std.proofs.lemmas.List.Recursion.{is_count_by}
use Rattle.sheet.specs.Periods.{begun}

one_more : (b : Bool) (n : ℕ) → cond b 1 0 + n ≡ cond b (1 + n) n
one_more true n = refl
one_more false n = omega arith

pub begun_count : (l : List ℕ) (s : ℕ) → begun l s ≡ count_by (λ a. leb a s) l
unfolding begun
begun_count l s = is_count_by (λ xs. begun xs s) (λ a. leb a s) refl (λ a xs. one_more (leb a s) (begun xs s)) l
