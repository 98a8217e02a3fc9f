-- The accruals after a step.
use Rattle.std.proofs.Common.{ℕ, zero, suc, ◌+◌, ◌≤◌, ◌<◌, min, ◌≡◌, refl, ap, sym, ◌∙◌, List, [], ◌∷◌, le_refl, arith, length, get_or, drop}
use Rattle.std.proofs.Common.{drop_of_length-le, drop-cons}
use native.Mathlib.Decide.{dec_lt}
use Rattle.std.specs.List.{sum}
use Rattle.std.proofs.lemmas.List.Sums.{sum_by-cons}
use Rattle.sheet.specs.Terms.{sum_of}

-- the library's sum of a list
pub sum_listed : (l : List ℕ) → sum l ≡ sum_of l
unfolding sum_of
sum_listed [] = refl
sum_listed (x ∷ l) = sum_by-cons (λ y. y) x l ∙ ap (λ (n : ℕ). x + n) (sum_listed l)

pub sum_drop_most : (i : ℕ) (l : List ℕ) → sum_of (drop i l) ≤ sum_of l
unfolding sum_of
sum_drop_most zero l = le_refl _
sum_drop_most (suc i) [] = le_refl _
sum_drop_most (suc i) (x ∷ l) = omega (arith, sum_drop_most i l)

pub sum_drop : (i : ℕ) (l : List ℕ) → i < length l → sum_of (drop i l) ≡ get_or l i 0 + sum_of (drop (suc i) l)
unfolding sum_of
sum_drop i l h = ap sum_of (drop-cons l i 0 h)

-- nothing stands past the end
pub sum_drop_past : (i : ℕ) (l : List ℕ) → length l ≤ i → sum_of (drop i l) ≡ 0
unfolding sum_of
sum_drop_past i l h = ap sum_of (drop_of_length-le l h)

-- a start past the end sums to nothing, as the end does
pub sum_drop_from : (i n : ℕ) (l : List ℕ) → i ≡ min n (length l) → sum_of (drop i l) ≡ sum_of (drop n l)
sum_drop_from i n l e = go (dec_lt (length l) n)
  where
    go : Dec (length l < n) → sum_of (drop i l) ≡ sum_of (drop n l)
    go (yes h) = sum_drop_past i l (omega arith) ∙ sym (sum_drop_past n l (omega arith))
    go (no h) =
        let f : i ≡ n = omega arith in
        ap (λ (m : ℕ). sum_of (drop m l)) f
