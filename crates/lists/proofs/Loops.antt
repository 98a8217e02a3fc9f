-- A list's tests by its elements are those by its places.
use Rattle.std.proofs.Common.{ℕ, zero, suc, pred, ◌+◌, ◌≤◌, ◌≡◌, refl, sym, ap, ◌∙◌, Bool, true, false, not, ◌||◌, List, [], ◌∷◌, ◌++◌, arith, le_refl}
use Rattle.std.proofs.Common.{add-one, sub-one, ltb-true, ltb-false, le-leb, length, get_or, take, leb, ltb}
use borrow.Author.Tests.{lt-leb}
use lib.Seq.{take-length}
use Rattle.std.specs.List.{fold, list_any, IsAllAdjacentAnswer}
use Rattle.std.proofs.lemmas.List.Folds.{list_any_more, list_any-append}
use Rattle.std.proofs.Math.Bool.{or_assoc, or-false}
use Rattle.rows.specs.Tables.{any}
use Rattle.rows.proofs.Search.{any_hit, any_missed}

-- A fold that keeps what it found is a search by place.
module _ (test : ℕ → Bool) where
  any_listed : (l : List ℕ) (found : Bool) → fold (λ b y. b || test y) found l ≡ (found || list_any test l)
  any_listed [] found = sym (or-false found)
  any_listed (x ∷ l) found = any_listed l (found || test x) ∙ or_assoc found (test x) (list_any test l)

  module _ (l : List ℕ) where
    any_taken : (n : ℕ) → n ≤ length l → list_any test (take n l) ≡ any n (λ i. test (get_or l i 0))
    unfolding any
    any_taken zero h = refl
    any_taken (suc n) h =
        ap (λ m. list_any test (take m l)) (sym (add-one n)) ∙ list_any_more test l n 0 (omega arith)
        ∙ ap (λ (b : Bool). b || test (get_or l n 0)) (any_taken n (omega arith))

    any_by_place : any (length l) (λ i. test (get_or l i 0)) ≡ list_any test l
    any_by_place = sym (any_taken (length l) (le_refl (length l))) ∙ ap (list_any test) (take-length l)

    pub any_folded : fold (λ b y. b || test y) false l ≡ any (length l) (λ i. test (get_or l i 0))
    any_folded = any_listed l false ∙ sym any_by_place

  -- Where a block comes off the front, what is found in it ends the search, and else the rest is searched.
  abbrev pub searched : List ℕ → Bool
  searched l = any (length l) (λ i. test (get_or l i 0))

  any_parted : (block rest : List ℕ) → searched (block ++ rest) ≡ (searched block || searched rest)
  any_parted block rest =
      any_by_place (block ++ rest) ∙ list_any-append test block rest
      ∙ (λ j. sym (any_by_place block) j || sym (any_by_place rest) j)

  pub block_hit : {l : List ℕ} (block rest : List ℕ) → l ≡ block ++ rest → searched block ≡ true → searched l ≡ true
  block_hit block rest parts found = ap searched parts ∙ any_parted block rest ∙ ap (λ b. b || searched rest) found

  pub block_missed : {l : List ℕ} (block rest : List ℕ) → l ≡ block ++ rest → searched block ≡ false → searched l ≡ searched rest
  block_missed block rest parts none = ap searched parts ∙ any_parted block rest ∙ ap (λ b. b || searched rest) none

  pub none_left : (l : List ℕ) → length l ≡ 0 → searched l ≡ false
  unfolding any
  none_left l none = ap (λ n. any n (λ i. test (get_or l i 0))) none

-- The number after j is no higher than the one at j.
abbrev pub falls : List ℕ → ℕ → Bool
falls l j = leb (get_or l (suc j) 0) (get_or l j 0)

-- A list falls somewhere or rises throughout.
pub any_fallen : (l : List ℕ) (rises : Bool) → IsAllAdjacentAnswer (λ x y b. b ≡ ltb x y) l rises → not rises ≡ any (pred (length l)) (falls l)
any_fallen l true up =
    sym (any_missed (pred (length l)) (falls l)
    (λ j h.
    let s : j + 1 ≡ suc j = add-one j in
    lt-leb _ _ (ltb-true _ _ (rw s at (sym (up j 0 (omega (arith, h, sub-one (length l)))))))))
any_fallen l false (j, h, down) =
    let s : j + 1 ≡ suc j = add-one j in
    sym (any_hit (pred (length l)) (falls l) j (omega (arith, sub-one (length l)))
    (le-leb _ _ (ltb-false _ _ (rw s at (sym (down 0))))))
