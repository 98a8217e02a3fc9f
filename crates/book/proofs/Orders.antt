-- The order of the positions is free: lists in which each stands as often differ by neighbours exchanged, and that changes nothing.
use Rattle.std.proofs.Common.{ℕ, suc, ◌+◌, ◌≤◌, ◌≡◌, refl, sym, ap, ◌∙◌, subst, Bool, true, false, cond, ◌&&◌, true≢false, List, [], ◌∷◌, ◌++◌, map}
use Rattle.std.proofs.Common.{arith, eq-eqb, eqb-true, leb, ℤ, pos, negsuc, nat_abs, ◌+ℤ◌, ◌*ℤ◌, length}
use lib.IntN.{+ℤ_assoc, +ℤ_comm}
use Rattle.totals.specs.Totals.{total_of, all_within, taken}
use Rattle.totals.proofs.Taken.{both}
use Rattle.book.specs.Promise.{Position, nominals_of, values_of, same_number, same_position, times_in, SamePositions}

-- ---- the same in another order, step by step

pub data Reordered {A : Type 0} : List A → List A → Type 0 where
  none : Reordered [] []
  keep : (x : A) {a b : List A} → Reordered a b → Reordered (x ∷ a) (x ∷ b)
  swap : (x y : A) (a : List A) → Reordered (x ∷ (y ∷ a)) (y ∷ (x ∷ a))
  then : {a b c : List A} → Reordered a b → Reordered b c → Reordered a c

module _ {A : Type 0} where
  unmoved : (a : List A) → Reordered a a
  unmoved [] = none
  unmoved (x ∷ a) = keep x (unmoved a)

  -- x to any place.
  moved : (x : A) (a b : List A) → Reordered (x ∷ (a ++ b)) (a ++ (x ∷ b))
  moved x [] b = unmoved (x ∷ b)
  moved x (y ∷ a) b = then (swap x y (a ++ b)) (keep y (moved x a b))

counted : {t : Bool} → t ≡ true → ◌≡◌ {A = ℕ} (cond t 1 0) 1
counted e = ap (λ (s : Bool). let n : ℕ = cond s 1 0 in n) e

counted_not : {t : Bool} → t ≡ false → ◌≡◌ {A = ℕ} (cond t 1 0) 0
counted_not e = ap (λ (s : Bool). let n : ℕ = cond s 1 0 in n) e

-- A place of x in a list.
pub record Found {A : Type 0} (x : A) (l : List A) : Type 0 where
  pub front : List A
  pub back : List A
  pub is : l ≡ front ++ (x ∷ back)

module _ {A : Type 0} (same : A → A → Bool) (told : (x y : A) → same x y ≡ true → x ≡ y) (itself : (x : A) → same x x ≡ true) where
  find : (x : A) (l : List A) → 1 ≤ times_in same x l → Found x l
  find x [] h = absurd (omega (arith, h))
  find x (y ∷ l) h = go (same x y) refl (λ k. find x l k)
    where
      go : (t : Bool) → same x y ≡ t → (1 ≤ times_in same x l → Found x l) → Found x (y ∷ l)
      go true e k = record { front = []; back = l; is = ap (λ (z : A). z ∷ l) (sym (told x y e)) }
      go false e k =
          let f = k (omega (arith, h, counted_not e)) in
          record { front = y ∷ f.front; back = f.back; is = ap (λ (m : List A). y ∷ m) f.is }

  -- How often something stands in a list with x at some place.
  times_apart : (z x : A) (a b : List A) → times_in same z (a ++ (x ∷ b)) ≡ cond (same z x) 1 0 + times_in same z (a ++ b)
  times_apart z x [] b = refl
  times_apart z x (y ∷ a) b = omega (arith, times_apart z x a b)

  pub by_times : (a b : List A) → ((x : A) → times_in same x a ≡ times_in same x b) → Reordered a b
  by_times [] [] h = none
  by_times [] (y ∷ b) h = absurd (omega (arith, h y, counted (itself y)))
  by_times (x ∷ a) b h =
      let f = find x b (omega (arith, h x, counted (itself x))) in
      let rest = by_times a (f.front ++ f.back)
      (λ z. omega (arith, h z, ap (times_in same z) f.is, times_apart z x f.front f.back)) in
      subst (Reordered (x ∷ a)) (sym f.is) (then (keep x rest) (moved x f.front f.back))

number_told : (x y : ℤ) → same_number x y ≡ true → x ≡ y
number_told (pos m) (pos n) e = ap pos (eqb-true m n e)
number_told (pos m) (negsuc n) e = absurd (true≢false (sym e))
number_told (negsuc m) (pos n) e = absurd (true≢false (sym e))
number_told (negsuc m) (negsuc n) e = ap negsuc (eqb-true m n e)

number_itself : (x : ℤ) → same_number x x ≡ true
number_itself (pos n) = eq-eqb n n refl
number_itself (negsuc n) = eq-eqb n n refl

position_told : (p q : Position) → same_position p q ≡ true → p ≡ q
position_told p q e =
    let (n, w) = both (same_number p.0 q.0) (same_number p.1 q.1) e in
    λ i. (number_told p.0 q.0 n i, number_told p.1 q.1 w i)

position_itself : (p : Position) → same_position p p ≡ true
position_itself p = simp (number_itself p.0, number_itself p.1)

pub reordered : (a b : List Position) → SamePositions a b → Reordered a b
reordered = by_times same_position position_told position_itself

-- ---- the totals, whatever part of the products is added

exchange : (a b c : ℤ) → a +ℤ (b +ℤ c) ≡ b +ℤ (a +ℤ c)
exchange a b c = sym (+ℤ_assoc a b c) ∙ ap (λ (z : ℤ). z +ℤ c) (+ℤ_comm a b) ∙ +ℤ_assoc b a c

pub same_total : (part : ℤ → ℤ) {a b : List Position} → Reordered a b →
    total_of part (nominals_of a) (values_of a) ≡ total_of part (nominals_of b) (values_of b)
unfolding total_of
same_total part none = refl
same_total part (keep p r) = ap (λ (z : ℤ). part (p.0 *ℤ p.1) +ℤ z) (same_total part r)
same_total part (swap p q a) =
    exchange (part (p.0 *ℤ p.1)) (part (q.0 *ℤ q.1)) (total_of part (nominals_of a) (values_of a))
same_total part (then r s) = same_total part r ∙ same_total part s

-- ---- the test

and_exchange : (a b c : Bool) → (a && (b && c)) ≡ (b && (a && c))
and_exchange true true c = refl
and_exchange true false c = refl
and_exchange false true c = refl
and_exchange false false c = refl

-- Over the nominals or the values of the positions.
module _ (side : Position → ℤ) (most : ℕ) where
  pub same_within : {a b : List Position} → Reordered a b → all_within most (map side a) ≡ all_within most (map side b)
  unfolding all_within
  same_within none = refl
  same_within (keep p r) = ap (λ t. leb (nat_abs (side p)) most && t) (same_within r)
  same_within (swap p q a) = and_exchange (leb (nat_abs (side p)) most) (leb (nat_abs (side q)) most) (all_within most (map side a))
  same_within (then r s) = same_within r ∙ same_within s

module _ (side : Position → ℤ) where
  same_count : {a b : List Position} → Reordered a b → length (map side a) ≡ length (map side b)
  same_count none = refl
  same_count (keep p r) = ap suc (same_count r)
  same_count (swap p q a) = refl
  same_count (then r s) = same_count r ∙ same_count s

pub same_taken : {a b : List Position} → Reordered a b → taken (nominals_of a) (values_of a) ≡ taken (nominals_of b) (values_of b)
same_taken {a} {b} r =
    rw (
      same_count (λ p. p.0) r,
      same_count (λ p. p.1) r,
      same_within (λ p. p.0) 1_000_000 r,
      same_within (λ p. p.1) 200_000_000_000_000_000 r,
    )
