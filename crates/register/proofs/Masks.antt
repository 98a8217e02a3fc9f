-- The two mask tests of a cut write are one test of each bit.
use Rattle.std.proofs.Common.{◌≡◌, refl, Bool, true, false, ◌&&◌, ◌||◌, ℕ, zero, suc, ◌/◌, ◌%◌, ◌^◌, ◌<◌, min, max, pow-suc, arith, eq-eqb, eqb-true}
use Rattle.std.proofs.Common.{eqb}
use native.Mathlib.Decide.{ℕ_discrete}
use lib.Bits.{bit_and, bit_or, and_step, or_step}
use Rattle.std.proofs.lemmas.Bool.{and_parts}
use Rattle.std.specs.Cmp.{both_ways}
use Rattle.std.specs.Cmp.Derive.{both_true}
use Rattle.register.specs.Cut.{bit_may_be_left, bits_may_be_left}

-- ---- one bit
bit_in : (o n f : ℕ) → o < 2 → n < 2 → max f o ≡ o → min f n ≡ min o n → bit_may_be_left o n f ≡ true
bit_in o n f ho hn p q = go (ℕ_discrete f o)
  where
    go : Dec (f ≡ o) → bit_may_be_left o n f ≡ true
    go (yes e) = rw (eq-eqb f o e) (or_true (eqb o 1 && eqb n 0))
      where
        or_true : (t : Bool) → (t || true) ≡ true
        or_true true = refl
        or_true false = refl
    go (no e) =
        let a : o ≡ 1 = omega (arith, e) in
        let b : n ≡ 0 = omega (arith, e) in
        rw (a, b)

bit_out : (o n f : ℕ) → o < 2 → n < 2 → f < 2 → bit_may_be_left o n f ≡ true → (max f o ≡ o) × (min f n ≡ min o n)
bit_out o n f ho hn hf = go (eqb o 1 && eqb n 0) refl
  where
    go : (t : Bool) → (eqb o 1 && eqb n 0) ≡ t → (t || eqb f o) ≡ true → (max f o ≡ o) × (min f n ≡ min o n)
    go true e h = let p = and_parts (eqb o 1) (eqb n 0) e in let a = eqb-true o 1 p.0 in let b = eqb-true n 0 p.1 in (omega arith, omega arith)
    go false e h = let a = eqb-true f o h in (omega arith, omega arith)

-- ---- k bits
abbrev Masks : ℕ → ℕ → ℕ → Type 0
Masks old new found = (bit_or found old ≡ old) × (bit_and found new ≡ bit_and old new)

masks_in : (k o n f : ℕ) → Masks o n f → bits_may_be_left k o n f ≡ true
masks_in zero o n f m = refl
masks_in (suc k) o n f (p, q) =
    both_true (bit_in (o % 2) (n % 2) (f % 2) (omega arith) (omega arith) (omega (arith, or_step f o)) (omega (arith, and_step f n, and_step o n)))
    (masks_in k (o / 2) (n / 2) (f / 2) (omega (arith, or_step f o), omega (arith, and_step f n, and_step o n)))

masks_out : (k o n f : ℕ) → o < 2 ^ k → f < 2 ^ k → bits_may_be_left k o n f ≡ true → Masks o n f
masks_out zero o n f ho hf e = let a : o ≡ 0 = omega arith in let b : f ≡ 0 = omega arith in (rw (a, b), rw (a, b))
masks_out (suc k) o n f ho hf e =
    let s = and_parts (bit_may_be_left (o % 2) (n % 2) (f % 2)) (bits_may_be_left k (o / 2) (n / 2) (f / 2)) e in
    let b = bit_out (o % 2) (n % 2) (f % 2) (omega arith) (omega arith) (omega arith) s.0 in
    let m = masks_out k (o / 2) (n / 2) (f / 2) (omega (arith, pow-suc 2 k)) (omega (arith, pow-suc 2 k)) s.1 in
    (omega (arith, or_step f o), omega (arith, and_step f n, and_step o n))

pub mask_test : (k o n f : ℕ) → o < 2 ^ k → f < 2 ^ k → (eqb (bit_or f o) o && eqb (bit_and f n) (bit_and o n)) ≡ bits_may_be_left k o n f
mask_test k o n f ho hf = both_ways _ _ passes passed
  where
    passes : (eqb (bit_or f o) o && eqb (bit_and f n) (bit_and o n)) ≡ true → bits_may_be_left k o n f ≡ true
    passes e = let s = and_parts (eqb (bit_or f o) o) (eqb (bit_and f n) (bit_and o n)) e in masks_in k o n f (eqb-true (bit_or f o) o s.0, eqb-true (bit_and f n) (bit_and o n) s.1)

    passed : bits_may_be_left k o n f ≡ true → (eqb (bit_or f o) o && eqb (bit_and f n) (bit_and o n)) ≡ true
    passed e = let m = masks_out k o n f ho hf e in both_true (eq-eqb (bit_or f o) o m.0) (eq-eqb (bit_and f n) (bit_and o n) m.1)
