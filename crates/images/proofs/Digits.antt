-- The test of the digits, and that none is above 9.
use Rattle.std.proofs.Common.{ℕ, zero, suc, ◌/◌, ◌%◌, ◌<◌, ◌≡◌, refl, Bool, true, false, List, arith, le-ltb, ltb-false, length, get_or}
use Rattle.std.proofs.lemmas.Bool.{or_parts}
use Rattle.images.specs.Images.{Digits, above_nine, digits_bad}
use Rattle.images.proofs.Images.{Pair}

good_pair : (byte : ℕ) → above_nine byte ≡ false → Pair byte
unfolding above_nine
good_pair byte e = let (h, l) = or_parts _ _ e in (ltb-false 9 (byte / 16) h, ltb-false 9 (byte % 16) l)

pair_good : (byte : ℕ) → Pair byte → above_nine byte ≡ false
unfolding above_nine
pair_good byte (h, l) = simp (le-ltb 9 (byte / 16) h, le-ltb 9 (byte % 16) l)

-- The test of the digits is whether one is above 9.
module _ (l : List ℕ) (size : length l ≡ 4) where
  pub good_digits : digits_bad l ≡ false → Digits l
  unfolding digits_bad
  good_digits e i h =
      let (a, r) = or_parts (above_nine (get_or l 0 0)) _ e in
      let (b, q) = or_parts (above_nine (get_or l 1 0)) _ r in
      let (c, d) = or_parts (above_nine (get_or l 2 0)) _ q in
      go i (omega arith) a b c d
    where
      go : (i : ℕ) → i < 4 → above_nine (get_or l 0 0) ≡ false → above_nine (get_or l 1 0) ≡ false → above_nine (get_or l 2 0) ≡ false →
          above_nine (get_or l 3 0) ≡ false → Pair (get_or l i 0)
      go zero h a b c d = good_pair (get_or l 0 0) a
      go (suc zero) h a b c d = good_pair (get_or l 1 0) b
      go (suc (suc zero)) h a b c d = good_pair (get_or l 2 0) c
      go (suc (suc (suc zero))) h a b c d = good_pair (get_or l 3 0) d
      go (suc (suc (suc (suc i)))) h a b c d = absurd (omega arith)

  pub digits_good : Digits l → digits_bad l ≡ false
  unfolding digits_bad
  digits_good d =
      simp (
        pair_good (get_or l 0 0) (d 0 (omega arith)),
        pair_good (get_or l 1 0) (d 1 (omega arith)),
        pair_good (get_or l 2 0) (d 2 (omega arith)),
        pair_good (get_or l 3 0) (d 3 (omega arith)),
      )

  pub bad_digits : ¬ (Digits l) → digits_bad l ≡ true
  bad_digits h = go (digits_bad l) refl
    where
      go : (b : Bool) → digits_bad l ≡ b → digits_bad l ≡ true
      go true e = e
      go false e = absurd (h (good_digits e))
