-- No wrong reading or writing keeps the promise: each tells or leaves something else than ours at the bytes named.
use Rattle.std.proofs.Common.{Ok, Err, ℕ, ◌+◌, ◌*◌, ◌/◌, ◌%◌, ◌≡◌, refl, sym, ◌∙◌, ap, Bool, true, false, cond, not, ◌||◌, List, [], ◌∷◌, arith, ne_eqb, eqb, ltb, length, get_or}
use Rattle.std.proofs.Math.Bool.{or-false}
use native.Mathlib.Decide.{ℕ_discrete}
use Rattle.images.specs.Images.{two_digits, packed_value, above_nine, digits_bad, digit_pair, image_of}
use Rattle.images.proofs.Images.{four_bytes}
use Rattle.packed.specs.declared.ImageRefusal.{ImageRefusal}
use Rattle.packed.specs.Answers.{reading_number, reading_values, writing_number, left_by}
use Rattle.packed.specs.Promise.{ReadResult, WriteResult, Codec, Keeps, ours}
use Rattle.packed.specs.Refuted.{least_first, halves_exchanged, binary_read, last_byte_lost, limit_first, digit_first, any_length, five_taken, any_digit}
use Rattle.packed.specs.Refuted.{digit_ten, digit_nine_refused, high_unchecked, low_unchecked}
use Rattle.packed.specs.Refuted.{all_refused, refused_tells, least_first_both, halves_exchanged_both, least_first_written}
use Rattle.packed.specs.Refuted.{halves_exchanged_written, not_written, limit_first_written, five_written, refused_writes, refused_zeroes}
use Rattle.packed.specs.Refuted.{judged_read, with_value, high_above, low_above}
use Rattle.packed.specs.Refuted.{checking_digits, limited_to, judged_write, with_image, limited_writing_to}
use Rattle.packed.specs.Refuted.{NoneKeeps, Unchanged}
use Rattle.packed.proofs.Promise.{ours_alone}

-- What a reading tells, as one number: a coupon is counted from 1.
told : ReadResult → ℕ
told o = o.number + 100 * values o.values
  where
    values : List ℕ → ℕ
    values [] = 0
    values (v ∷ l) = v + 1

-- What a writing tells and leaves, as one number.
abbrev number_of_lem : ℕ → List ℕ → ℕ
number_of_lem n [] = n
number_of_lem n (b ∷ l) = number_of_lem (256 * n + b) l

left : WriteResult → ℕ
left o = o.number + 100 * number_of_lem 0 o.left

by_read : (c : Codec) (image : List ℕ) → ((told (c.read image) ≡ told (ours.read image)) → ⊥) → Keeps c → ⊥
by_read c image h k = h (ap (λ d. told (d.read image)) (ours_alone c k))

by_write : (c : Codec) (lent : List ℕ) (coupon : ℕ) → ((left (c.write lent coupon) ≡ left (ours.write lent coupon)) → ⊥) → Keeps c → ⊥
by_write c lent coupon h k = h (ap (λ d. left (d.write lent coupon)) (ours_alone c k))

lent : List ℕ
lent = 0xFF ∷ 0xFF ∷ 0xFF ∷ 0xFF ∷ []

pub none_keeps : NoneKeeps
unfolding told left lent two_digits packed_value digit_pair image_of above_nine digits_bad
none_keeps =
    record {
      least_first = by_read least_first (0x01 ∷ 0x00 ∷ 0x00 ∷ 0x00 ∷ []) (λ (z : ◌≡◌ {A = ℕ} 200 100_000_100). omega arith);
      halves_exchanged = by_read halves_exchanged (0x00 ∷ 0x00 ∷ 0x00 ∷ 0x01 ∷ []) (λ (z : ◌≡◌ {A = ℕ} 1_100 200). omega arith);
      binary_read = by_read binary_read (0x00 ∷ 0x00 ∷ 0x00 ∷ 0x10 ∷ []) (λ (z : ◌≡◌ {A = ℕ} 1_700 1_100). omega arith);
      last_byte_lost = by_read last_byte_lost (0x00 ∷ 0x00 ∷ 0x00 ∷ 0x01 ∷ []) (λ (z : ◌≡◌ {A = ℕ} 100 200). omega arith);
      limit_first = by_read limit_first (0x99 ∷ 0x99 ∷ 0x99 ∷ 0x9A ∷ []) (λ (z : ◌≡◌ {A = ℕ} 8 30). omega arith);
      digit_first = by_read digit_first (0xFF ∷ []) (λ (z : ◌≡◌ {A = ℕ} 30 2). omega arith);
      any_length = by_read any_length (0x00 ∷ 0x00 ∷ 0x00 ∷ []) (λ (z : ◌≡◌ {A = ℕ} 100 2). omega arith);
      five_taken = by_read five_taken (0x00 ∷ 0x00 ∷ 0x00 ∷ 0x00 ∷ 0x00 ∷ []) (λ (z : ◌≡◌ {A = ℕ} 100 2). omega arith);
      any_digit = by_read any_digit (0x00 ∷ 0x00 ∷ 0x00 ∷ 0x0F ∷ []) (λ (z : ◌≡◌ {A = ℕ} 1_600 30). omega arith);
      digit_ten = by_read digit_ten (0x00 ∷ 0x00 ∷ 0x00 ∷ 0x0A ∷ []) (λ (z : ◌≡◌ {A = ℕ} 1_100 30). omega arith);
      digit_nine_refused = by_read digit_nine_refused (0x00 ∷ 0x00 ∷ 0x00 ∷ 0x09 ∷ []) (λ (z : ◌≡◌ {A = ℕ} 30 1_000). omega arith);
      high_unchecked = by_read high_unchecked (0x00 ∷ 0x00 ∷ 0x00 ∷ 0xA0 ∷ []) (λ (z : ◌≡◌ {A = ℕ} 10_100 30). omega arith);
      low_unchecked = by_read low_unchecked (0x00 ∷ 0x00 ∷ 0x00 ∷ 0x0A ∷ []) (λ (z : ◌≡◌ {A = ℕ} 1_100 30). omega arith);
      limit_more = by_read (limited_to 10_000_001) (0x10 ∷ 0x00 ∷ 0x00 ∷ 0x01 ∷ []) (λ (z : ◌≡◌ {A = ℕ} 1_000_000_200 8). omega arith);
      limit_less = by_read (limited_to 9_999_999) (0x10 ∷ 0x00 ∷ 0x00 ∷ 0x00 ∷ []) (λ (z : ◌≡◌ {A = ℕ} 8 1_000_000_100). omega arith);
      all_refused = by_read all_refused (0x00 ∷ 0x00 ∷ 0x00 ∷ 0x00 ∷ []) (λ (z : ◌≡◌ {A = ℕ} 30 100). omega arith);
      refused_tells = by_read refused_tells (0x10 ∷ 0x00 ∷ 0x00 ∷ 0x01 ∷ []) (λ (z : ◌≡◌ {A = ℕ} 1_000_000_208 8). omega arith);
      least_first_both = by_read least_first_both (0x01 ∷ 0x00 ∷ 0x00 ∷ 0x00 ∷ []) (λ (z : ◌≡◌ {A = ℕ} 200 100_000_100). omega arith);
      halves_exchanged_both = by_read halves_exchanged_both (0x00 ∷ 0x00 ∷ 0x00 ∷ 0x01 ∷ []) (λ (z : ◌≡◌ {A = ℕ} 1_100 200). omega arith);
      least_first_written = by_write least_first_written lent 1 (λ (z : ◌≡◌ {A = ℕ} 1_677_721_600 100). omega arith);
      halves_exchanged_written = by_write halves_exchanged_written lent 1 (λ (z : ◌≡◌ {A = ℕ} 1_600 100). omega arith);
      not_written_lem = by_write not_written lent 1 (λ (z : ◌≡◌ {A = ℕ} 429_496_729_500 100). omega arith);
      limit_first_written = by_write limit_first_written [] 10_000_001 (λ (z : ◌≡◌ {A = ℕ} 8 2). omega arith);
      five_written = by_write five_written (0xFF ∷ lent) 1 (λ (z : ◌≡◌ {A = ℕ} 100 109_951_162_777_502). omega arith);
      limit_more_written = by_write (limited_writing_to 10_000_001) lent 10_000_001 (λ (z : ◌≡◌ {A = ℕ} 26_843_545_700 429_496_729_508). omega arith);
      limit_less_written = by_write (limited_writing_to 9_999_999) lent 10_000_000 (λ (z : ◌≡◌ {A = ℕ} 429_496_729_508 26_843_545_600). omega arith);
      refused_writes = by_write refused_writes lent 10_000_001 (λ (z : ◌≡◌ {A = ℕ} 26_843_545_708 429_496_729_508). omega arith);
      refused_zeroes = by_write refused_zeroes lent 10_000_001 (λ (z : ◌≡◌ {A = ℕ} 8 429_496_729_508). omega arith);
    }

-- ---- unchanged where nothing is changed

same_reading : (s d o : Bool) (v : ℕ) →
    judged_read ((not s, 2) ∷ (d, 30) ∷ (o, 8) ∷ []) v
    ≡ (let a = cond s (cond d (Err ImageRefusal.Digit) (cond o (Err ImageRefusal.OverLimit) (Ok v))) (Err ImageRefusal.Length) in
    record { number = reading_number a; values = reading_values a })
same_reading false d o v = refl
same_reading true true o v = refl
same_reading true false true v = refl
same_reading true false false v = refl

same_writing : (s o : Bool) (l : List ℕ) (v : ℕ) →
    judged_write ((not s, 2) ∷ (o, 8) ∷ []) (image_of v) l
    ≡ (let a = cond s (cond o (Err ImageRefusal.OverLimit) (Ok tt)) (Err ImageRefusal.Length) in
    record { number = writing_number a; left = left_by a l v })
same_writing false o l v = refl
same_writing true true l v = refl
same_writing true false l v = refl

our_read : (l : List ℕ) → (with_value packed_value).read l ≡ ours.read l
our_read l = same_reading (eqb (length l) 4) (digits_bad l) (ltb 10_000_000 (packed_value l)) (packed_value l)

our_write : (l : List ℕ) (v : ℕ) → (with_image (λ lent coupon. image_of coupon)).write l v ≡ ours.write l v
our_write l v = same_writing (eqb (length l) 4) (ltb 10_000_000 v) l v

exchange : (a b c d : Bool) → ((a || b) || (c || d)) ≡ ((a || c) || (b || d))
exchange true b c d = refl
exchange false true true d = refl
exchange false true false d = refl
exchange false false c d = refl

-- Byte by byte, whatever the order of the half bytes.
abbrev any_above : List ℕ → Bool
any_above [] = false
any_above (byte ∷ l) = (ltb 9 (byte / 16) || ltb 9 (byte % 16)) || any_above l

halves_any : (l : List ℕ) → (high_above 9 l || low_above 9 l) ≡ any_above l
halves_any [] = refl
halves_any (byte ∷ l) =
    exchange (ltb 9 (byte / 16)) (high_above 9 l) (ltb 9 (byte % 16)) (low_above 9 l)
    ∙ ap (λ b. (ltb 9 (byte / 16) || ltb 9 (byte % 16)) || b) (halves_any l)

any_of_four : (a b c d : ℕ) → any_above (a ∷ b ∷ c ∷ d ∷ []) ≡ digits_bad (a ∷ b ∷ c ∷ d ∷ [])
unfolding digits_bad above_nine
any_of_four a b c d =
    ap (λ x. (ltb 9 (a / 16) || ltb 9 (a % 16)) || ((ltb 9 (b / 16) || ltb 9 (b % 16)) || ((ltb 9 (c / 16) || ltb 9 (c % 16)) || x)))
    (or-false (ltb 9 (d / 16) || ltb 9 (d % 16)))

same_digits : (l : List ℕ) → length l ≡ 4 → (high_above 9 l || low_above 9 l) ≡ digits_bad l
same_digits l e =
    halves_any l ∙ ap any_above (four_bytes l e)
    ∙ any_of_four (get_or l 0 0) (get_or l 1 0) (get_or l 2 0) (get_or l 3 0) ∙ sym (ap digits_bad (four_bytes l e))

digits_read : (l : List ℕ) → (checking_digits (λ image. high_above 9 image || low_above 9 image)).read l ≡ ours.read l
digits_read l = go (ℕ_discrete (length l) 4)
  where
    go : Dec (length l ≡ 4) → (checking_digits (λ image. high_above 9 image || low_above 9 image)).read l ≡ ours.read l
    go (yes h) = rw (same_digits l h) (our_read l)
    go (no h) = simp (ne_eqb (length l) 4 h)

pub unchanged : Unchanged
unchanged =
    record {
      value = λ i. record { read = λ l. our_read l i; write = ours.write };
      limit = λ i. record { read = λ l. our_read l i; write = ours.write };
      digits = λ i. record { read = λ l. digits_read l i; write = ours.write };
      image = λ i. record { read = ours.read; write = λ l v. our_write l v i };
      writing_limit = λ i. record { read = ours.read; write = λ l v. our_write l v i };
      both = λ i. record { read = λ l. our_read l i; write = λ l v. our_write l v i };
    }
