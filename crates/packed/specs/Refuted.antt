-- Readings and writings other than ours, nearly all by one fault, and that none keeps the promise. Proved in proofs/Refuted.antt.
use Rattle.std.specs.Prelude.{ℕ, ◌+◌, ◌*◌, ◌/◌, ◌%◌, ◌≡◌, Bool, true, false, cond, not, ◌||◌, List, [], ◌∷◌, map, reverse, eqb, ltb, length, get_or, replicate}
use Rattle.images.specs.Images.{packed_value, digits_bad, image_of}
use Rattle.packed.specs.Promise.{ReadResult, WriteResult, Codec, accepts, refuses, Keeps, ours}

-- Checks in their order: whether each is met, and its number.
abbrev pub Checks : Type 0
Checks = List (Bool × ℕ)

-- ---- readings

abbrev pub judged_read : Checks → ℕ → ReadResult
judged_read [] coupon = accepts coupon
judged_read ((met, number) ∷ l) coupon = cond met (refuses number) (judged_read l coupon)

-- Ours but for the reading.
abbrev pub with_reading : (List ℕ → Checks) → (List ℕ → ℕ) → Codec
with_reading checks value = record { read = λ image. judged_read (checks image) (value image); write = ours.write }

abbrev pub sized : ℕ → List ℕ → Bool × ℕ
sized size l = (not (eqb (length l) size), 2)

abbrev pub digits : List ℕ → Bool × ℕ
digits image = (digits_bad image, 30)

abbrev pub limited : ℕ → ℕ → Bool × ℕ
limited most coupon = (ltb most coupon, 8)

abbrev pub with_value : (List ℕ → ℕ) → Codec
with_value value = with_reading (λ image. sized 4 image ∷ digits image ∷ limited 10_000_000 (value image) ∷ []) value

-- The half bytes of each byte exchanged.
abbrev pub exchanged : List ℕ → List ℕ
exchanged image = map (λ byte. 16 * (byte % 16) + byte / 16) image

-- Whether one of the half bytes is above a digit.
abbrev pub high_above : ℕ → List ℕ → Bool
high_above most [] = false
high_above most (byte ∷ l) = ltb most (byte / 16) || high_above most l

abbrev pub low_above : ℕ → List ℕ → Bool
low_above most [] = false
low_above most (byte ∷ l) = ltb most (byte % 16) || low_above most l

abbrev pub checking_digits : (List ℕ → Bool) → Codec
checking_digits bad = with_reading (λ image. sized 4 image ∷ (bad image, 30) ∷ limited 10_000_000 (packed_value image) ∷ []) packed_value

-- Other values.
abbrev pub least_first : Codec
least_first = with_value (λ image. packed_value (reverse image))

abbrev pub halves_exchanged : Codec
halves_exchanged = with_value (λ image. packed_value (exchanged image))

abbrev pub binary_read : Codec
binary_read = with_value (λ image. 16_777_216 * get_or image 0 0 + 65_536 * get_or image 1 0 + 256 * get_or image 2 0 + get_or image 3 0)

abbrev pub last_byte_lost : Codec
last_byte_lost = with_value (λ image. packed_value image / 100)

-- Other checks, or another order of them.
abbrev pub limit_first : Codec
limit_first = with_reading (λ image. sized 4 image ∷ limited 10_000_000 (packed_value image) ∷ digits image ∷ []) packed_value

abbrev pub digit_first : Codec
digit_first = with_reading (λ image. digits image ∷ sized 4 image ∷ limited 10_000_000 (packed_value image) ∷ []) packed_value

abbrev pub any_length : Codec
any_length = with_reading (λ image. digits image ∷ limited 10_000_000 (packed_value image) ∷ []) packed_value

abbrev pub five_taken : Codec
five_taken =
    with_reading (λ image. (not (eqb (length image) 4 || eqb (length image) 5), 2) ∷ digits image ∷ limited 10_000_000 (packed_value image) ∷ [])
    packed_value

abbrev pub any_digit : Codec
any_digit = with_reading (λ image. sized 4 image ∷ limited 10_000_000 (packed_value image) ∷ []) packed_value

abbrev pub digit_ten : Codec
digit_ten = checking_digits (λ image. high_above 10 image || low_above 10 image)

abbrev pub digit_nine_refused : Codec
digit_nine_refused = checking_digits (λ image. high_above 8 image || low_above 8 image)

abbrev pub high_unchecked : Codec
high_unchecked = checking_digits (low_above 9)

abbrev pub low_unchecked : Codec
low_unchecked = checking_digits (high_above 9)

abbrev pub limited_to : ℕ → Codec
limited_to most = with_reading (λ image. sized 4 image ∷ digits image ∷ limited most (packed_value image) ∷ []) packed_value

abbrev pub all_refused : Codec
all_refused = with_reading (λ image. (true, 30) ∷ []) packed_value

-- A refused reading that tells the coupon too.
abbrev pub refused_tells : Codec
refused_tells = record { read = λ image. record { number = (ours.read image).number; values = packed_value image ∷ [] }; write = ours.write }

-- ---- writings

-- What is left if all checks pass, and if one is met.
abbrev pub judged_write : Checks → List ℕ → List ℕ → WriteResult
judged_write [] written kept = record { number = 0; left = written }
judged_write ((met, number) ∷ l) written kept = cond met (record { number = number; left = kept }) (judged_write l written kept)

-- Ours but for the writing.
abbrev pub with_writing : (List ℕ → ℕ → Checks) → (List ℕ → ℕ → List ℕ) → (List ℕ → ℕ → List ℕ) → Codec
with_writing checks written kept =
    record { read = ours.read; write = λ lent coupon. judged_write (checks lent coupon) (written lent coupon) (kept lent coupon) }

abbrev pub checked : List ℕ → ℕ → Checks
checked lent coupon = sized 4 lent ∷ limited 10_000_000 coupon ∷ []

abbrev pub with_image : (List ℕ → ℕ → List ℕ) → Codec
with_image image = with_writing checked image (λ lent coupon. lent)

abbrev pub with_write_checks : (List ℕ → ℕ → Checks) → Codec
with_write_checks checks = with_writing checks (λ lent coupon. image_of coupon) (λ lent coupon. lent)

-- Other images.
abbrev pub least_first_written : Codec
least_first_written = with_image (λ lent coupon. reverse (image_of coupon))

abbrev pub halves_exchanged_written : Codec
halves_exchanged_written = with_image (λ lent coupon. exchanged (image_of coupon))

abbrev pub not_written : Codec
not_written = with_image (λ lent coupon. lent)

-- Other checks.
abbrev pub limit_first_written : Codec
limit_first_written = with_write_checks (λ lent coupon. limited 10_000_000 coupon ∷ sized 4 lent ∷ [])

abbrev pub five_written : Codec
five_written =
    with_write_checks (λ lent coupon. (not (eqb (length lent) 4 || eqb (length lent) 5), 2) ∷ limited 10_000_000 coupon ∷ [])

abbrev pub limited_writing_to : ℕ → Codec
limited_writing_to most = with_write_checks (λ lent coupon. sized 4 lent ∷ limited most coupon ∷ [])

-- A refused writing that writes.
abbrev pub refused_writes : Codec
refused_writes = with_writing checked (λ lent coupon. image_of coupon) (λ lent coupon. cond (eqb (length lent) 4) (image_of coupon) lent)

abbrev pub refused_zeroes : Codec
refused_zeroes = with_writing checked (λ lent coupon. image_of coupon) (λ lent coupon. replicate (length lent) 0)

-- ---- both by one fault, so that what is written is still read as the same coupon

abbrev pub both_by : (List ℕ → List ℕ) → Codec
both_by turned =
    record {
      read = (with_value (λ image. packed_value (turned image))).read;
      write = (with_image (λ lent coupon. turned (image_of coupon))).write;
    }

abbrev pub least_first_both : Codec
least_first_both = both_by reverse

abbrev pub halves_exchanged_both : Codec
halves_exchanged_both = both_by exchanged

-- ---- none keeps the promise

pub record NoneKeeps : Type 0 where
  pub least_first : Keeps least_first → ⊥
  pub halves_exchanged : Keeps halves_exchanged → ⊥
  pub binary_read : Keeps binary_read → ⊥
  pub last_byte_lost : Keeps last_byte_lost → ⊥
  pub limit_first : Keeps limit_first → ⊥
  pub digit_first : Keeps digit_first → ⊥
  pub any_length : Keeps any_length → ⊥
  pub five_taken : Keeps five_taken → ⊥
  pub any_digit : Keeps any_digit → ⊥
  pub digit_ten : Keeps digit_ten → ⊥
  pub digit_nine_refused : Keeps digit_nine_refused → ⊥
  pub high_unchecked : Keeps high_unchecked → ⊥
  pub low_unchecked : Keeps low_unchecked → ⊥
  pub limit_more : Keeps (limited_to 10_000_001) → ⊥
  pub limit_less : Keeps (limited_to 9_999_999) → ⊥
  pub all_refused : Keeps all_refused → ⊥
  pub refused_tells : Keeps refused_tells → ⊥
  pub least_first_written : Keeps least_first_written → ⊥
  pub halves_exchanged_written : Keeps halves_exchanged_written → ⊥
  pub not_written_lem : Keeps not_written → ⊥
  pub limit_first_written : Keeps limit_first_written → ⊥
  pub five_written : Keeps five_written → ⊥
  pub limit_more_written : Keeps (limited_writing_to 10_000_001) → ⊥
  pub limit_less_written : Keeps (limited_writing_to 9_999_999) → ⊥
  pub refused_writes : Keeps refused_writes → ⊥
  pub refused_zeroes : Keeps refused_zeroes → ⊥
  pub least_first_both : Keeps least_first_both → ⊥
  pub halves_exchanged_both : Keeps halves_exchanged_both → ⊥

-- What these are made of is ours where nothing is changed.
pub record Unchanged : Type 0 where
  pub value : with_value packed_value ≡ ours
  pub limit : limited_to 10_000_000 ≡ ours
  pub digits : checking_digits (λ image. high_above 9 image || low_above 9 image) ≡ ours
  pub image : with_image (λ lent coupon. image_of coupon) ≡ ours
  pub writing_limit : limited_writing_to 10_000_000 ≡ ours
  pub both : both_by (λ l. l) ≡ ours
