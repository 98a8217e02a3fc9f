-- What reading and writing a packed coupon answer and leave (T-14). 30, digit, is a number of that request; 2 and 8 are document 01's.
use Rattle.std.specs.Prelude.{ℕ, cond, List, [], ◌∷◌, eqb, ltb, length, Result, Ok, Err, ⊤}
use Rattle.images.specs.Images.{packed_value, digits_bad, image_of}
use Rattle.packed.specs.declared.ImageRefusal.{ImageRefusal}

-- The number of each refusal, and of each answer: 0 if accepted. The coupon of a reading: none if refused.
abbrev pub refusal_number : ImageRefusal → ℕ
refusal_number ImageRefusal.Length = 2
refusal_number ImageRefusal.Digit = 30
refusal_number ImageRefusal.OverLimit = 8

abbrev pub reading_number : Result ℕ ImageRefusal → ℕ
reading_number (Ok coupon) = 0
reading_number (Err refusal) = refusal_number refusal

abbrev pub reading_values : Result ℕ ImageRefusal → List ℕ
reading_values (Ok coupon) = coupon ∷ []
reading_values (Err refusal) = []

abbrev pub writing_number : Result ⊤ ImageRefusal → ℕ
writing_number (Ok done) = 0
writing_number (Err refusal) = refusal_number refusal

-- 2, then 30, and only then 8.
abbrev pub read_answer : List ℕ → Result ℕ ImageRefusal
read_answer image =
    cond (eqb (length image) 4)
    (cond (digits_bad image) (Err ImageRefusal.Digit) (cond (ltb 10_000_000 (packed_value image)) (Err ImageRefusal.OverLimit) (Ok (packed_value image))))
    (Err ImageRefusal.Length)

-- 2, then 8.
abbrev pub write_answer : List ℕ → ℕ → Result ⊤ ImageRefusal
write_answer lent coupon = cond (eqb (length lent) 4) (cond (ltb 10_000_000 coupon) (Err ImageRefusal.OverLimit) (Ok tt)) (Err ImageRefusal.Length)

-- A refused write leaves what was lent.
abbrev pub left_by : Result ⊤ ImageRefusal → List ℕ → ℕ → List ℕ
left_by (Ok done) lent coupon = image_of coupon
left_by (Err refusal) lent coupon = lent

abbrev pub write_leaves : List ℕ → ℕ → List ℕ
write_leaves lent coupon = left_by (write_answer lent coupon) lent coupon
