-- The promise of packed coupons (T-14), of any two functions in the place of the calls: `Keeps`.
use Rattle.std.specs.Prelude.{ℕ, ◌≤◌, ◌<◌, ◌≡◌, ◌≢◌, List, [], ◌∷◌, length, Result, ⊤}
use Rattle.images.specs.Images.{Digits, IsImage, packed_value}
use Rattle.packed.specs.declared.ImageRefusal.{ImageRefusal}
use Rattle.packed.specs.Answers.{reading_number, reading_values, writing_number, read_answer, write_answer, write_leaves}

-- What a reading gives back: 0 and the coupon, or a refusal's number alone.
pub record ReadResult : Type 0 where
  pub number : ℕ
  pub values : List ℕ

-- What a writing gives back, and the bytes that it leaves.
pub record WriteResult : Type 0 where
  pub number : ℕ
  pub left : List ℕ

-- A reading of the bytes lent, and a writing of a coupon to the bytes lent.
pub record Codec : Type 0 where
  pub read : List ℕ → ReadResult
  pub write : List ℕ → ℕ → WriteResult

-- ---- the calls

abbrev pub accepts : ℕ → ReadResult
accepts coupon = record { number = 0; values = coupon ∷ [] }

abbrev pub refuses : ℕ → ReadResult
refuses number = record { number = number; values = [] }

-- The refusals of a reading in their order, then what it answers.
pub record ReadRule (image : List ℕ) (o : ReadResult) : Type 0 where
  pub wrong_length : length image ≢ 4 → o ≡ refuses 2
  pub bad_digit : length image ≡ 4 → ¬ (Digits image) → o ≡ refuses 30
  pub over_limit : length image ≡ 4 → Digits image → 10_000_000 < packed_value image → o ≡ refuses 8
  pub accepted : length image ≡ 4 → Digits image → packed_value image ≤ 10_000_000 → o ≡ accepts (packed_value image)

-- The refusals of a writing in their order, each of which leaves what was lent; then what it writes.
pub record WriteRule (lent : List ℕ) (coupon : ℕ) (o : WriteResult) : Type 0 where
  pub wrong_length : length lent ≢ 4 → o ≡ record { number = 2; left = lent }
  pub over_limit : length lent ≡ 4 → 10_000_000 < coupon → o ≡ record { number = 8; left = lent }
  pub accepted : length lent ≡ 4 → coupon ≤ 10_000_000 → (o.number ≡ 0) × IsImage coupon o.left

-- ---- the whole promise

pub record Keeps (c : Codec) : Type 0 where
  pub reading : (image : List ℕ) → ReadRule image (c.read image)
  pub writing : (lent : List ℕ) (coupon : ℕ) → WriteRule lent coupon (c.write lent coupon)
  -- Each value up to the limit has an image, whatever four bytes are lent for it, and no other is read as that value.
  pub has_image : (lent : List ℕ) (coupon : ℕ) → length lent ≡ 4 → coupon ≤ 10_000_000 → (c.write lent coupon).number ≡ 0
  pub one_image : (image other : List ℕ) (coupon : ℕ) → c.read image ≡ accepts coupon → c.read other ≡ accepts coupon → image ≡ other
  -- What is written is read as the same coupon; so two coupons never share an image.
  pub written_reads : (lent : List ℕ) (coupon : ℕ) → (c.write lent coupon).number ≡ 0 → c.read (c.write lent coupon).left ≡ accepts coupon
  pub never_shared : (lent other : List ℕ) (a b : ℕ) → (c.write lent a).number ≡ 0 → (c.write other b).number ≡ 0 →
      (c.write lent a).left ≡ (c.write other b).left → a ≡ b
  -- Each accepted image gives its value back: what is read and written again is the same four bytes.
  pub read_writes : (image lent : List ℕ) (coupon : ℕ) → c.read image ≡ accepts coupon → length lent ≡ 4 →
      c.write lent coupon ≡ record { number = 0; left = image }

-- An answer of the code, and the bytes left with it, as these results.
abbrev pub read_by : Result ℕ ImageRefusal → ReadResult
read_by answer = record { number = reading_number answer; values = reading_values answer }

abbrev pub written_by : Result ⊤ ImageRefusal → List ℕ → WriteResult
written_by answer left = record { number = writing_number answer; left = left }

-- Ours: what the contracts of `packed::read` and `packed::write` say.
abbrev pub ours : Codec
ours =
    record {
      read = λ image. read_by (read_answer image);
      write = λ lent coupon. written_by (write_answer lent coupon) (write_leaves lent coupon);
    }
