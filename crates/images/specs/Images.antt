-- T-14, a coupon in packed decimal: four bytes of two decimal digits each, the most significant first, in thousandths of a basis point.
use Rattle.std.specs.Prelude.{ℕ, ◌+◌, ◌*◌, ◌/◌, ◌%◌, ◌≤◌, ◌<◌, ◌≡◌, Bool, ◌||◌, List, [], ◌∷◌, ltb, length, get_or}

-- The number of a byte's two digits: the high half byte is the tens.
unfoldable pub two_digits : ℕ → ℕ
two_digits byte = 10 * (byte / 16) + byte % 16

-- The number of four bytes.
unfoldable pub packed_value : List ℕ → ℕ
packed_value image =
    1_000_000 * two_digits (get_or image 0 0) + 10_000 * two_digits (get_or image 1 0) + 100 * two_digits (get_or image 2 0) + two_digits (get_or image 3 0)

-- No half byte is above 9.
abbrev pub Digits : List ℕ → Type 0
Digits image = (i : ℕ) → i < length image → (get_or image i 0 / 16 ≤ 9) × (get_or image i 0 % 16 ≤ 9)

-- Whether a half byte is above 9, and whether one of four bytes has such a half.
unfoldable pub above_nine : ℕ → Bool
above_nine byte = ltb 9 (byte / 16) || ltb 9 (byte % 16)

unfoldable pub digits_bad : List ℕ → Bool
digits_bad image = above_nine (get_or image 0 0) || (above_nine (get_or image 1 0) || (above_nine (get_or image 2 0) || above_nine (get_or image 3 0)))

-- What it is to be an image of a coupon.
pub record IsImage (coupon : ℕ) (image : List ℕ) : Type 0 where
  pub size : length image ≡ 4
  pub digits : Digits image
  pub value : packed_value image ≡ coupon

-- The byte of a number of two digits.
unfoldable pub digit_pair : ℕ → ℕ
digit_pair number = 16 * (number / 10) + number % 10

-- The image of a coupon within the limit, which is the only one (OneImage).
unfoldable pub image_of : ℕ → List ℕ
image_of coupon =
    digit_pair (coupon / 1_000_000) ∷ digit_pair (coupon / 10_000 % 100) ∷ digit_pair (coupon / 100 % 100) ∷ digit_pair (coupon % 100) ∷ []

-- Each coupon within the limit has one image; proved of those in proofs/Images.antt: one_image.
pub record OneImage (coupon : ℕ) : Type 0 where
  pub image : IsImage coupon (image_of coupon)
  pub alone : (other : List ℕ) → IsImage coupon other → other ≡ image_of coupon
