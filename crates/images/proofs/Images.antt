-- Images of coupons: the one that `image_of` makes, and no other.
use Rattle.std.proofs.Common.{ℕ, zero, suc, ◌+◌, ◌*◌, ◌/◌, ◌%◌, ◌≤◌, ◌<◌, ◌≡◌, refl, sym, ◌∙◌, ap, List, [], ◌∷◌, arith, length, get_or}
use Rattle.images.specs.Images.{two_digits, packed_value, Digits, IsImage, digit_pair, image_of, OneImage}

-- ---- four bytes

never_four : {A : Type 0} (n : ℕ) → suc (suc (suc (suc (suc n)))) ≡ 4 → A
never_four n e = absurd (omega arith)

-- Four bytes are known by their places.
pub four_bytes : (l : List ℕ) → length l ≡ 4 → l ≡ get_or l 0 0 ∷ get_or l 1 0 ∷ get_or l 2 0 ∷ get_or l 3 0 ∷ []
four_bytes [] e = absurd (omega arith)
four_bytes (w ∷ []) e = absurd (omega arith)
four_bytes (w ∷ x ∷ []) e = absurd (omega arith)
four_bytes (w ∷ x ∷ y ∷ []) e = absurd (omega arith)
four_bytes (w ∷ x ∷ y ∷ z ∷ []) e = refl
four_bytes (w ∷ x ∷ y ∷ z ∷ v ∷ l) e = never_four (length l) e

-- ---- two digits

-- Both half bytes are at most 9.
abbrev pub Pair : ℕ → Type 0
Pair byte = (byte / 16 ≤ 9) × (byte % 16 ≤ 9)

pub pair_digits : (n : ℕ) → n < 100 → Pair (digit_pair n)
unfolding digit_pair
pair_digits n h = (omega arith, omega arith)

pub two_of_pair : (n : ℕ) → n < 100 → two_digits (digit_pair n) ≡ n
unfolding digit_pair two_digits
two_of_pair n h = omega arith

pub pair_of_two : (byte : ℕ) → Pair byte → digit_pair (two_digits byte) ≡ byte
unfolding digit_pair two_digits
pair_of_two byte (h, l) = omega arith

pub two_small : (byte : ℕ) → Pair byte → two_digits byte < 100
unfolding two_digits
two_small byte (h, l) = omega arith

-- ---- the image of a coupon

module _ (v : ℕ) (h : v ≤ 10_000_000) where
  image_value : packed_value (image_of v) ≡ v
  unfolding packed_value image_of
  image_value =
      omega (
        arith,
        two_of_pair (v / 1_000_000) (omega arith),
        two_of_pair (v / 10_000 % 100) (omega arith),
        two_of_pair (v / 100 % 100) (omega arith),
        two_of_pair (v % 100) (omega arith),
      )

  image_digits : Digits (image_of v)
  unfolding image_of
  image_digits zero b = pair_digits (v / 1_000_000) (omega arith)
  image_digits (suc zero) b = pair_digits (v / 10_000 % 100) (omega arith)
  image_digits (suc (suc zero)) b = pair_digits (v / 100 % 100) (omega arith)
  image_digits (suc (suc (suc zero))) b = pair_digits (v % 100) (omega arith)
  image_digits (suc (suc (suc (suc i)))) b = absurd (omega arith)

  pub is_image : IsImage v (image_of v)
  unfolding image_of
  is_image = record { size = refl; digits = image_digits; value = image_value }

-- The pairs of digits of a number of four such pairs.
module _ (x y z w : ℕ) (hx : x < 100) (hy : y < 100) (hz : z < 100) (hw : w < 100) where
  first : (1_000_000 * x + 10_000 * y + 100 * z + w) / 1_000_000 ≡ x
  first = omega arith

  second : (1_000_000 * x + 10_000 * y + 100 * z + w) / 10_000 % 100 ≡ y
  second = omega arith

  third : (1_000_000 * x + 10_000 * y + 100 * z + w) / 100 % 100 ≡ z
  third = omega arith

  fourth : (1_000_000 * x + 10_000 * y + 100 * z + w) % 100 ≡ w
  fourth = omega arith

-- Four bytes that are the same, place by place.
same_four : {a b c d e f g h : ℕ} → a ≡ e → b ≡ f → c ≡ g → d ≡ h → ◌≡◌ {A = List ℕ} (a ∷ b ∷ c ∷ d ∷ []) (e ∷ f ∷ g ∷ h ∷ [])
same_four p q r s = cc

-- Four bytes of digits are the image of their number, whatever it is.
pub image_again : (l : List ℕ) → length l ≡ 4 → Digits l → image_of (packed_value l) ≡ l
unfolding image_of packed_value
image_again l e d =
    let a = d 0 (omega arith) in
    let b = d 1 (omega arith) in
    let c = d 2 (omega arith) in
    let f = d 3 (omega arith) in
    let sa = two_small (get_or l 0 0) a in
    let sb = two_small (get_or l 1 0) b in
    let sc = two_small (get_or l 2 0) c in
    let sf = two_small (get_or l 3 0) f in
    same_four
    (ap digit_pair (first _ _ _ _ sa sb sc sf) ∙ pair_of_two (get_or l 0 0) a)
    (ap digit_pair (second _ _ _ _ sa sb sc sf) ∙ pair_of_two (get_or l 1 0) b)
    (ap digit_pair (third _ _ _ _ sa sb sc sf) ∙ pair_of_two (get_or l 2 0) c)
    (ap digit_pair (fourth _ _ _ _ sa sb sc sf) ∙ pair_of_two (get_or l 3 0) f)
    ∙ sym (four_bytes l e)

pub image_alone : (v : ℕ) (l : List ℕ) → IsImage v l → l ≡ image_of v
image_alone v l i = sym (image_again l i.size i.digits) ∙ ap image_of i.value

pub one_image : (v : ℕ) → v ≤ 10_000_000 → OneImage v
one_image v h = record { image = is_image v h; alone = image_alone v }
