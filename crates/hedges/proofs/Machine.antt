-- From the machine's reading of an i64 to the number. A signed local holds bits, and an operation on it reads `to_z w64` of them and writes `of_z w64` of its result.
-- So each operation is one equation, from what it reads to the number that is meant, and a bound on that number: `fits_of` answers its need, and `back` is the equation for the next operation.
use Rattle.std.proofs.Common.{◌≡◌, sym, ◌∙◌, subst, Bool, ℕ, ◌<◌, ◌^◌, ℤ, pos, nat_abs, w64, SFits, to_z, of_z}
use mir.ValLaws.{to_z-of_z, to_z_pos}
use Rattle.std.proofs.lemmas.Int.{fits_signed_from_abs}
use Rattle.hedges.specs.Hedges.{with_sign}
use Rattle.hedges.proofs.Signs.{size_of}

pub fits_of : {z z' : ℤ} → z ≡ z' → nat_abs z' < 2 ^ 63 → SFits w64 z
fits_of {z} {z'} e h = subst (SFits w64) (sym e) (fits_signed_from_abs w64 z' h)

pub back : {z z' : ℤ} → z ≡ z' → nat_abs z' < 2 ^ 63 → to_z w64 (of_z w64 z) ≡ z'
back {z} e h = to_z-of_z w64 z (fits_of e h) ∙ e

pub two : (op : ℤ → ℤ → ℤ) {x x' y y' : ℤ} → x ≡ x' → y ≡ y' → op x y ≡ op x' y'
two op p q = λ i. op (p i) (q i)

-- a number that was cast from an unsigned one
pub from_nat : (n : ℕ) → n < 2 ^ 63 → to_z w64 n ≡ pos n
from_nat n h = to_z_pos w64 n h

-- the same, where the number is meant by sign and size
pub fits_signed : {z : ℤ} (s : Bool) (n : ℕ) → z ≡ with_sign s n → n < 2 ^ 63 → SFits w64 z
fits_signed s n e h = fits_of e (subst (λ (m : ℕ). m < 2 ^ 63) (sym (size_of s n)) h)

pub back_signed : {z : ℤ} (s : Bool) (n : ℕ) → z ≡ with_sign s n → n < 2 ^ 63 → to_z w64 (of_z w64 z) ≡ with_sign s n
back_signed s n e h = back e (subst (λ (m : ℕ). m < 2 ^ 63) (sym (size_of s n)) h)
