-- What it is for text to be a whole number in print (T-09), by what it is read as: signed, without leading zeros, and zero is 0. It is `signed` of
-- `lines`, and nothing else (proofs/Printed.antt: printed_signed, printed_alone).
use Rattle.std.specs.Prelude.{ℕ, suc, ◌+◌, ◌*◌, ◌-◌, ◌≤◌, ◌<◌, ◌≡◌, List, [], ◌∷◌, ℤ, pos, negsuc, length, get_or, drop}

-- The number that digits in ASCII stand for behind n, the leading digit first.
unfoldable pub read_on : ℕ → List ℕ → ℕ
read_on n [] = n
read_on n (byte ∷ text) = read_on (10 * n + (byte - 48)) text

-- The digits of n. A text of more than one digit does not begin with 0.
pub record IsDecimal (n : ℕ) (text : List ℕ) : Type 0 where
  pub some : 1 ≤ length text
  pub digits : (i : ℕ) → i < length text → (48 ≤ get_or text i 0) × (get_or text i 0 ≤ 57)
  pub value : read_on 0 text ≡ n
  pub plain : get_or text 0 0 ≡ 48 → length text ≡ 1

-- A minus sign (45) stands before a number below 0, and before no other.
abbrev pub IsPrinted : ℤ → List ℕ → Type 0
IsPrinted (pos n) text = IsDecimal n text
IsPrinted (negsuc n) text = (get_or text 0 0 ≡ 45) × IsDecimal (suc n) (drop 1 text)
