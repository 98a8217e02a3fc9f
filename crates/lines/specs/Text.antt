-- What the contracts of `lines` cite: a number as document 01, 'Deck and printing program', prints it, and a buffer with text written into it.
use Rattle.std.specs.Prelude.{ℕ, zero, suc, ◌+◌, ◌/◌, ◌%◌, ◌≡◌, true, false, List, [], ◌∷◌, ◌++◌, ltb, ℤ, pos, negsuc, length}
use Rattle.std.proofs.lemmas.List.Edits.{sets}

-- the digits of n in ASCII, from the leading one on, found in at most fuel divisions by ten
abbrev pub spell : ℕ → ℕ → List ℕ
spell zero n = (48 + n) ∷ []
spell (suc fuel) n = elim (ltb n 10) [ true ↦ (48 + n) ∷ [] | false ↦ spell fuel (n / 10) ++ ((48 + n % 10) ∷ []) ]

-- n in decimal: n divisions by ten are always enough
unfoldable pub decimal : ℕ → List ℕ
decimal n = spell n n

-- x in decimal, with a minus sign (45) if it is negative
unfoldable pub signed : ℤ → List ℕ
signed (pos n) = decimal n
signed (negsuc n) = 45 ∷ decimal (suc n)

-- a field of a line: one space (32) and x
unfoldable pub field : ℤ → List ℕ
field x = 32 ∷ signed x

-- after is before with text from at on, which ends at end
pub record Wrote (before : List ℕ) (at : ℕ) (text after : List ℕ) (end : ℕ) : Type 0 where
  pub bytes : after ≡ sets before at text
  pub stop : end ≡ at + length text
