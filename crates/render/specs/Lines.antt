-- The lines of a listing (document 01, 'Deck and printing program').
use Rattle.std.specs.Prelude.{ℕ, ◌+◌, ◌*◌, List, [], ◌∷◌, ◌++◌, ℤ, pos, length}
use Rattle.lines.specs.Text.{decimal, field}
use Rattle.commands.specs.declared.Order.{Order}
use Rattle.walk.specs.Answers.{Said}
use Rattle.words.specs.Words.{word}

-- deck, with its space
unfoldable pub deck_word : List ℕ
deck_word = 100 ∷ 101 ∷ 99 ∷ 107 ∷ 32 ∷ []

-- Each further field stands behind a space.
unfoldable pub fields : List ℤ → List ℕ
fields [] = []
fields (z ∷ zs) = field z ++ fields zs

-- The refusal, or 0 and the answer.
unfoldable pub answer_text : Said → List ℕ
answer_text s = decimal s.number ++ fields s.values

-- A word, what stands behind it, and byte 0A.
unfoldable pub line : List ℕ → List ℕ → List ℕ
line w f = w ++ (f ++ (0x0A ∷ []))

unfoldable pub order_line : Order → Said → List ℕ
order_line o s = line (word o) (answer_text s)

-- The refusal and an offset.
unfoldable pub deck_line : ℕ → ℕ → List ℕ
deck_line number at = line deck_word (decimal number ++ field (pos at))

-- The most bytes of that text, by the width of the code's numbers: a byte, and 64 bits each.
abbrev pub width : Said → ℕ
width s = 3 + 21 * length s.values
