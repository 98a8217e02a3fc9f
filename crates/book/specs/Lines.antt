-- The line of a book (T-09): `book 0`, three figures and byte 0A, as a deck prints its lines.
use Rattle.std.specs.Prelude.{ℕ, ◌≡◌, List, [], ◌∷◌, ◌++◌, ℤ}
use Rattle.lines.specs.Text.{field}
use Rattle.amounts.specs.Printed.{IsPrinted}
use Rattle.totals.specs.Totals.{total, gains, losses}

-- What it is to be the line of three numbers. In ASCII `book 0` is 98 111 111 107 32 48, and each figure stands behind a space (32).
pub record IsLine (first second third : ℤ) (text : List ℕ) : Type 0 where
  pub first_text : List ℕ
  pub second_text : List ℕ
  pub third_text : List ℕ
  pub first_printed : IsPrinted first first_text
  pub second_printed : IsPrinted second second_text
  pub third_printed : IsPrinted third third_text
  pub whole : text ≡ 98 ∷ 111 ∷ 111 ∷ 107 ∷ 32 ∷ 48 ∷ 32 ∷ (first_text ++ (32 ∷ (second_text ++ (32 ∷ (third_text ++ (10 ∷ []))))))

-- The line that is written, which is the only one (OneLine).
unfoldable pub line_of : ℤ → ℤ → ℤ → List ℕ
line_of first second third = 98 ∷ 111 ∷ 111 ∷ 107 ∷ 32 ∷ 48 ∷ (field first ++ (field second ++ (field third ++ (10 ∷ []))))

pub record OneLine (first second third : ℤ) : Type 0 where
  pub line : IsLine first second third (line_of first second third)
  pub alone : (other : List ℕ) → IsLine first second third other → other ≡ line_of first second third

pub record SameLine (x y z first second third : ℤ) (text other : List ℕ) : Type 0 where
  pub first_same : x ≡ first
  pub second_same : y ≡ second
  pub third_same : z ≡ third
  pub text_same : text ≡ other

-- Two lines that are read at the start of the same bytes are one.
abbrev pub OneReading : Type 0
OneReading =
    (x y z first second third : ℤ) (text other rest behind : List ℕ) → IsLine x y z text → IsLine first second third other →
    text ++ rest ≡ other ++ behind → SameLine x y z first second third text other

-- The line of a book: the total, the gains, the losses.
abbrev pub book_line : List ℤ → List ℤ → List ℕ
book_line nominals values = line_of (total nominals values) (gains nominals values) (losses nominals values)
