-- What the call on a book answers and leaves (T-09). 28, book, is a number of that request; 2 is document 01's.
use Rattle.std.specs.Prelude.{ℕ, cond, List, [], ◌∷◌, ◌++◌, eqb, ℤ, length, drop, Result, Ok, Err}
use Rattle.totals.specs.Totals.{taken}
use Rattle.book.specs.declared.BookRefusal.{BookRefusal}
use Rattle.book.specs.Lines.{book_line}

-- What the call answers: the bytes of the line, or why there is none.
abbrev pub Answer : Type 0
Answer = Result ℕ BookRefusal

-- The number of each refusal, and of each answer: 0 if accepted. The bytes of the line: none if refused.
abbrev pub refusal_number : BookRefusal → ℕ
refusal_number BookRefusal.Length = 2
refusal_number BookRefusal.Book = 28

abbrev pub report_number : Answer → ℕ
report_number (Ok bytes) = 0
report_number (Err refusal) = refusal_number refusal

abbrev pub report_values : Answer → List ℕ
report_values (Ok bytes) = bytes ∷ []
report_values (Err refusal) = []

-- 2, then 28.
abbrev pub report_answer : List ℤ → List ℤ → List ℕ → Answer
report_answer nominals values lent =
    cond (eqb (length lent) 96) (cond (taken nominals values) (Ok (length (book_line nominals values))) (Err BookRefusal.Book)) (Err BookRefusal.Length)

-- Text at the start of what was lent, of which the rest keeps.
abbrev pub starting_with : List ℕ → List ℕ → List ℕ
starting_with text lent = text ++ drop (length text) lent

-- A refused call leaves what was lent.
abbrev pub left_by : Answer → List ℤ → List ℤ → List ℕ → List ℕ
left_by (Ok bytes) nominals values lent = starting_with (book_line nominals values) lent
left_by (Err refusal) nominals values lent = lent

abbrev pub report_leaves : List ℤ → List ℤ → List ℕ → List ℕ
report_leaves nominals values lent = left_by (report_answer nominals values lent) nominals values lent
