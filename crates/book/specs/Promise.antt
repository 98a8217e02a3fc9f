-- The promise of a book (T-09), of any function in the place of the call: `Keeps`.
use Rattle.std.specs.Prelude.{ℕ, suc, ◌+◌, ◌≡◌, ◌≢◌, Bool, false, cond, ◌&&◌, List, [], ◌∷◌, ◌++◌, map, eqb, ℤ, pos, negsuc, ◌+ℤ◌, length}
use Rattle.totals.specs.Totals.{total, gains, losses, Taken}
use Rattle.book.specs.Lines.{IsLine}
use Rattle.book.specs.Answers.{Answer, report_number, report_values, report_answer, starting_with, report_leaves}

-- What the call gives back, 0 and the line's bytes or a refusal's number alone, and the bytes that it leaves.
pub record Result : Type 0 where
  pub number : ℕ
  pub values : List ℕ
  pub left : List ℕ

-- A function of nominals, values W and the bytes lent.
abbrev pub Reporter : Type 0
Reporter = List ℤ → List ℤ → List ℕ → Result

-- ---- the call

abbrev pub refuses : ℕ → List ℕ → Result
refuses number lent = record { number = number; values = []; left = lent }

-- The exact totals in one line at the start of what was lent; its bytes are told, the rest keeps.
pub record Reports (nominals values : List ℤ) (lent : List ℕ) (o : Result) : Type 0 where
  pub text : List ℕ
  pub line : IsLine (total nominals values) (gains nominals values) (losses nominals values) text
  pub is : o ≡ record { number = 0; values = length text ∷ []; left = starting_with text lent }

-- The refusals in their order, each of which leaves what was lent; then the report.
pub record BookRule (nominals values : List ℤ) (lent : List ℕ) (o : Result) : Type 0 where
  pub wrong_length : length lent ≢ 96 → o ≡ refuses 2 lent
  pub not_taken : length lent ≡ 96 → ¬ (Taken nominals values) → o ≡ refuses 28 lent
  pub accepted : length lent ≡ 96 → Taken nominals values → Reports nominals values lent o

-- ---- what follows for whoever reads the line

-- A line that tells three numbers: it is as long as was told, the first number is the sum of the others, the second is never below 0 and the third
-- never above.
pub record Adds (o : Result) (text : List ℕ) (whole gained lost : ℤ) : Type 0 where
  pub told : o.values ≡ length text ∷ []
  pub adds : gained +ℤ lost ≡ whole
  pub never_below : (n : ℕ) → gained ≢ negsuc n
  pub never_above : (n : ℕ) → lost ≢ pos (suc n)

-- A position: a nominal and its W.
abbrev pub Position : Type 0
Position = ℤ × ℤ

abbrev pub nominals_of : List Position → List ℤ
nominals_of positions = map (λ (p : Position). p.0) positions

abbrev pub values_of : List Position → List ℤ
values_of positions = map (λ (p : Position). p.1) positions

abbrev pub same_number : ℤ → ℤ → Bool
same_number (pos m) (pos n) = eqb m n
same_number (pos m) (negsuc n) = false
same_number (negsuc m) (pos n) = false
same_number (negsuc m) (negsuc n) = eqb m n

abbrev pub same_position : Position → Position → Bool
same_position p q = same_number p.0 q.0 && same_number p.1 q.1

-- How often x stands in a list.
abbrev pub times_in : {A : Type 0} → (A → A → Bool) → A → List A → ℕ
times_in same x [] = 0
times_in same x (y ∷ l) = cond (same x y) 1 0 + times_in same x l

-- The same positions, in whatever order: each stands in both as often.
abbrev pub SamePositions : List Position → List Position → Type 0
SamePositions a b = (p : Position) → times_in same_position p a ≡ times_in same_position p b

-- ---- the whole promise

pub record Keeps (f : Reporter) : Type 0 where
  pub rule : (nominals values : List ℤ) (lent : List ℕ) → BookRule nominals values lent (f nominals values lent)
  pub same_length : (nominals values : List ℤ) (lent : List ℕ) → length (f nominals values lent).left ≡ length lent
  -- Whatever line is read at the start of what an accepted call leaves.
  pub adds : (nominals values : List ℤ) (lent : List ℕ) → (f nominals values lent).number ≡ 0 →
      (whole gained lost : ℤ) (text rest : List ℕ) → IsLine whole gained lost text → (f nominals values lent).left ≡ text ++ rest →
      Adds (f nominals values lent) text whole gained lost
  pub any_order : (a b : List Position) (lent : List ℕ) → SamePositions a b →
      f (nominals_of a) (values_of a) lent ≡ f (nominals_of b) (values_of b) lent

-- An answer of the code, and the bytes left with it, as this result.
abbrev pub reported_by : Answer → List ℕ → Result
reported_by answer left = record { number = report_number answer; values = report_values answer; left = left }

-- Ours: what the contract of `book::total` says.
abbrev pub ours : Reporter
ours nominals values lent = reported_by (report_answer nominals values lent) (report_leaves nominals values lent)
