-- What a call of the walk answers: a refusal, or what it was asked for; and which of these a result is.
use Rattle.std.specs.Prelude.{ℕ, Result, Ok, Err, ⊤, ℤ}
use Rattle.refusals.specs.declared.Refusal.{Refusal}
use Rattle.figures.specs.declared.Worth as Figures

pub data Answer : Type 0 where
  Refused : Refusal → Answer
  -- open and forward
  Done : Answer
  -- back: the new position
  Position : ℕ → Answer
  -- value: D, A and W
  Worth : ℕ → ℕ → ℤ → Answer
  -- hedge ratio, in millionths
  Ratio : ℤ → Answer

-- A result of any call, where `told` is what an accepted one answers.
abbrev pub answer_of : {T : Type 0} → (T → Answer) → Result T Refusal → Answer
answer_of told (Ok x) = told x
answer_of told (Err refusal) = Refused refusal

abbrev pub worth_of : Figures.Worth → Answer
worth_of w = Worth w.default w.premium w.net

-- That of open and forward, of back, of value and of hedge ratio.
abbrev pub done_answer : Result ⊤ Refusal → Answer
done_answer r = answer_of (λ _. Done) r

abbrev pub position_answer : Result ℕ Refusal → Answer
position_answer r = answer_of Position r

abbrev pub worth_answer : Result Figures.Worth Refusal → Answer
worth_answer r = answer_of worth_of r

abbrev pub ratio_answer : Result ℤ Refusal → Answer
ratio_answer r = answer_of Ratio r
