-- What an order answers, by document 01's number and values.
use Rattle.std.specs.Prelude.{ℕ, List, [], ◌∷◌, ℤ, pos, Result, Ok, Err}
use Rattle.register.specs.Register.{number_of}
use Rattle.refusals.specs.Refusals.{refusal_number}
use Rattle.walk.specs.Answers.{Said}
use Rattle.answers.specs.declared.Told.{Told}
use Rattle.answers.specs.declared.Told.TheVariants.{Done, Position, Worth, Ratio, Probability}
use Rattle.answers.specs.declared.OrderRefusal.{OrderRefusal}
use Rattle.answers.specs.declared.OrderRefusal.TheVariants.{Call, Write}

-- An accepted order's values.
abbrev pub told_values : Told → List ℤ
told_values Done = []
told_values (Position i) = pos i ∷ []
told_values (Worth w) = pos w.default ∷ pos w.premium ∷ w.net ∷ []
told_values (Ratio z) = z ∷ []
told_values (Probability q) = pos q ∷ []

abbrev pub order_refusal_number : OrderRefusal → ℕ
order_refusal_number (Call refusal) = refusal_number refusal
order_refusal_number (Write refusal) = number_of (Err refusal)

abbrev pub answer_said : Result Told OrderRefusal → Said
answer_said (Ok told) = record { number = 0; values = told_values told }
answer_said (Err refusal) = record { number = order_refusal_number refusal; values = [] }
