-- What calls answer, by document 01's numbers and values.
use Rattle.std.specs.Prelude.{ℕ, Bool, false, List, [], ◌∷◌, eqb, ℤ, pos}
use Rattle.register.specs.Register.{WriteAnswer, number_of}
use Rattle.refusals.specs.Refusals.{refusal_number}
use Rattle.walk.specs.declared.Walk.{Walk}
use Rattle.figures.specs.Answer.{Answer, Refused, Done, Position, Worth, Ratio}

-- A fresh walk is closed, with zeros.
abbrev pub fresh : Walk
fresh = record { «open» = false; number = 0; position = 0 }

-- An answer in document 01's terms: 0 and the values, or a refusal's number alone.
pub record Said : Type 0 where
  pub number : ℕ
  pub values : List ℤ

abbrev pub said_of : Answer → Said
said_of (Refused refusal) = record { number = refusal_number refusal; values = [] }
said_of Done = record { number = 0; values = [] }
said_of (Position i) = record { number = 0; values = pos i ∷ [] }
said_of (Worth d a w) = record { number = 0; values = pos d ∷ pos a ∷ w ∷ [] }
said_of (Ratio z) = record { number = 0; values = z ∷ [] }

-- The same of issue and withdraw, which answer no value.
abbrev pub said_by : WriteAnswer → Said
said_by answer = record { number = number_of answer; values = [] }

abbrev pub accepted : Said → Bool
accepted said = eqb said.number 0
