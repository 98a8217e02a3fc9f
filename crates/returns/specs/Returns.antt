-- What an exported call returns, beside what the walk's own call gives.
use Rattle.std.specs.Prelude.{ℕ, zero, suc, List, [], ◌∷◌, ℤ, pos}
use Rattle.walk.specs.declared.Walk.{Walk}
use Rattle.rows.specs.Rows.{Rows}
use Rattle.walk.specs.Answers.{said_of}
use Rattle.walk.specs.Calls.{Outcome}
use Rattle.returns.specs.declared.Opened.{Opened}
use Rattle.returns.specs.declared.Moved.{Moved}
use Rattle.returns.specs.declared.Valued.{Valued}
use Rattle.returns.specs.declared.Hedged.{Hedged}

-- Document 01's number and values, with the walk and the rows that are left.
pub record Return : Type 0 where
  pub number : ℕ
  pub values : List ℤ
  pub walk : Walk
  pub rows : Rows

-- So many values: 0 where there is none.
abbrev pub padded : ℕ → List ℤ → List ℤ
padded zero vs = []
padded (suc n) [] = pos 0 ∷ padded n []
padded (suc n) (v ∷ vs) = v ∷ padded n vs

-- What a call gives, with so many values.
abbrev pub returned : ℕ → Outcome → Return
returned n o =
    record { number = (said_of o.answer).number; values = padded n (said_of o.answer).values; walk = o.walk; rows = o.rows }

-- What the exported calls return and leave, as this.
abbrev pub opened : Opened → Rows → Return
opened r l = record { number = r.number; values = []; walk = r.walk; rows = l }

abbrev pub moved : Moved → Rows → Return
moved r l = record { number = r.number; values = pos r.position ∷ []; walk = r.walk; rows = l }

abbrev pub valued : Valued → Rows → Return
valued r l =
    record {
      number = r.number;
      values = pos r.default ∷ pos r.premium ∷ r.net ∷ [];
      walk = r.walk;
      rows = l;
    }

abbrev pub hedged : Hedged → Rows → Return
hedged r l = record { number = r.number; values = r.ratio ∷ []; walk = r.walk; rows = l }
