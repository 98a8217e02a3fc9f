-- A call for turns on a table of walk records: what it answers and leaves.
use Rattle.std.specs.Prelude.{List, ℕ, Result}
use Rattle.places.specs.declared.Served.{Served}
use Rattle.places.specs.declared.NotTaken.{NotTaken}
use Rattle.places.specs.Places.{Outcome, served}
use Rattle.turns.specs.declared.Turn.{Turn}
use Rattle.turns.specs.Table.{steps_of, with_steps}

pub record Leaves : Type 0 where
  pub answer : Result Served NotTaken
  pub table : List Turn
  pub list : List ℕ

abbrev pub on_table : List Turn → Outcome → Leaves
on_table table o = record { answer = o.answer; table = with_steps table o.left; list = o.list }

-- The steps left are served; the walks keep.
abbrev pub turned : List Turn → ℕ → List ℕ → Leaves
turned table place list = on_table table (served (steps_of table) place list)
