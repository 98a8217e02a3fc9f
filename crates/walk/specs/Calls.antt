-- The calls of the walk as total functions: what each answers, and the walk and the rows it leaves.
use Rattle.refusals.specs.declared.Refusal.{Refusal}
use Rattle.std.specs.Prelude.{ℕ, ◌-◌, ◌*◌, true, ◌||◌, List, [], ◌∷◌, leb, ltb, eqb, nat_abs, Result, Ok, Err, ⊤}
use Rattle.hedges.specs.Hedges.{ratio_of}
use Rattle.tree.specs.Sheet.{default_of, premium_of}
use Rattle.rows.specs.Rows.{Rows, rows_of, row_of, rolled_back, distribution_row}
use Rattle.sheet.specs.Brought.{Brought}
use Rattle.refusals.specs.declared.Refusal.TheVariants.{OutOfSteps, OffTree, FlatHedge, OffScale}
use Rattle.refusals.specs.Tests.{Test, first}
use Rattle.walk.specs.declared.Walk.{Walk}
use Rattle.figures.specs.Answer.{Answer, Refused, Done, Position, Ratio, done_answer}
use Rattle.walk.specs.declared.Reply.{Reply}
use Rattle.figures.specs.Nodes.{jump}
use Rattle.figures.specs.Replies.{worth}
use Rattle.admission.specs.LentTests.{rows_bad, row_bad, ten_tests, walk_tests}

-- What open, back, value and hedge ratio give back; and forward.
pub record Outcome : Type 0 where
  pub answer : Answer
  pub walk : Walk
  pub rows : Rows

pub record ForwardOutcome : Type 0 where
  pub answer : Answer
  pub row : List ℕ

-- What the code hands over and leaves, as these, where `answers` tells which answer a result is.
abbrev pub left : {T : Type 0} → (Result T Refusal → Answer) → Result T Refusal → Walk → List ℕ → List ℕ → Outcome
left answers result walk defaults premiums = record { answer = answers result; walk = walk; rows = rows_of defaults premiums }

abbrev pub replied : {T : Type 0} → (Result T Refusal → Answer) → Reply T → List ℕ → List ℕ → Outcome
replied answers reply defaults premiums = left answers reply.answer reply.walk defaults premiums

abbrev pub forward_outcome : Result ⊤ Refusal → List ℕ → ForwardOutcome
forward_outcome result row = record { answer = done_answer result; row = row }

-- ---- the orders

-- The checks 1 to 12 of a walk.
abbrev pub twelve_tests : Brought → List ℕ → Walk → Rows → List Test → List Test
twelve_tests x register walk rows more = walk_tests x register walk.«open» walk.number walk.position rows more

unfoldable pub open_tests : Brought → List ℕ → Rows → List Test
open_tests x register rows = ten_tests x register (rows_bad x register rows) []

unfoldable pub back_tests : Brought → List ℕ → Walk → Rows → ℕ → List Test
back_tests x register walk rows c = twelve_tests x register walk rows ((ltb walk.position c, OutOfSteps) ∷ [])

unfoldable pub value_tests : Brought → List ℕ → Walk → Rows → ℕ → ℕ → List Test
value_tests x register walk rows j k = twelve_tests x register walk rows ((ltb x.sheet.tranches j || ltb x.sheet.names k, OffTree) ∷ [])

unfoldable pub ratio_tests : Brought → List ℕ → Walk → Rows → ℕ → ℕ → List Test
ratio_tests x register walk rows j k =
    twelve_tests x register walk rows
    ((ltb x.sheet.tranches j || leb x.sheet.names k, OffTree) ∷ (eqb (nat_abs (jump x rows x.sheet.tranches k)) 0, FlatHedge)
    ∷ (leb (1_000_000 * nat_abs (jump x rows x.sheet.tranches k)) (nat_abs (jump x rows j k)), OffScale) ∷ [])

unfoldable pub forward_tests : Brought → List ℕ → List ℕ → ℕ → List Test
forward_tests x register row i = ten_tests x register (row_bad x register row) ((ltb x.sheet.steps i, OutOfSteps) ∷ [])

-- ---- the calls

-- A refusal hands back walk and rows as they were.
unfoldable pub or_outcome : Result ⊤ Refusal → Walk → Rows → Outcome → Outcome
or_outcome (Ok tt) walk rows o = o
or_outcome (Err refusal) walk rows o = record { answer = Refused refusal; walk = walk; rows = rows }

unfoldable pub or_forward_outcome : Result ⊤ Refusal → List ℕ → ForwardOutcome → ForwardOutcome
or_forward_outcome (Ok tt) row o = o
or_forward_outcome (Err refusal) row o = record { answer = Refused refusal; row = row }

unfoldable pub zeros : Brought → Rows
zeros x = record { defaults = row_of x.sheet (λ j k. 0); premiums = row_of x.sheet (λ j k. 0) }

-- Both rows c steps back from step i.
unfoldable pub rolls : Brought → ℕ → ℕ → Rows → Rows
rolls x i c rows =
    record {
      defaults = rolled_back x.sheet (default_of x.sheet) i c rows.defaults;
      premiums = rolled_back x.sheet (premium_of x.sheet) i c rows.premiums;
    }

unfoldable pub open_call : Brought → List ℕ → Walk → Rows → Outcome
open_call x register walk rows =
    or_outcome (first (open_tests x register rows)) walk rows
    (record { answer = Done; walk = record { «open» = true; number = x.number; position = x.sheet.steps }; rows = zeros x })

unfoldable pub back_call : Brought → List ℕ → Walk → Rows → ℕ → Outcome
back_call x register walk rows c =
    or_outcome (first (back_tests x register walk rows c)) walk rows
    (record {
      answer = Position (walk.position - c);
      walk = record { «open» = walk.«open»; number = walk.number; position = walk.position - c };
      rows = rolls x walk.position c rows;
    })

unfoldable pub value_call : Brought → List ℕ → Walk → Rows → ℕ → ℕ → Outcome
value_call x register walk rows j k =
    or_outcome (first (value_tests x register walk rows j k)) walk rows (record { answer = worth x rows j k; walk = walk; rows = rows })

unfoldable pub ratio_call : Brought → List ℕ → Walk → Rows → ℕ → ℕ → Outcome
ratio_call x register walk rows j k =
    or_outcome (first (ratio_tests x register walk rows j k)) walk rows
    (record { answer = Ratio (ratio_of (jump x rows j k) (jump x rows x.sheet.tranches k)); walk = walk; rows = rows })

unfoldable pub forward_call : Brought → List ℕ → List ℕ → ℕ → ForwardOutcome
forward_call x register row i =
    or_forward_outcome (first (forward_tests x register row i)) row (record { answer = Done; row = distribution_row x.sheet i })
