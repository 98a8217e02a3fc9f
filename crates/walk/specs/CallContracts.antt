-- The promise as the code's own contracts carry it: of every list of calls that leads to the state a call is given.
use Rattle.std.specs.Prelude.{ℕ, ◌≡◌, List}
use Rattle.sheet.specs.Brought.{Brought}
use Rattle.walk.specs.declared.Walk.{Walk}
use Rattle.rows.specs.Rows.{Rows}
use Rattle.walk.specs.Calls.{Outcome}
use Rattle.walk.specs.OurEngine.{ours, walk_result}
use Rattle.walk.specs.CallLists.{Call, Run, sheet_in, end, answers}
use Rattle.walk.specs.Liveness.{then}
use Rattle.walk.specs.Promise.{Whole}

-- A list of calls, and the same with this call, which gave back this outcome.
pub record Continues (run : Run) (call : Call) (o : Outcome) : Type 0 where
  -- Both lists keep the whole promise.
  pub before : Whole ours run
  pub after : Whole ours (then run call)
  -- The call answers what our engine answers where the list ends,
  pub said : answers ours run call ≡ (walk_result o).said
  -- and leaves its state where the longer list ends.
  pub left : end ours (then run call) ≡ record { register = (end ours run).register; walk = o.walk; rows = o.rows }

-- Wherever a list of calls leads to this state and brings this sheet.
abbrev pub Promised : Brought → List ℕ → Walk → Rows → Call → Outcome → Type 0
Promised x register walk rows call o =
    (run : Run) → sheet_in run x.number ≡ x → end ours run ≡ record { register = register; walk = walk; rows = rows } → Continues run call o
