-- The loop's invariant: the rows stand at step i, and the lists and tables are those of the sheet.
use Rattle.std.proofs.Common.{◌-◌}
use Rattle.backward.proofs.BetweenSteps.{StepsDone}
use Rattle.backward.proofs.walk_with_tables.Given as goal

abbrev pub invariant-loop-i : goal.invariant-loop-i
invariant-loop-i l =
    StepsDone l.fn.brought.sheet l.initial.defaults l.initial.premiums l.position l.count l.starts l.hazards l.discounts l.accruals l.elapsed l.paid l.left l.earned l.defaults l.premiums l.held (l.position - l.i)
