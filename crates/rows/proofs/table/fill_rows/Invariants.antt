-- The rows before the turn are worked on, the others as they were.
use Rattle.std.proofs.Common.{suc}
use Rattle.std.specs.Fork.{ChangesAt}
use Rattle.rows.proofs.Chunks.{Worked}
use Rattle.rows.proofs.table.fill_rows.Given as goal

abbrev pub invariant-loop-j : goal.invariant-loop-j
invariant-loop-j g l = Worked (ChangesAt g.F.Fn l.work) (suc l.tranches) (suc l.names) l.initial.table l.table l.j
