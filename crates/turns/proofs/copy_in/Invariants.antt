use Rattle.std.proofs.Common.{◌≡◌}
use Rattle.turns.specs.Table.{copied_in}
use Rattle.turns.proofs.copy_in.Given as goal

abbrev pub invariant-loop-at : goal.invariant-loop-at
invariant-loop-at l = l.table ≡ copied_in l.fn.table l.left l.at
