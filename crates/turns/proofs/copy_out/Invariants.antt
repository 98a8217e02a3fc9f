use Rattle.std.proofs.Common.{◌≡◌}
use Rattle.turns.specs.Table.{copied_out}
use Rattle.turns.proofs.copy_out.Given as goal

abbrev pub invariant-loop-i : goal.invariant-loop-i
invariant-loop-i l = l.left ≡ copied_out l.table l.fn.left l.i
