-- `lines::put_count` meets its contract.
use Rattle.std.proofs.Common.{arith, length-set}
use Rattle.lines.specs.Text.{signed, field}
use Rattle.lines.proofs.Laws.{wrote_after}
use Rattle.lines.proofs.put_count.Goals as goal

pub bounds-out-at : goal.bounds-out-at
unfolding field signed
bounds-out-at c = omega arith

pub put_decimal-requires : goal.put_decimal-requires
unfolding field signed
put_decimal-requires c = simp length-set (omega arith)

pub returns : goal.returns
unfolding field signed
returns c = wrote_after 32 c.put_decimal.ensures
