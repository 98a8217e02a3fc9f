-- `amounts::put_figure` meets its contract.
use Rattle.std.proofs.Common.{arith, length-set}
use Rattle.lines.specs.Text.{field}
use Rattle.lines.proofs.Laws.{wrote_after}
use Rattle.amounts.proofs.put_figure.Goals as goal

pub bounds-out-at : goal.bounds-out-at
unfolding field
bounds-out-at c = omega (arith, c.requires.1)

pub put_signed-requires : goal.put_signed-requires
unfolding field
put_signed-requires c = (c.requires.0, simp length-set (omega (arith, c.requires.1)))

pub returns : goal.returns
unfolding field
returns c = wrote_after 32 c.put_signed.ensures
