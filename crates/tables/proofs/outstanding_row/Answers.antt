-- `tables::outstanding_row` meets its contract. The loop's invariant: the counts passed are filled.
use Rattle.std.proofs.Common.{arith}
use Rattle.rows.proofs.Sweep.{swept_more, swept_tab}
use Rattle.tables.proofs.outstanding_row.Goals as goal

pub loop-k-preserved : goal.loop-k-preserved
loop-k-preserved c =
    let v = c.loop-k.invariant in
    swept_more _ _ _ _ _ v (omega (arith, v.same, c.requires.row_of_tranche.1)) c.outstanding_at.ensures

pub returns : goal.returns
returns c = swept_tab _ c.loop-k.invariant c.requires.row_of_tranche.1 (omega (arith, c.requires.row_of_tranche.1))
