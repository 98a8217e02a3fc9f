-- The turn's row is as it was, and comes back worked on.
use Rattle.std.proofs.Common.{refl, arith}
use Rattle.rows.proofs.Chunks.{worked_here, worked_next}
use Rattle.rows.proofs.table.fill_rows.Goals as goal

pub work-requires : goal.work-requires
work-requires g c =
    c.requires.rows_taken c.loop-j.j (omega arith) _ (worked_here c.loop-j.invariant (omega arith) _ _ (omega arith) (omega arith))

pub loop-j-preserved : goal.loop-j-preserved
loop-j-preserved g c =
    worked_next c.loop-j.invariant (omega arith) _ _ (omega arith) (omega arith) c.work.new.arg3 c.requires.table_long c.work.auto.arg3
    record { argument = _; argument_is = worked_here c.loop-j.invariant (omega arith) _ _ (omega arith) (omega arith); after_call = _; call = c.work.ensures; left = refl }
