-- `elapsed::earned_row` meets its contract. The loop's invariant: the counts passed have their payment.
use Rattle.rows.specs.Kernels.{earned_at}
use Rattle.rows.proofs.Sweep.{Swept}
use Rattle.elapsed.proofs.earned_row.Given as goal

abbrev pub invariant-loop-k : goal.invariant-loop-k
invariant-loop-k l = Swept (earned_at l.names l.fraction l.outstandings) l.initial.row l.row l.k
