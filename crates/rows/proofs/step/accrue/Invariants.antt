-- `rows::step::accrue` meets its contract. The loop's invariant: the entries passed have their premium, the others are as they were.
use Rattle.rows.specs.Kernels.{accrued_at}
use Rattle.rows.proofs.Sweep.{Swept}
use Rattle.rows.proofs.step.accrue.Given as goal

abbrev pub invariant-loop-i : goal.invariant-loop-i
invariant-loop-i l = Swept (accrued_at l.accrual l.outstandings l.initial.rows) l.initial.rows l.rows l.i
