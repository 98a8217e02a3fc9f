-- `rows::step::roll` meets its contract. The loop's invariant: the counts passed are rolled, the others as they were.
use Rattle.rows.specs.Kernels.{rolled_at}
use Rattle.rows.proofs.Sweep.{Swept}
use Rattle.rows.proofs.step.roll.Given as goal

abbrev pub invariant-loop-k : goal.invariant-loop-k
invariant-loop-k l = Swept (rolled_at l.hazards l.discount l.cash l.initial.row) l.initial.row l.row l.k
