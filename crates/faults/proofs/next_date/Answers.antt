-- The step's own accrual, or the next one after it.
use Rattle.faults.proofs.Elapsed.{next_here, next_after}
use Rattle.faults.proofs.next_date.Goals as goal

pub returns-then-accrual-eq0 : goal.returns-then-accrual-eq0
returns-then-accrual-eq0 c = next_after c.args.accrual _ c.if-accrual-eq0.true

pub returns-else-accrual-eq0 : goal.returns-else-accrual-eq0
returns-else-accrual-eq0 c = next_here c.args.accrual _ c.if-accrual-eq0.false
