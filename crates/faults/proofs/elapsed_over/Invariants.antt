-- No fraction from step i + 1 on is above the accrual of its next premium date, and `next` is that of step i + 1.
use Rattle.std.proofs.Common.{◌≡◌, length, drop}
use Rattle.sheet.specs.Dates.{next_accrual}
use Rattle.faults.proofs.Elapsed.{over_next, Clear}
use Rattle.faults.proofs.elapsed_over.Given as goal

abbrev pub invariant-loop-i : goal.invariant-loop-i
invariant-loop-i l =
    (l.next ≡ next_accrual (drop l.i l.accruals)) × Clear (over_next l.accruals l.elapsed) (length l.elapsed) l.i
