-- `cash::tranche_outstanding` meets its contract: a recovery takes off no more than is left to lose.
use Rattle.std.proofs.Common.{arith}
use Rattle.cash.proofs.Recoveries.{recovery_fits}
use Rattle.cash.proofs.tranche_outstanding.Goals as goal

pub overflow_sub-result : goal.overflow_sub-result
overflow_sub-result c =
    rw (c.left_to_lose.ensures, c.tranche_recovery.ensures) (recovery_fits _ _ _ _ (omega arith) (omega arith) (omega arith))
