-- `tranches::pool_losses` meets its contract. The loop's invariant: the counts passed have their loss, and the next one's is at hand with its remainder.
use Rattle.std.proofs.Common.{◌-◌}
use Rattle.cash.specs.Units.{B}
use Rattle.cash.specs.Losses.{pool_loss}
use Rattle.rows.proofs.Sweep.{Swept}
use Rattle.tranches.proofs.Shares.{Shared}
use Rattle.tranches.proofs.pool_losses.Given as goal

abbrev pub invariant-loop-at_count : goal.invariant-loop-at_count
invariant-loop-at_count l =
    Shared (B - l.recovery) l.names l.at_count-index l.loss l.rest × Swept (pool_loss l.names l.recovery) l.initial.losses l.losses l.at_count-index
