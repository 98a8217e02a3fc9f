-- `tranches::pool_losses` meets its contract. The loop's invariant: the counts passed have their loss, and the next one's is at hand with its remainder.
use Rattle.std.proofs.Common.{◌+◌, ◌-◌, ◌/◌, ◌≤◌, refl, arith}
use Rattle.cash.specs.Units.{B}
use Rattle.cash.specs.Losses.{pool_loss}
use Rattle.rows.specs.Kernels.{pool_losses}
use Rattle.rows.proofs.Sweep.{swept_more, swept_tab}
use Rattle.tranches.proofs.Shares.{Shared, shared_is, shared_fits, more_most, shared_more}
use Rattle.tranches.proofs.pool_losses.Goals as goal

pub overflow_sub-whole : goal.overflow_sub-whole
unfolding B
overflow_sub-whole c = c.requires.2

pub overflow_sub-part : goal.overflow_sub-part
unfolding B
overflow_sub-part c = c.requires.2

pub overflow_add-loss-in-loop-at_count : goal.overflow_add-loss-in-loop-at_count
unfolding B
overflow_add-loss-in-loop-at_count c =
    let shared : Shared (B - c.args.recovery) c.args.names c.loop-at_count.at_count-index c.loop-at_count.loss c.loop-at_count.rest = c.loop-at_count.invariant.0 in
    let loss-low : c.loop-at_count.loss + (B - c.args.recovery) / c.args.names ≤ 127_000_000_000 = shared_fits shared (omega (arith, c.requires.1, c.requires.3)) (omega arith) in
    omega (arith, loss-low, more_most shared _ _ _ refl refl c.whole_in-more.ensures)

pub loop-at_count-preserved : goal.loop-at_count-preserved
unfolding B pool_loss
loop-at_count-preserved c =
    let v = c.loop-at_count.invariant in
    (shared_more v.0 _ _ _ refl refl c.whole_in-more.ensures, swept_more _ _ _ _ _ v.1 (omega (arith, v.1.same)) (shared_is v.0))

pub returns : goal.returns
unfolding pool_losses
returns c = swept_tab _ c.loop-at_count.invariant.1 c.requires.3 (omega (arith, c.requires.3))
