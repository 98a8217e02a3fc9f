use Rattle.std.proofs.Common.{arith}
use lib.Seq.{set-get_or}
use Rattle.places.proofs.Partway.{mid_start, mid_step, mid_full, mid_none, chosen_few, chosen_left}
use Rattle.places.proofs.fill.Goals as goal

pub loop-count-init : goal.loop-count-init
loop-count-init c = mid_start _ _ _ c.requires

pub choose-requires : goal.choose-requires
choose-requires c = c.loop-count.invariant.inside

pub returns-in_default : goal.returns-in_default
returns-in_default c = rw set-get_or (mid_none _ _ _ _ c.loop-count.invariant c.in_default.ensures)

pub overflow_sub-left : goal.overflow_sub-left
overflow_sub-left c = chosen_left _ _ _ _ _ c.loop-count.invariant c.in-Some.ensures

pub overflow_cast-slot : goal.overflow_cast-slot
overflow_cast-slot c = omega (arith, chosen_few _ _ _ _ _ c.loop-count.invariant c.in-Some.ensures)

pub loop-count-preserved : goal.loop-count-preserved
loop-count-preserved c = mid_step _ _ _ _ _ c.loop-count.invariant c.loop-count-test.true c.in-Some.ensures

pub returns : goal.returns
returns c = mid_full _ _ _ _ c.loop-count.invariant c.loop-count-test.false
