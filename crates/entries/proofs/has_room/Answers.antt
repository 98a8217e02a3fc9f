-- `entries::has_room` meets its contract, entry by entry.
use Rattle.entries.specs.Draft.{has_room}
use Rattle.entries.proofs.Entering.{pool_free, attachment_free, hazard_free, step_free, coupon_free, elapsed_free}
use Rattle.entries.proofs.has_room.Goals as goal

pub returns-in-Pool : goal.returns-in-Pool
unfolding has_room
returns-in-Pool c = pool_free c.args.layout c.in-Pool.is

pub returns-in-Attachment : goal.returns-in-Attachment
returns-in-Attachment c = attachment_free c.args.layout c.in-Attachment.is

pub returns-in-Hazard : goal.returns-in-Hazard
returns-in-Hazard c = hazard_free c.args.layout c.in-Hazard.is

pub returns-in-Step : goal.returns-in-Step
returns-in-Step c = step_free c.args.layout c.in-Step.is

pub returns-in-Coupon : goal.returns-in-Coupon
returns-in-Coupon c = coupon_free c.args.layout c.in-Coupon.is

pub returns-in-Elapsed : goal.returns-in-Elapsed
returns-in-Elapsed c = elapsed_free c.args.layout c.in-Elapsed.is
