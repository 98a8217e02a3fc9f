-- `entries::add` meets its contract: each way out is a law of `Entering`, or what the function of its entry ensures.
use Rattle.entries.proofs.Entering.{room_as, leaves_as, attachment_adds, hazard_adds, coupon_adds}
use Rattle.entries.proofs.add.Goals as goal

pub returns-in-Pool : goal.returns-in-Pool
returns-in-Pool c =
    let a = c.args in
    let m = leaves_as c.in-Pool.is a.layout a.numbers.now (c.add_pool.ensures a.numbers.now c.requires.layout_limits) in
    record { limits = m.0; adds = m.1 }

pub returns-in-Attachment : goal.returns-in-Attachment
returns-in-Attachment c =
    let a = c.args in
    let q = c.requires in
    let t = c.append.ensures in
    let m = attachment_adds a.entry a.layout a.numbers.now q.layout_limits q.free c.in-Attachment.is t.longer t.stores in
    record { limits = m.0; adds = m.1 }

pub returns-in-Hazard : goal.returns-in-Hazard
returns-in-Hazard c =
    let a = c.args in
    let q = c.requires in
    let t = c.append-in-Hazard.ensures in
    let m = hazard_adds a.entry a.layout a.numbers.now q.layout_limits q.free c.in-Hazard.is t.longer t.stores in
    record { limits = m.0; adds = m.1 }

pub add_step-requires : goal.add_step-requires
add_step-requires c =
    let a = c.args in
    record {
      layout_limits = c.requires.layout_limits;
      free = room_as c.in-Step.is a.layout a.numbers.now c.requires.free;
    }

pub returns-in-Step : goal.returns-in-Step
returns-in-Step c =
    let m = leaves_as c.in-Step.is c.args.layout c.args.numbers.now c.add_step.ensures in
    record { limits = m.0; adds = m.1 }

pub returns-in-Coupon : goal.returns-in-Coupon
returns-in-Coupon c =
    let a = c.args in
    let q = c.requires in
    let t = c.append-in-Coupon.ensures in
    let m = coupon_adds a.entry a.layout a.numbers.now q.layout_limits q.free c.in-Coupon.is t.longer t.stores in
    record { limits = m.0; adds = m.1 }

pub add_elapsed-requires : goal.add_elapsed-requires
add_elapsed-requires c =
    let a = c.args in
    record {
      layout_limits = c.requires.layout_limits;
      free = room_as c.in-Elapsed.is a.layout a.numbers.now c.requires.free;
    }

pub returns-in-Elapsed : goal.returns-in-Elapsed
returns-in-Elapsed c =
    let m = leaves_as c.in-Elapsed.is c.args.layout c.args.numbers.now c.add_elapsed.ensures in
    record { limits = m.0; adds = m.1 }
