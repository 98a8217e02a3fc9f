-- `entries::add_step` meets its contract: a law of `Entering`.
use Rattle.std.proofs.Common.{refl}
use Rattle.commands.specs.declared.Entry.TheVariants.{Step}
use Rattle.entries.proofs.Entering.{step_adds}
use Rattle.entries.proofs.add_step.Goals as goal

pub returns : goal.returns
returns c =
    let a = c.args in
    let q = c.requires in
    let t = c.append-discounts.ensures in
    let u = c.append-accruals.ensures in
    step_adds (Step a.discount a.accrual) a.layout a.numbers.now q.layout_limits q.free refl t.longer t.stores u.longer u.stores
