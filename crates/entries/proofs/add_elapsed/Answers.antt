-- `entries::add_elapsed` meets its contract: a law of `Entering`.
use Rattle.std.proofs.Common.{refl, arith}
use Rattle.commands.specs.declared.Entry.TheVariants.{Elapsed}
use Rattle.entries.proofs.Entering.{elapsed_room, elapsed_adds}
use Rattle.entries.proofs.add_elapsed.Goals as goal

pub append-elapsed-requires : goal.append-elapsed-requires
append-elapsed-requires c =
    let a = c.args in
    let q = c.requires in
    omega (arith, q.layout_limits, elapsed_room (Elapsed a.fraction) a.layout a.numbers.now q.layout_limits q.free refl)

pub returns : goal.returns
returns c =
    let a = c.args in
    let q = c.requires in
    let t = c.append-elapsed.ensures in
    elapsed_adds (Elapsed a.fraction) a.layout a.numbers.now q.layout_limits q.free refl t.longer t.stores
