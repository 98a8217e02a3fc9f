-- `entries::add_pool` meets its contract: a law of `Entering`.
use Rattle.entries.proofs.Entering.{pool_adds}
use Rattle.entries.proofs.add_pool.Goals as goal

pub returns : goal.returns
returns c numbers h =
    let a = c.args in
    pool_adds a.layout numbers h a.names a.steps a.tranches a.recovery a.number c.brought_span-elapsed.ensures
