-- The answer of the walk, taken apart.
use Rattle.returns.proofs.Laws.{forward_returned}
use Rattle.export.proofs.lavroudem_forward.Goals as goal

pub returns : goal.returns
returns c =
    let both = forward_returned _ _ _ _ c.forward.result _ _ c.forward.ensures.gives c.number_in.ensures in
    record { said = both.0; leaves = both.1 }
