-- The answer of the walk, taken apart.
use Rattle.returns.proofs.Laws.{value_returned}
use Rattle.export.proofs.lavroudem_value.Goals as goal

pub returns : goal.returns
returns c =
    let told = c.into.ensures in
    value_returned _ _ _ _ _ _ c.value.result _ _ _ c.value.ensures.gives told.0 told.1 told.2 told.3 told.4
