-- The answer of the walk, taken apart.
use Rattle.returns.proofs.Laws.{back_returned}
use Rattle.export.proofs.lavroudem_back.Goals as goal

pub returns : goal.returns
returns c =
    let told = c.into.ensures in
    back_returned _ _ _ _ _ _ c.back.result _ _ c.back.ensures.gives told.0 told.1 told.2
