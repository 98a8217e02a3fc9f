-- The answer of the walk, taken apart.
use Rattle.returns.proofs.Laws.{ratio_returned}
use Rattle.export.proofs.lavroudem_hedge_ratio.Goals as goal

pub returns : goal.returns
returns c =
    let told = c.into.ensures in
    ratio_returned _ _ _ _ _ _ c.hedge_ratio.result _ _ _ c.hedge_ratio.ensures.gives told.0 told.1 told.2
