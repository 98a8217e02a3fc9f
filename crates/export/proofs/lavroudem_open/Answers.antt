-- The answer of the walk, taken apart.
use Rattle.returns.proofs.Laws.{open_returned}
use Rattle.export.proofs.lavroudem_open.Goals as goal

pub returns : goal.returns
returns c = open_returned _ _ _ _ _ _ c.«open».result _ c.«open».ensures.gives c.into.ensures.0 c.into.ensures.1
