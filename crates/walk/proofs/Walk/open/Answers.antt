use Rattle.walk.proofs.Contracts.{open_promised}
use Rattle.walk.proofs.Walk.open.Goals as goal

pub returns : goal.returns
returns c = record { gives = c.start-answer.ensures; promised = open_promised _ _ _ _ c.start-answer.ensures }
