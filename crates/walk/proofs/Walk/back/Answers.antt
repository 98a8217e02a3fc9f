use Rattle.walk.proofs.Contracts.{back_promised}
use Rattle.walk.proofs.Walk.back.Goals as goal

pub returns : goal.returns
returns c = record { gives = c.step_back-answer.ensures; promised = back_promised _ _ _ _ _ c.step_back-answer.ensures }
