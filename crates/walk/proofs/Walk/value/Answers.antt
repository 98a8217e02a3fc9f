use Rattle.walk.proofs.Contracts.{value_promised}
use Rattle.walk.proofs.Walk.value.Goals as goal

pub returns : goal.returns
returns c = record { gives = c.worth.ensures; promised = value_promised _ _ _ _ _ _ c.worth.ensures }
