-- `execution::start` meets its contract.
use Rattle.execution.proofs.start.Goals as goal

pub returns : goal.returns
returns c = λ j. record { layout = c.empty.ensures j; walk = c.fresh.ensures j; at = 0; end = 0 }
