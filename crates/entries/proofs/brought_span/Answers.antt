-- `entries::brought_span` meets its contract.
use Rattle.entries.proofs.Blanks.{none_entered, some_entered}
use Rattle.entries.proofs.brought_span.Goals as goal

pub returns-then-entered-eq0 : goal.returns-then-entered-eq0
returns-then-entered-eq0 c = none_entered c.args.entered c.args.steps _ c.if-entered-eq0.true c.min-zeros.ensures

pub returns-else-entered-eq0 : goal.returns-else-entered-eq0
returns-else-entered-eq0 c = some_entered c.args.entered c.args.steps c.if-entered-eq0.false
