use Rattle.places.proofs.Partway.{says_long, says_short}
use Rattle.places.proofs.serve_first.Goals as goal

pub returns-then-n-gt-WALKS : goal.returns-then-n-gt-WALKS
returns-then-n-gt-WALKS c = says_long _ _ _ _ c.if-n-gt-WALKS.true

pub returns : goal.returns
returns c = says_short _ _ _ _ c.if-n-gt-WALKS.false _ _ _
    c.serve.ensures
