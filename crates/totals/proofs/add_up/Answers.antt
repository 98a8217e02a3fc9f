-- `totals::add_up` meets its contract.
use Rattle.std.proofs.Common.{ap, ◌∙◌, true, false}
use Rattle.hedges.specs.Hedges.{with_sign}
use Rattle.totals.proofs.Laws.{figures}
use Rattle.totals.proofs.add_up.Goals as goal

-- the gains and losses are as they were carried
pub returns : goal.returns
returns c =
    let a = c.args in
    let s = c.sum_positions-sums.ensures in
    figures a.nominals.now a.values.now _ _
    (ap (with_sign false) c.carried-gains.ensures.0 ∙ s.gains_are) (ap (with_sign true) c.carried-losses.ensures.0 ∙ s.losses_are) _ _ _
    c.net.ensures c.net-2.ensures c.net-3.ensures
