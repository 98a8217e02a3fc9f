-- `tranches::lower_of` meets its contract.
use Rattle.std.proofs.Common.{sym}
use Rattle.sheet.specs.Terms.{bare}
use Rattle.tranches.proofs.Losses.{lower_tranche, lower_index}
use Rattle.tranches.proofs.lower_of.Goals as goal

pub returns-then-tranche-pool : goal.returns-then-tranche-pool
returns-then-tranche-pool c =
    let a = c.args in
    sym (lower_tranche (bare a.pool a.attachments.now) a.tranche c.if-tranche-pool.true)

pub returns-else-tranche-pool : goal.returns-else-tranche-pool
returns-else-tranche-pool c =
    let a = c.args in
    sym (lower_index (bare a.pool a.attachments.now) a.tranche c.if-tranche-pool.false)
