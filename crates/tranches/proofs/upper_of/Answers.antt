-- `tranches::upper_of` meets its contract.
use Rattle.std.proofs.Common.{sym, ap, ◌∙◌, add-one, get_or}
use Rattle.cash.specs.Units.{B}
use Rattle.sheet.specs.Terms.{bare}
use Rattle.tranches.proofs.Losses.{upper_tranche, upper_index}
use Rattle.tranches.proofs.upper_of.Goals as goal

pub returns-then-tranche-pool : goal.returns-then-tranche-pool
returns-then-tranche-pool c =
    let a = c.args in
    ap (λ i. get_or a.attachments.now i 0) (add-one a.tranche) ∙ sym (upper_tranche (bare a.pool a.attachments.now) a.tranche c.if-tranche-pool.true)

pub overflow_sub-result : goal.overflow_sub-result
unfolding B
overflow_sub-result c = c.requires.tranches_within.recovery

pub returns-else-tranche-pool : goal.returns-else-tranche-pool
unfolding B
returns-else-tranche-pool c =
    let a = c.args in
    sym (upper_index (bare a.pool a.attachments.now) a.tranche c.if-tranche-pool.false)
