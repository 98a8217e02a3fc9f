-- By the points of the tranche, or the whole loss of the pool.
use Rattle.std.proofs.Common.{sym, ◌∙◌, get_or, ◌+◌, ap₂, arith}
use Rattle.cash.specs.Losses.{pool_loss, tranche_loss}
use Rattle.tranches.proofs.Losses.{loss_is, loss_index}
use Rattle.tranches.proofs.loss_at.Goals as goal

pub returns-then-tranche-tranches : goal.returns-then-tranche-tranches
returns-then-tranche-tranches c =
    let a = c.args in
    let loss = c.pool_loss-loss.result in
    loss_is a.brought.now.sheet a.tranche a.count loss _ (omega arith)
    (c.pool_loss-loss.ensures ∙ ap₂ (λ n r. pool_loss n r a.count) c.names.ensures c.recovery.ensures)
    (c.tranche_loss.ensures ∙ (λ t. let points = c.attachments-attachments.ensures t in tranche_loss (get_or points a.tranche 0) (get_or points (a.tranche + 1) 0) loss))

pub returns-else-tranche-tranches : goal.returns-else-tranche-tranches
returns-else-tranche-tranches c =
    let a = c.args in
    c.pool_loss-loss.ensures
    ∙ ap₂ (λ n r. pool_loss n r a.count) c.names.ensures c.recovery.ensures
    ∙ sym (loss_index a.brought.now.sheet a.tranche a.count (omega arith))
