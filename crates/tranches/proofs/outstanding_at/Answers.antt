-- `tranches::outstanding_at` meets its contract.
use Rattle.std.proofs.Common.{ℕ, ◌+◌, ◌≤◌, ◌≡◌, sym, ◌∙◌, ap₂, arith}
use Rattle.cash.specs.Units.{B}
use Rattle.cash.specs.Losses.{pool_loss, pool_recovery, index_outstanding}
use Rattle.cash.proofs.Recoveries.{pool_shares}
use Rattle.sheet.specs.Terms.{bare}
use Rattle.sheet.proofs.Limits.{attachment_most}
use Rattle.tranches.proofs.Losses.{outstanding_is, outstanding_index, rises_here}
use Rattle.tranches.proofs.outstanding_at.Goals as goal

-- losses and recoveries are within the pool
within : (names recovery count loss recovered : ℕ) → recovery ≤ B → count ≤ names → loss ≡ pool_loss names recovery count
    → recovered ≡ pool_recovery names recovery count → loss + recovered ≤ B
within names recovery count loss recovered r h l p = omega (arith, l, p, pool_shares names recovery count r h)

pub tranche_outstanding-requires : goal.tranche_outstanding-requires
tranche_outstanding-requires c = (
  rises_here _ _ c.requires.tranches_within (omega arith),
  attachment_most _ c.requires.tranches_within _,
  within _ _ _ _ _ c.requires.tranches_within.recovery c.requires.node_inside.1 c.pool_loss-loss.ensures c.pool_recovery-recovered.ensures,
)

pub index_outstanding-requires : goal.index_outstanding-requires
index_outstanding-requires c =
    within _ _ _ _ _ c.requires.tranches_within.recovery c.requires.node_inside.1 c.pool_loss-loss.ensures c.pool_recovery-recovered.ensures

pub returns-else-pool-tranche : goal.returns-else-pool-tranche
returns-else-pool-tranche c =
    let a = c.args in
    outstanding_is (bare a.pool a.attachments.now) a.tranche a.count _ _ _ (omega arith)
    c.pool_loss-loss.ensures c.pool_recovery-recovered.ensures c.tranche_outstanding.ensures

pub returns-then-pool-tranche : goal.returns-then-pool-tranche
returns-then-pool-tranche c =
    let a = c.args in
    c.index_outstanding.ensures
    ∙ ap₂ index_outstanding c.pool_loss-loss.ensures c.pool_recovery-recovered.ensures
    ∙ sym (outstanding_index (bare a.pool a.attachments.now) a.tranche a.count c.if-pool-tranche.true)
