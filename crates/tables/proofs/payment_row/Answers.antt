-- `tables::payment_row` meets its contract. The loop's invariant: the counts passed have their payment, and the loss of the next is at hand.
use Rattle.std.proofs.Common.{ℕ, suc, ◌+◌, ◌≤◌, ◌≡◌, sym, ap, ◌∙◌, arith, length, le_refl, add-one}
use Rattle.cash.specs.Losses.{default_payment}
use Rattle.sheet.specs.Terms.{Terms, bare}
use Rattle.tree.specs.Sheet.{loss_of}
use Rattle.tree.proofs.Sheets.{loss_rises}
use Rattle.rows.specs.Kernels.{payment_of}
use Rattle.rows.proofs.Sweep.{Swept, swept_none, swept_more, swept_tab}
use Rattle.tranches.proofs.Losses.{losses_long, points_rise, loss_read, payment_before, payment_last}
use Rattle.tables.proofs.payment_row.Goals as goal

pub bounds-losses-0 : goal.bounds-losses-0
bounds-losses-0 c =
    omega (arith, ap length c.requires.losses_of_pool, losses_long c.args.pool.names c.args.pool.recovery)

pub tranche_loss-lost-requires : goal.tranche_loss-lost-requires
tranche_loss-lost-requires c =
    let rise : c.lower_of-lower.result ≤ c.upper_of-upper.result = omega (arith, c.lower_of-lower.ensures, c.upper_of-upper.ensures, points_rise (bare c.args.pool c.args.attachments.now) c.requires.tranches_within c.args.tranche) in
    rise

pub loop-k-init : goal.loop-k-init
loop-k-init c =
    let lost = loss_read (bare c.args.pool c.args.attachments.now) c.args.tranche 0 _ _ _ _ (omega arith) c.lower_of-lower.ensures c.upper_of-upper.ensures c.requires.losses_of_pool c.tranche_loss-lost.ensures in
    (lost, swept_none _ _)

pub offset_bounds-losses-k : goal.offset_bounds-losses-k
offset_bounds-losses-k c =
    omega (arith, c.requires.tranches_within.pool.names)

pub bounds-losses-k : goal.bounds-losses-k
bounds-losses-k c =
    omega (arith, ap length c.requires.losses_of_pool, losses_long c.args.pool.names c.args.pool.recovery)

pub tranche_loss-next-requires : goal.tranche_loss-next-requires
tranche_loss-next-requires c =
    let rise : c.lower_of-lower.result ≤ c.upper_of-upper.result = omega (arith, c.lower_of-lower.ensures, c.upper_of-upper.ensures, points_rise (bare c.args.pool c.args.attachments.now) c.requires.tranches_within c.args.tranche) in
    rise

pub default_payment-requires : goal.default_payment-requires
default_payment-requires c =
    let k : ℕ = c.loop-k.k in
    let x : Terms = bare c.args.pool c.args.attachments.now in
    let next-read : c.tranche_loss-next.result ≡ loss_of x c.args.tranche (k + 1) = loss_read x c.args.tranche (k + 1) _ _ _ _ (omega arith) c.lower_of-lower.ensures c.upper_of-upper.ensures c.requires.losses_of_pool c.tranche_loss-next.ensures in
    let next-is : c.tranche_loss-next.result ≡ loss_of x c.args.tranche (suc k) = next-read ∙ ap (loss_of x c.args.tranche) (add-one k) in
    omega (arith, next-is, c.loop-k.invariant.0, loss_rises x c.requires.tranches_within c.args.tranche k)

pub loop-k-preserved : goal.loop-k-preserved
loop-k-preserved c =
    let k : ℕ = c.loop-k.k in
    let x : Terms = bare c.args.pool c.args.attachments.now in
    let next-read : c.tranche_loss-next.result ≡ loss_of x c.args.tranche (k + 1) = loss_read x c.args.tranche (k + 1) _ _ _ _ (omega arith) c.lower_of-lower.ensures c.upper_of-upper.ensures c.requires.losses_of_pool c.tranche_loss-next.ensures in
    let next-is : c.tranche_loss-next.result ≡ loss_of x c.args.tranche (suc k) = next-read ∙ ap (loss_of x c.args.tranche) (add-one k) in
    let v = c.loop-k.invariant in (
      next-read,
      swept_more _ _ _ _ _ v.1 (omega (arith, v.1.same, c.requires.row_of_tranche.1))
          (c.default_payment.ensures ∙ (λ t. default_payment (v.0 t) (next-is t)) ∙ sym (payment_before x c.args.tranche k (omega arith))),
    )

pub returns : goal.returns
returns c =
    let v = c.loop-k.invariant in
    let n = c.args.pool.names in
    let e : c.loop-k.k ≡ n = omega arith in
    let w : Swept (payment_of (bare c.args.pool c.args.attachments.now) c.args.tranche) c.args.row.now c.loop-k.row n = rw e at v.1 in
    swept_tab (suc n)
    (swept_more _ _ _ _ _ w (omega (arith, w.same, c.requires.row_of_tranche.1)) (sym (payment_last (bare c.args.pool c.args.attachments.now) c.args.tranche n (le_refl n))))
    c.requires.row_of_tranche.1 (add-one n)
