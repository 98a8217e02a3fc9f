-- `rows::step::accrue` meets its contract. The loop's invariant: the entries passed have their premium, the others are as they were.
use Rattle.std.proofs.Common.{◌+◌, ◌≡◌, refl, get_or, arith, le_refl}
use Rattle.cash.specs.Units.{B}
use Rattle.cash.proofs.Losses.{premium_payment_most}
use Rattle.rows.specs.Kernels.{accrued_at}
use Rattle.rows.proofs.Tables.{is_tab}
use Rattle.rows.proofs.Nodes.{payment_none}
use Rattle.rows.proofs.Sweep.{swept_more, swept_all}
use Rattle.rows.proofs.step.accrue.Goals as goal

pub overflow_add-entry : goal.overflow_add-entry
unfolding B
overflow_add-entry c =
    let here : get_or c.loop-i.rows c.loop-i.i 0 ≡ get_or c.args.rows.now c.loop-i.i 0 = c.loop-i.invariant.ahead _ (le_refl _) in
    omega (arith, c.premium_payment.ensures, premium_payment_most c.args.accrual _ (c.requires.outstandings_most c.loop-i.i (omega arith)), here, c.requires.rows_most c.loop-i.i (omega arith), c.requires.accrual_most.0)

pub loop-i-preserved : goal.loop-i-preserved
unfolding accrued_at
loop-i-preserved c =
    let here : get_or c.loop-i.rows c.loop-i.i 0 ≡ get_or c.args.rows.now c.loop-i.i 0 = c.loop-i.invariant.ahead _ (le_refl _) in
    swept_more _ _ _ _ _ c.loop-i.invariant (omega (arith, c.loop-i.invariant.same)) (λ t. here t + c.premium_payment.ensures t)

pub returns-then-accrual-eq0 : goal.returns-then-accrual-eq0
unfolding accrued_at
returns-then-accrual-eq0 c =
    is_tab _ _ _ refl (λ i q. omega (arith, payment_none c.args.accrual (get_or c.args.outstandings.now i 0) c.if-accrual-eq0.true))

pub returns : goal.returns
returns c = swept_all _ _ _ _ c.loop-i.invariant (omega arith)
