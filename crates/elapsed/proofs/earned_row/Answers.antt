-- `elapsed::earned_row` meets its contract. The loop's invariant: the counts passed have their payment.
use Rattle.std.proofs.Common.{suc, ◌≡◌, sym, ◌∙◌, add-one, arith}
use Rattle.rows.specs.Kernels.{earned_at}
use Rattle.rows.proofs.Sweep.{Swept, swept_more, swept_tab}
use Rattle.elapsed.proofs.Earned.{earned_before, earned_last}
use Rattle.elapsed.proofs.earned_row.Goals as goal

pub loop-k-preserved : goal.loop-k-preserved
loop-k-preserved c =
    let v = c.loop-k.invariant in
    swept_more _ _ _ _ _ v (omega (arith, v.same, c.requires.2))
    (c.elapsed_payment.ensures ∙ sym (earned_before c.args.names c.args.fraction c.args.outstandings.now c.loop-k.k (omega arith)))

pub returns : goal.returns
returns c =
    let n = c.args.names in
    let e : c.loop-k.k ≡ n = omega arith in
    let w : Swept (earned_at n c.args.fraction c.args.outstandings.now) c.args.row.now c.loop-k.row n = rw e at c.loop-k.invariant in
    swept_tab (suc n)
    (swept_more _ _ _ _ _ w (omega (arith, w.same, c.requires.2)) (sym (earned_last n c.args.fraction c.args.outstandings.now)))
    c.requires.2 (add-one n)
