-- `rows::step::roll` meets its contract. The loop's invariant: the counts passed are rolled, the others as they were.
use Rattle.std.proofs.Common.{ℕ, suc, ◌+◌, ◌*◌, ◌≤◌, ◌≡◌, sym, ap, ◌∙◌, length, get_or, arith, le_refl, add-one}
use lib.ListN.{get_or-eq_default}
use Rattle.cash.specs.Units.{B}
use Rattle.tree.specs.Backward.{roll_node}
use Rattle.rows.specs.Kernels.{rolled_at}
use Rattle.rows.proofs.Nodes.{node_last}
use Rattle.rows.proofs.Sweep.{Swept, swept_more, swept_all}
use Rattle.rows.proofs.step.roll.Goals as goal

pub overflow_add-defaulted-in-loop-k : goal.overflow_add-defaulted-in-loop-k
unfolding B
overflow_add-defaulted-in-loop-k c =
    let next-is : get_or c.loop-k.row (c.loop-k.k + 1) 0 ≡ get_or c.args.row.now (suc c.loop-k.k) 0 = c.loop-k.invariant.ahead (c.loop-k.k + 1) (omega arith)
    ∙ ap (λ (n : ℕ). get_or c.args.row.now n 0) (add-one c.loop-k.k) in
    let next_most : get_or c.loop-k.row (c.loop-k.k + 1) 0 + get_or c.args.cash.now c.loop-k.k 0 ≤ 18 * B = rw next-is (c.requires.defaulted_most c.loop-k.k (omega arith)) in
    omega (arith, next_most)

pub loop-k-preserved : goal.loop-k-preserved
unfolding rolled_at
loop-k-preserved c =
    let next-is : get_or c.loop-k.row (c.loop-k.k + 1) 0 ≡ get_or c.args.row.now (suc c.loop-k.k) 0 = c.loop-k.invariant.ahead (c.loop-k.k + 1) (omega arith)
    ∙ ap (λ (n : ℕ). get_or c.args.row.now n 0) (add-one c.loop-k.k) in
    let here-is : get_or c.loop-k.row c.loop-k.k 0 ≡ get_or c.args.row.now c.loop-k.k 0 = c.loop-k.invariant.ahead c.loop-k.k (le_refl _) in
    let a = c.args in
    let k = c.loop-k.k in
    swept_more _ _ _ _ _ c.loop-k.invariant (omega (arith, c.loop-k.invariant.same, c.requires.row_long))
    (c.roll_node.ensures ∙ (λ t. roll_node (get_or a.hazards.now k 0) a.discount (next-is t + get_or a.cash.now k 0) (here-is t)))

pub returns : goal.returns
unfolding rolled_at
returns c =
    let last-is : get_or c.loop-k.row (length c.args.hazards.now) 0 ≡ get_or c.args.row.now (length c.args.hazards.now) 0 = c.loop-k.invariant.ahead _ (omega arith) in
    let a = c.args in
    let n = length a.hazards.now in
    let e : c.loop-k.k ≡ n = omega arith in
    let z : get_or a.hazards.now n 0 ≡ 0 = get_or-eq_default a.hazards.now 0 (le_refl n) in
    let s : Swept (rolled_at a.hazards.now a.discount a.cash.now a.row.now) a.row.now c.loop-k.row n = rw e at c.loop-k.invariant in
    swept_all _ _ _ (n + 1)
    (swept_more _ _ _ _ _ s (omega (arith, s.same, c.requires.row_long))
    (c.roll_node-2.ensures ∙ node_last a.discount 0 (get_or a.row.now (suc n) 0 + get_or a.cash.now n 0) _
    ∙ (λ t. roll_node (sym z t) a.discount (get_or a.row.now (suc n) 0 + get_or a.cash.now n 0) (last-is t))))
    (omega (arith, c.requires.row_long))
