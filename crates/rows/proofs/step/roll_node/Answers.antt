-- `rows::step::roll_node` meets its contract.
use Rattle.std.proofs.Common.{ℕ, ◌+◌, ◌*◌, ◌-◌, ◌≤◌, ap, ◌∙◌, arith}
use Rattle.cash.specs.Units.{B, half}
use Rattle.tree.specs.Backward.{roll_node}
use Rattle.rows.proofs.Nodes.{mean_most, mean_half_most, discounted_most}
use Rattle.rows.proofs.step.roll_node.Goals.{After-half, Start}
use Rattle.rows.proofs.step.roll_node.Goals as goal

-- the mean of what follows fits
mean : (c : Start) → c.args.hazard * c.args.defaulted + (B - c.args.hazard) * c.args.survived ≤ 18 * B * B
mean c = mean_most c.args.hazard c.args.defaulted c.args.survived (18 * B) c.requires.0 c.requires.2 c.requires.3

discounted : (c : After-half) → c.args.discount * c.half.result ≤ 18 * B * B
unfolding B
discounted c =
    let a = c.args in
    let p = c.requires in
    discounted_most a.discount _ (18 * B) p.1 (rw c.half.ensures (mean_half_most a.hazard a.defaulted a.survived (18 * B) p.0 p.2 p.3))

pub overflow_mul-hazard : goal.overflow_mul-hazard
unfolding B
overflow_mul-hazard c = omega (arith, mean c)

pub overflow_sub-hazard : goal.overflow_sub-hazard
unfolding B
overflow_sub-hazard c = omega arith

pub overflow_mul-hazard-2 : goal.overflow_mul-hazard-2
unfolding B
overflow_mul-hazard-2 c = omega (arith, mean c)

pub overflow_add-hazard : goal.overflow_add-hazard
unfolding B
overflow_add-hazard c = omega (arith, mean c)

pub half-requires : goal.half-requires
unfolding B
half-requires c = omega (arith, mean c)

pub overflow_mul-discount : goal.overflow_mul-discount
unfolding B
overflow_mul-discount c = omega (arith, discounted c)

pub half-requires-2 : goal.half-requires-2
unfolding B
half-requires-2 c = omega (arith, discounted c)

pub returns : goal.returns
unfolding roll_node B
returns c = c.half-2.ensures ∙ ap (λ (h : ℕ). half (c.args.discount * h)) c.half.ensures
