-- The row after each turn is the distribution after so many steps.
use Rattle.std.proofs.Common.{◌∙◌, arith}
use Rattle.forward.proofs.Alike.{row_start, row_next, hazards_lent}
use Rattle.forward.proofs.Totals.{row_most}
use Rattle.forward.proofs.distribute.Goals as goal

pub loop-step-init : goal.loop-step-init
loop-step-init c =
    let a = c.args in
    (omega arith, omega arith, c.start.ensures ∙ row_start a.names a.starts.now a.hazards.now _ c.requires.row_len)

pub overflow_add-from : goal.overflow_add-from
overflow_add-from c =
    omega (arith, hazards_lent _ _ _ c.requires.hazards_fit c.loop-step.step _ c.hazards_from-from.ensures)

pub offset_bounds-hazards-from : goal.offset_bounds-hazards-from
offset_bounds-hazards-from c =
    omega (arith, hazards_lent _ _ _ c.requires.hazards_fit c.loop-step.step _ c.hazards_from-from.ensures)

pub slice_bounds-push-end : goal.slice_bounds-push-end
slice_bounds-push-end c = hazards_lent _ _ _ c.requires.hazards_fit c.loop-step.step _ c.hazards_from-from.ensures

pub push-requires-clause-row_most : goal.push-requires-clause-row_most
push-requires-clause-row_most c =
    let a = c.args in
    row_most a.names a.starts.now a.hazards.now c.requires.hazards_fit _ _ c.loop-step.invariant.2

pub loop-step-preserved : goal.loop-step-preserved
loop-step-preserved c =
    let a = c.args in
    let v = c.loop-step in (
      omega arith,
      omega arith,
      c.push.ensures ∙ row_next a.names a.starts.now a.hazards.now c.requires.hazards_fit v.step _ _ _ v.invariant.0 (omega arith) v.invariant.2 c.hazards_from-from.ensures,
    )

pub returns-2 : goal.returns-2
returns-2 c =
    let a = c.args in
    let v = c.loop-step in
    c.push.ensures ∙ row_next a.names a.starts.now a.hazards.now c.requires.hazards_fit v.step _ _ _ v.invariant.0 (omega arith) v.invariant.2 c.hazards_from-from.ensures
