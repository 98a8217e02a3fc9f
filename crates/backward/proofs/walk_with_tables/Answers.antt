-- The loop's invariant: the rows stand at step i, and the lists and tables are those of the sheet.
use Rattle.std.proofs.Common.{rules, ◌+◌, ◌-◌, ◌≡◌, refl, ap, arith}
use Rattle.sheet.proofs.Periods.{hazards_part}
use Rattle.backward.proofs.BetweenSteps.{steps_none, steps_more, earn_fits, hazards_within, roll_fits, premium_low, accrued_fits}
use Rattle.backward.proofs.walk_with_tables.Goals as goal

pub loop-i-init : goal.loop-i-init
loop-i-init c =
    let e : c.args.position - c.args.position ≡ 0 = omega arith in
    rw e
    (steps_none c.brought.inside.sheet.pool _ _ _ _ _ _ _ (ap (λ b. b.sheet) c.brought.view_is) _ _ _ _ _ _
    (search rules) (search rules) (search rules) (search rules)
    (search rules) (search rules)
    _ _ _ _ _ _ _ _ c.requires.rollable c.payments.ensures c.outstandings_due.ensures
    c.requires.left_len.0 c.requires.left_len.1 c.requires.earned_len.0 c.requires.earned_len.1)

pub overflow_add-into : goal.overflow_add-into
overflow_add-into c =
    let there = hazards_within c.loop-i.invariant (c.loop-i.i - 1) (omega arith) (omega arith) _ (rw c.names-names.ensures at c.hazards_from-from.ensures) in
    omega (arith, there, c.names-names.ensures)

pub offset_bounds-hazards-from : goal.offset_bounds-hazards-from
offset_bounds-hazards-from c =
    let there = hazards_within c.loop-i.invariant (c.loop-i.i - 1) (omega arith) (omega arith) _ (rw c.names-names.ensures at c.hazards_from-from.ensures) in
    omega (arith, there)

pub slice_bounds-into-end : goal.slice_bounds-into-end
slice_bounds-into-end c =
    rw c.names-names.ensures
    (hazards_within c.loop-i.invariant (c.loop-i.i - 1) (omega arith) (omega arith) _ (rw c.names-names.ensures at c.hazards_from-from.ensures))

pub roll_all-requires : goal.roll_all-requires
roll_all-requires c =
    rw (c.names-names.ensures, c.tranches-tranches.ensures)
    (roll_fits c.loop-i.invariant (c.loop-i.i - 1) (omega arith) (omega arith) _
    (hazards_part c.args.brought.now.sheet.names _ _ _ _ _ (rw c.names-names.ensures at c.hazards_from-from.ensures) refl))

pub accrue-requires-clause-rows_most : goal.accrue-requires-clause-rows_most
accrue-requires-clause-rows_most c = premium_low c.loop-i.invariant (c.loop-i.i - 1) (omega arith) (omega arith)

pub earn-requires-clause-fraction_bound : goal.earn-requires-clause-fraction_bound
earn-requires-clause-fraction_bound c =
    rw (c.names-names.ensures, c.tranches-tranches.ensures) (earn_fits c.loop-i.invariant (c.loop-i.i - 1) (omega arith) (omega arith))

pub roll_all-requires-in-loop-i : goal.roll_all-requires-in-loop-i
roll_all-requires-in-loop-i c =
    rw (c.names-names.ensures, c.tranches-tranches.ensures)
    (accrued_fits c.loop-i.invariant (c.loop-i.i - 1) (omega arith) (omega arith) _
    (hazards_part c.args.brought.now.sheet.names _ _ _ _ _ (rw c.names-names.ensures at c.hazards_from-from.ensures) refl)
    _ _ c.accrue.ensures (rw (c.names-names.ensures, c.tranches-tranches.ensures) at c.earn.ensures))

pub loop-i-preserved : goal.loop-i-preserved
loop-i-preserved c =
    let e : c.args.position - (c.loop-i.i - 1) ≡ c.args.position - c.loop-i.i + 1 = omega arith in
    rw e
    (steps_more c.loop-i.invariant (c.loop-i.i - 1) (omega arith) (omega arith) _
    (hazards_part c.args.brought.now.sheet.names _ _ _ _ _ (rw c.names-names.ensures at c.hazards_from-from.ensures) refl)
    _ _ _ _
    (rw (c.names-names.ensures, c.tranches-tranches.ensures) at c.roll_all.ensures)
    c.accrue.ensures
    (rw (c.names-names.ensures, c.tranches-tranches.ensures) at c.earn.ensures)
    (rw (c.names-names.ensures, c.tranches-tranches.ensures) at c.roll_all-in-loop-i.ensures))
