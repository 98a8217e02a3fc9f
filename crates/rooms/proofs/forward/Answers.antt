-- `rooms::forward` meets its contract. A count above the names is told of a row that is only read.
use Rattle.std.proofs.Common.{refl, ap, ◌∙◌, true≢false, Ok, Err}
use Rattle.std.proofs.lemmas.Result.{err_from_is_err_and}
use Rattle.sheet.specs.Brought.{Brought}
use Rattle.walk.proofs.Judging.{refusal_some}
use Rattle.answers.specs.OrderAnswers.{answer_said}
use Rattle.machine.specs.Rooms.{count_said}
use Rattle.machine.proofs.LentRooms.{off_tree_said, distribution_left, distribution_off, said_count}
use Rattle.rooms.proofs.forward.Goals as goal

pub returns-in_err-judge_forward : goal.returns-in_err-judge_forward
unfolding off_tree_said
returns-in_err-judge_forward c =
    let p = err_from_is_err_and c.from_residual.result c.from_residual.ensures.1 in
    let brought : Brought = c.args.brought.now in
    distribution_off brought c.args.register.now c.args.row.now c.args.steps c.args.count _ (rw (← c.names-names.ensures) c.forward_size-size.ensures) c.requires
    (rw (← c.names-names.ensures) c.if-names-count.true)
    (ap answer_said (p.1 ∙ ap Err p.2) ∙ ap off_tree_said c.in_err-judge_forward.ensures)

pub returns-then-names-count : goal.returns-then-names-count
unfolding off_tree_said
returns-then-names-count c =
    let brought : Brought = c.args.brought.now in
    distribution_off brought c.args.register.now c.args.row.now c.args.steps c.args.count _ (rw (← c.names-names.ensures) c.forward_size-size.ensures) c.requires
    (rw (← c.names-names.ensures) c.if-names-count.true)
    (ap answer_said (ap Err c.into.ensures) ∙ ap off_tree_said c.in_ok-judge_forward.ensures)

pub returns-in_err-forward : goal.returns-in_err-forward
unfolding count_said
returns-in_err-forward c =
    let p = err_from_is_err_and c.from_residual-in_err-forward.result c.from_residual-in_err-forward.ensures.1 in
    let brought : Brought = c.args.brought.now in
    let refusal = c.in_err-forward.field-0.0 in
    distribution_left brought c.args.register.now c.args.row.now _ (Err refusal) c.args.steps c.args.count _ (rw (← c.names-names.ensures) c.forward_size-size.ensures) c.requires
    c.in_err-forward.ensures.gives
    (ap answer_said (p.1 ∙ ap Err p.2))
    (λ refused. c.in_err-forward.ensures.rule.leaves (refusal_some refusal))

pub returns : goal.returns
returns c =
    let brought : Brought = c.args.brought.now in
    distribution_left brought c.args.register.now c.args.row.now _ (Ok tt) c.args.steps c.args.count _ (rw (← c.names-names.ensures) c.forward_size-size.ensures) c.requires
    c.in_ok-forward.ensures.gives
    (said_count _ _ _ _ refl (rw (← c.names-names.ensures) c.if-names-count.false))
    (λ refused. absurd (true≢false refused))
