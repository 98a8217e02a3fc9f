-- The checks of the sheet, and then by what the register says of its number.
use Rattle.std.proofs.Common.{sym, ap, ◌∙◌, []}
use Rattle.std.proofs.lemmas.Result.{err_from_is_err_and}
use Rattle.register.specs.Register.{status_in}
use Rattle.refusals.specs.Tests.{first}
use Rattle.admission.proofs.FirstRefusals.{ten_sheet, ten_status}
use Rattle.admission.proofs.to_ten.Goals as goal

pub returns-in_err-sheet_refusal : goal.returns-in_err-sheet_refusal
returns-in_err-sheet_refusal c =
    let p = err_from_is_err_and c.from_residual.result c.from_residual.ensures.1 in
    rw (p.1, p.2) (sym (ten_sheet _ _ _ _ [] (sym c.in_err-sheet_refusal.ensures)))

pub returns-in-Withdrawn : goal.returns-in-Withdrawn
unfolding first
returns-in-Withdrawn c = sym (ten_status _ _ _ [] (sym c.in_ok-sheet_refusal.ensures) (ap (status_in c.args.register.now) (sym c.number.ensures) ∙ sym c.in-Withdrawn.ensures))

pub returns-in-Unissued : goal.returns-in-Unissued
unfolding first
returns-in-Unissued c = sym (ten_status _ _ _ [] (sym c.in_ok-sheet_refusal.ensures) (ap (status_in c.args.register.now) (sym c.number.ensures) ∙ sym c.in-Unissued.ensures))

pub returns-in-Live : goal.returns-in-Live
unfolding first
returns-in-Live c = sym (ten_status _ _ _ [] (sym c.in_ok-sheet_refusal.ensures) (ap (status_in c.args.register.now) (sym c.number.ensures) ∙ sym c.in-Live.ensures))
