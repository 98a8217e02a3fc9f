-- By the checks 1 to 10, then by the steps.
use Rattle.std.proofs.Common.{◌≡◌, sym, subst, false, [], Ok}
use Rattle.std.proofs.lemmas.Result.{err_from_is_err_and}
use Rattle.sheet.specs.Brought.{Brought}
use Rattle.refusals.specs.Tests.{first, pool_bad}
use Rattle.admission.specs.LentTests.{ten_tests, row_bad}
use Rattle.admission.proofs.Lengths.{row_told}
use Rattle.walk.proofs.LastChecks.{judged_not, judged_out, judged_fine}
use Rattle.walk.proofs.judge_forward.Goals as goal

pub returns-in_err-to_ten : goal.returns-in_err-to_ten
returns-in_err-to_ten c =
    let brought : Brought = c.args.brought.now in
    let told : pool_bad brought.sheet ≡ false → c.row_differs-lent.result ≡ row_bad brought c.args.register.now c.args.row.now =
    subst (λ (x : Brought). pool_bad x.sheet ≡ false → c.row_differs-lent.result ≡ row_bad x c.args.register.now c.args.row.now) c.brought.view_is
    (row_told _ _ _ _ _ _ _ _ _ _ c.row_differs-lent.ensures) in
    let p = err_from_is_err_and c.from_residual.result c.from_residual.ensures.1 in
    rw (p.1, p.2) (judged_not brought c.args.register.now c.args.row.now c.args.steps _ told (sym c.in_err-to_ten.ensures))

pub returns-then-steps : goal.returns-then-steps
returns-then-steps c =
    let brought : Brought = c.args.brought.now in
    let told : pool_bad brought.sheet ≡ false → c.row_differs-lent.result ≡ row_bad brought c.args.register.now c.args.row.now =
    subst (λ (x : Brought). pool_bad x.sheet ≡ false → c.row_differs-lent.result ≡ row_bad x c.args.register.now c.args.row.now) c.brought.view_is
    (row_told _ _ _ _ _ _ _ _ _ _ c.row_differs-lent.ensures) in
    let ten : first (ten_tests brought c.args.register.now c.row_differs-lent.result []) ≡ Ok tt = sym c.in_ok-to_ten.ensures in
    judged_out brought c.args.register.now c.args.row.now c.args.steps _ told ten (rw (← c.steps.ensures) c.if-steps.true)

pub returns : goal.returns
returns c =
    let brought : Brought = c.args.brought.now in
    let told : pool_bad brought.sheet ≡ false → c.row_differs-lent.result ≡ row_bad brought c.args.register.now c.args.row.now =
    subst (λ (x : Brought). pool_bad x.sheet ≡ false → c.row_differs-lent.result ≡ row_bad x c.args.register.now c.args.row.now) c.brought.view_is
    (row_told _ _ _ _ _ _ _ _ _ _ c.row_differs-lent.ensures) in
    let ten : first (ten_tests brought c.args.register.now c.row_differs-lent.result []) ≡ Ok tt = sym c.in_ok-to_ten.ensures in
    judged_fine brought c.args.register.now c.args.row.now c.args.steps _ told ten (rw (← c.steps.ensures) c.if-steps.false)
