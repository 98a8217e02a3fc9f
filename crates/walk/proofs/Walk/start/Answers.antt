-- By the checks 1 to 10; the rows are then zeros.
use Rattle.std.proofs.Common.{◌≡◌, sym, subst, false, [], Ok}
use Rattle.std.proofs.lemmas.Result.{err_from_is_err_and}
use Rattle.sheet.specs.Brought.{Brought}
use Rattle.refusals.specs.Tests.{first, pool_bad}
use Rattle.rows.specs.Rows.{Rows, rows_of}
use Rattle.admission.specs.LentTests.{ten_tests, rows_bad}
use Rattle.admission.proofs.Lengths.{rows_told}
use Rattle.walk.proofs.LastChecks.{open_not, open_done}
use Rattle.walk.proofs.Walk.start.Goals as goal

pub returns-in_err-to_ten : goal.returns-in_err-to_ten
returns-in_err-to_ten c =
    let brought : Brought = c.args.brought.now in
    let rows : Rows = rows_of c.args.defaults.now c.args.premiums.now in
    let told : pool_bad brought.sheet ≡ false → c.rows_differ-lent.result ≡ rows_bad brought c.args.register.now rows =
    subst (λ (x : Brought). pool_bad x.sheet ≡ false → c.rows_differ-lent.result ≡ rows_bad x c.args.register.now rows) c.brought.view_is
    (rows_told _ _ _ _ _ _ _ _ _ _ c.rows_differ-lent.ensures) in
    let p = err_from_is_err_and c.from_residual.result c.from_residual.ensures.1 in
    rw (p.1, p.2) (open_not brought c.args.register.now c.args.self.now rows _ told (sym c.in_err-to_ten.ensures))

pub returns : goal.returns
returns c =
    let brought : Brought = c.args.brought.now in
    let rows : Rows = rows_of c.args.defaults.now c.args.premiums.now in
    let told : pool_bad brought.sheet ≡ false → c.rows_differ-lent.result ≡ rows_bad brought c.args.register.now rows =
    subst (λ (x : Brought). pool_bad x.sheet ≡ false → c.rows_differ-lent.result ≡ rows_bad x c.args.register.now rows) c.brought.view_is
    (rows_told _ _ _ _ _ _ _ _ _ _ c.rows_differ-lent.ensures) in
    let ten : first (ten_tests brought c.args.register.now c.rows_differ-lent.result []) ≡ Ok tt = sym c.in_ok-to_ten.ensures in
    rw (c.number-self.ensures, c.steps-self.ensures) (open_done brought c.args.register.now c.args.self.now rows _ told ten _ _ c.clear.ensures c.clear-2.ensures)
