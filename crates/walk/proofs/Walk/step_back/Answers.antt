-- By the checks 1 to 12, then by the steps that are left.
use Rattle.std.proofs.Common.{◌≡◌, sym, [], Ok}
use Rattle.std.proofs.lemmas.Result.{err_from_is_err_and}
use Rattle.sheet.specs.Brought.{Brought}
use Rattle.refusals.specs.Tests.{first}
use Rattle.rows.specs.Rows.{Rows, rows_of}
use Rattle.walk.specs.Calls.{twelve_tests}
use Rattle.walk.proofs.LastChecks.{on_way, rollable, back_not, back_out, back_done}
use Rattle.walk.proofs.Walk.step_back.Goals as goal

pub returns-in_err-admitted : goal.returns-in_err-admitted
returns-in_err-admitted c =
    let brought : Brought = c.args.brought.now in
    let rows : Rows = rows_of c.args.defaults.now c.args.premiums.now in
    let p = err_from_is_err_and c.from_residual.result c.from_residual.ensures.1 in
    rw (p.1, p.2) (back_not brought c.args.register.now c.args.self.now rows (sym c.in_err-admitted.ensures) c.args.count)

pub returns-then-position-count : goal.returns-then-position-count
returns-then-position-count c =
    let brought : Brought = c.args.brought.now in
    let rows : Rows = rows_of c.args.defaults.now c.args.premiums.now in
    let passed : first (twelve_tests brought c.args.register.now c.args.self.now rows []) ≡ Ok tt = sym c.in_ok-admitted.ensures in
    back_out brought c.args.register.now c.args.self.now rows passed c.args.count c.if-position-count.true

pub walk_back-requires : goal.walk_back-requires
walk_back-requires c =
    let brought : Brought = c.args.brought.now in
    let rows : Rows = rows_of c.args.defaults.now c.args.premiums.now in
    let passed : first (twelve_tests brought c.args.register.now c.args.self.now rows []) ≡ Ok tt = sym c.in_ok-admitted.ensures in
    rollable brought c.args.register.now c.args.self.now rows (on_way _ _ _ _ passed) c.args.count c.if-position-count.false

pub returns : goal.returns
returns c =
    let brought : Brought = c.args.brought.now in
    let rows : Rows = rows_of c.args.defaults.now c.args.premiums.now in
    let passed : first (twelve_tests brought c.args.register.now c.args.self.now rows []) ≡ Ok tt = sym c.in_ok-admitted.ensures in
    back_done brought c.args.register.now c.args.self.now rows passed c.args.count c.if-position-count.false _ _
    c.walk_back.ensures.defaults_after c.walk_back.ensures.premiums_after
