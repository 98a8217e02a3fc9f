-- By the checks 1 to 12, then by the node.
use Rattle.std.proofs.Common.{◌≡◌, ◌||◌, true, sym, ◌∙◌, [], ⊎_elim, ltb, lt-ltb, Ok}
use Rattle.std.proofs.lemmas.Result.{err_from_is_err_and}
use Rattle.sheet.specs.Brought.{Brought}
use Rattle.refusals.specs.Tests.{first}
use Rattle.rows.proofs.Search.{met_left, met_right}
use Rattle.rows.specs.Rows.{Rows, rows_of}
use Rattle.walk.specs.Calls.{twelve_tests}
use Rattle.walk.proofs.LastChecks.{on_way, readable, value_not, value_off, value_done}
use Rattle.walk.proofs.Walk.worth.Goals as goal

pub returns-in_err-admitted : goal.returns-in_err-admitted
returns-in_err-admitted c =
    let brought : Brought = c.args.brought.now in
    let rows : Rows = rows_of c.args.defaults.now c.args.premiums.now in
    let p = err_from_is_err_and c.from_residual.result c.from_residual.ensures.1 in
    rw (p.1, p.2) (value_not brought c.args.register.now c.args.self rows (sym c.in_err-admitted.ensures) c.args.tranche c.args.count)

pub returns-then-last-tranche : goal.returns-then-last-tranche
returns-then-last-tranche c =
    let brought : Brought = c.args.brought.now in
    let rows : Rows = rows_of c.args.defaults.now c.args.premiums.now in
    let passed : first (twelve_tests brought c.args.register.now c.args.self rows []) ≡ Ok tt = sym c.in_ok-admitted.ensures in
    let off : (ltb c.tranches-last.result c.args.tranche || ltb c.names-names.result c.args.count) ≡ true =
    ⊎_elim (λ h. met_left _ _ (lt-ltb _ _ h)) (λ h. met_right (ltb c.tranches-last.result c.args.tranche) _ (lt-ltb _ _ h.1)) c.then-last-tranche.either in
    value_off brought c.args.register.now c.args.self rows passed c.args.tranche c.args.count (rw (← c.tranches-last.ensures, ← c.names-names.ensures) off)

pub worth_at-requires : goal.worth_at-requires
worth_at-requires c =
    let brought : Brought = c.args.brought.now in
    let rows : Rows = rows_of c.args.defaults.now c.args.premiums.now in
    let passed : first (twelve_tests brought c.args.register.now c.args.self rows []) ≡ Ok tt = sym c.in_ok-admitted.ensures in
    readable brought c.args.register.now c.args.self rows (on_way _ _ _ _ passed) c.args.tranche c.args.count (rw (← c.tranches-last.ensures) c.if-last-tranche.false) (rw (← c.names-names.ensures) c.if-names-count.false)

pub returns : goal.returns
returns c =
    let brought : Brought = c.args.brought.now in
    let rows : Rows = rows_of c.args.defaults.now c.args.premiums.now in
    let passed : first (twelve_tests brought c.args.register.now c.args.self rows []) ≡ Ok tt = sym c.in_ok-admitted.ensures in
    (λ j. record { answer = c.worth_at.ensures j; walk = c.args.self; rows = rows })
    ∙ value_done brought c.args.register.now c.args.self rows passed c.args.tranche c.args.count (rw (← c.tranches-last.ensures) c.if-last-tranche.false) (rw (← c.names-names.ensures) c.if-names-count.false)
