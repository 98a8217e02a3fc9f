-- The first ten checks, then the walk, then the rows.
use Rattle.std.proofs.Common.{◌≡◌, sym, ◌∙◌, false, [], Ok}
use Rattle.sheet.specs.Brought.{Brought}
use Rattle.std.proofs.lemmas.Result.{err_from_is_err_and}
use Rattle.refusals.specs.Tests.{first, pool_bad}
use Rattle.rows.specs.Rows.{Rows, rows_of}
use Rattle.admission.specs.LentTests.{rows_bad, ten_tests}
use Rattle.admission.proofs.Lengths.{rows_told}
use Rattle.admission.proofs.FirstRefusals.{twelve_ten, twelve_walk, twelve_over, twelve_clean}
use Rattle.sheet.proofs.Limits.{limits_terms}
use Rattle.admission.proofs.Admitted.{admitted_limits, admitted_defaults, admitted_premiums}
use Rattle.admission.proofs.to_twelve.Goals as goal

pub returns-in_err-to_ten : goal.returns-in_err-to_ten
returns-in_err-to_ten c =
    let sheet : Brought = c.args.brought.now in
    let rows : Rows = rows_of c.args.defaults.now c.args.premiums.now in
    let told : pool_bad sheet.sheet ≡ false → c.rows_differ-lent.result ≡ rows_bad sheet c.args.register.now rows =
    rw (← c.brought.view_is) (rows_told _ _ _ _ _ _ _ _ _ _ c.rows_differ-lent.ensures) in
    let p = err_from_is_err_and c.from_residual.result c.from_residual.ensures.1 in
    rw (p.1, p.2) (sym (twelve_ten sheet c.args.register.now c.args.is_open c.args.number c.args.position rows _ told (sym c.in_err-to_ten.ensures)))

pub returns-then-off_walk : goal.returns-then-off_walk
returns-then-off_walk c =
    let sheet : Brought = c.args.brought.now in
    let rows : Rows = rows_of c.args.defaults.now c.args.premiums.now in
    let told : pool_bad sheet.sheet ≡ false → c.rows_differ-lent.result ≡ rows_bad sheet c.args.register.now rows =
    rw (← c.brought.view_is) (rows_told _ _ _ _ _ _ _ _ _ _ c.rows_differ-lent.ensures) in
    let ten : first (ten_tests sheet c.args.register.now c.rows_differ-lent.result []) ≡ Ok tt = sym c.in_ok-to_ten.ensures in
    sym (twelve_walk sheet c.args.register.now c.args.is_open c.args.number c.args.position rows _ told ten (sym c.off_walk.ensures ∙ c.if-off_walk.true))

pub is_soiled-requires : goal.is_soiled-requires
is_soiled-requires c = let sheet : Brought = c.args.brought.now in
    let rows : Rows = rows_of c.args.defaults.now c.args.premiums.now in
    let told : pool_bad sheet.sheet ≡ false → c.rows_differ-lent.result ≡ rows_bad sheet c.args.register.now rows =
    rw (← c.brought.view_is) (rows_told _ _ _ _ _ _ _ _ _ _ c.rows_differ-lent.ensures) in
    let ten : first (ten_tests sheet c.args.register.now c.rows_differ-lent.result []) ≡ Ok tt = sym c.in_ok-to_ten.ensures in
    record { terms_within = limits_terms sheet (admitted_limits _ _ rows _ told ten); defaults_len = (admitted_defaults _ _ rows _ told ten, admitted_premiums _ _ rows _ told ten) }

pub returns-then-is_soiled : goal.returns-then-is_soiled
returns-then-is_soiled c =
    let sheet : Brought = c.args.brought.now in
    let rows : Rows = rows_of c.args.defaults.now c.args.premiums.now in
    let told : pool_bad sheet.sheet ≡ false → c.rows_differ-lent.result ≡ rows_bad sheet c.args.register.now rows =
    rw (← c.brought.view_is) (rows_told _ _ _ _ _ _ _ _ _ _ c.rows_differ-lent.ensures) in
    let ten : first (ten_tests sheet c.args.register.now c.rows_differ-lent.result []) ≡ Ok tt = sym c.in_ok-to_ten.ensures in
    sym (twelve_over sheet c.args.register.now c.args.is_open c.args.number c.args.position rows _ told ten (sym c.off_walk.ensures ∙ c.if-off_walk.false) (sym c.is_soiled.ensures ∙ c.if-is_soiled.true))

pub returns : goal.returns
returns c =
    let sheet : Brought = c.args.brought.now in
    let rows : Rows = rows_of c.args.defaults.now c.args.premiums.now in
    let told : pool_bad sheet.sheet ≡ false → c.rows_differ-lent.result ≡ rows_bad sheet c.args.register.now rows =
    rw (← c.brought.view_is) (rows_told _ _ _ _ _ _ _ _ _ _ c.rows_differ-lent.ensures) in
    let ten : first (ten_tests sheet c.args.register.now c.rows_differ-lent.result []) ≡ Ok tt = sym c.in_ok-to_ten.ensures in
    sym (twelve_clean sheet c.args.register.now c.args.is_open c.args.number c.args.position rows _ told ten (sym c.off_walk.ensures ∙ c.if-off_walk.false) (sym c.is_soiled.ensures ∙ c.if-is_soiled.false))
