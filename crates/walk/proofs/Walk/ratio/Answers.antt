-- By the checks 1 to 12, then by the node, then by the two jumps.
use Rattle.std.proofs.Common.{◌≡◌, ◌||◌, true, sym, ◌∙◌, subst, [], ltb, leb, ⊎_elim, ℕ, suc, ◌≤◌, ◌<◌, ap, le_refl, le_of_lt, lt-ltb, le-leb, w64, to_z, of_z, ℤ, nat_abs, Ok}
use borrow.Author.Rules.{sfits_of}
use Rattle.std.proofs.lemmas.Result.{err_from_is_err_and}
use Rattle.sheet.specs.Brought.{Brought}
use Rattle.refusals.specs.Tests.{first}
use Rattle.rows.proofs.Search.{met_left, met_right}
use Rattle.rows.specs.Rows.{Rows, rows_of}
use Rattle.walk.specs.Calls.{twelve_tests}
use mir.ValLaws.{to_z-of_z}
use Rattle.hedges.specs.Hedges.{hedge_of}
use Rattle.sheet.specs.Limits.{TranchesWithin}
use Rattle.sheet.proofs.Limits.{limits_terms}
use Rattle.figures.specs.Nodes.{jump, Readable}
use Rattle.figures.specs.Replies.{hedge_answer}
use Rattle.walk.proofs.Ordering.{OnWay}
use Rattle.walk.proofs.LastChecks.{on_way, readable, jump_few, ratio_not, ratio_off, ratio_done}
use Rattle.walk.proofs.Walk.ratio.Goals as goal

few : {z y : ℤ} → z ≡ y → nat_abs y ≤ 200_000_000_000_000_000 → nat_abs z ≤ 200_000_000_000_000_000
few e h = subst (λ (z : ℤ). nat_abs z ≤ 200_000_000_000_000_000) (sym e) h

pub returns-in_err-admitted : goal.returns-in_err-admitted
returns-in_err-admitted c =
    let brought : Brought = c.args.brought.now in
    let rows : Rows = rows_of c.args.defaults.now c.args.premiums.now in
    let p = err_from_is_err_and c.from_residual.result c.from_residual.ensures.1 in
    rw (p.1, p.2) (ratio_not brought c.args.register.now c.args.self rows (sym c.in_err-admitted.ensures) c.args.tranche c.args.count)

pub returns-then-last-tranche : goal.returns-then-last-tranche
returns-then-last-tranche c =
    let brought : Brought = c.args.brought.now in
    let rows : Rows = rows_of c.args.defaults.now c.args.premiums.now in
    let passed : first (twelve_tests brought c.args.register.now c.args.self rows []) ≡ Ok tt = sym c.in_ok-admitted.ensures in
    let off : (ltb c.tranches-last.result c.args.tranche || leb c.names-names.result c.args.count) ≡ true =
    ⊎_elim (λ h. met_left _ _ (lt-ltb _ _ h)) (λ h. met_right (ltb c.tranches-last.result c.args.tranche) _ (le-leb _ _ h.1)) c.then-last-tranche.either in
    ratio_off brought c.args.register.now c.args.self rows passed c.args.tranche c.args.count (rw (← c.tranches-last.ensures, ← c.names-names.ensures) off)

pub jump_at-own-requires : goal.jump_at-own-requires
jump_at-own-requires c = let brought : Brought = c.args.brought.now in
    let rows : Rows = rows_of c.args.defaults.now c.args.premiums.now in
    let passed : first (twelve_tests brought c.args.register.now c.args.self rows []) ≡ Ok tt = sym c.in_ok-admitted.ensures in
    let way : OnWay brought c.args.register.now c.args.self rows = on_way _ _ _ _ passed in
    let within : TranchesWithin brought.sheet = (limits_terms brought way.limits).tranches in
    let below : c.args.count < brought.sheet.names = rw (← c.names-names.ensures) c.if-names-count.false in
    let here : (j : ℕ) → j ≤ brought.sheet.tranches → Readable brought rows j c.args.count = λ j p. readable brought c.args.register.now c.args.self rows way j c.args.count p (le_of_lt below) in
    let next : (j : ℕ) → j ≤ brought.sheet.tranches → Readable brought rows j (suc c.args.count) = λ j p. readable brought c.args.register.now c.args.self rows way j (suc c.args.count) p below in
    let own-tranche : c.args.tranche ≤ brought.sheet.tranches = rw (← c.tranches-last.ensures) c.if-last-tranche.false in
    record { tranches_within = within; readable_here = here _ own-tranche; readable_next = next _ own-tranche }

pub jump_at-index-requires : goal.jump_at-index-requires
jump_at-index-requires c = let brought : Brought = c.args.brought.now in
    let rows : Rows = rows_of c.args.defaults.now c.args.premiums.now in
    let passed : first (twelve_tests brought c.args.register.now c.args.self rows []) ≡ Ok tt = sym c.in_ok-admitted.ensures in
    let way : OnWay brought c.args.register.now c.args.self rows = on_way _ _ _ _ passed in
    let within : TranchesWithin brought.sheet = (limits_terms brought way.limits).tranches in
    let below : c.args.count < brought.sheet.names = rw (← c.names-names.ensures) c.if-names-count.false in
    let here : (j : ℕ) → j ≤ brought.sheet.tranches → Readable brought rows j c.args.count = λ j p. readable brought c.args.register.now c.args.self rows way j c.args.count p (le_of_lt below) in
    let next : (j : ℕ) → j ≤ brought.sheet.tranches → Readable brought rows j (suc c.args.count) = λ j p. readable brought c.args.register.now c.args.self rows way j (suc c.args.count) p below in
    rw c.tranches-last.ensures (record { tranches_within = within; readable_here = here _ (le_refl _); readable_next = next _ (le_refl _) })

pub ratio_of-requires : goal.ratio_of-requires
ratio_of-requires c =
    let brought : Brought = c.args.brought.now in
    let rows : Rows = rows_of c.args.defaults.now c.args.premiums.now in
    let passed : first (twelve_tests brought c.args.register.now c.args.self rows []) ≡ Ok tt = sym c.in_ok-admitted.ensures in
    let way : OnWay brought c.args.register.now c.args.self rows = on_way _ _ _ _ passed in
    let within : TranchesWithin brought.sheet = (limits_terms brought way.limits).tranches in
    let below : c.args.count < brought.sheet.names = rw (← c.names-names.ensures) c.if-names-count.false in
    let here : (j : ℕ) → j ≤ brought.sheet.tranches → Readable brought rows j c.args.count = λ j p. readable brought c.args.register.now c.args.self rows way j c.args.count p (le_of_lt below) in
    let next : (j : ℕ) → j ≤ brought.sheet.tranches → Readable brought rows j (suc c.args.count) = λ j p. readable brought c.args.register.now c.args.self rows way j (suc c.args.count) p below in
    let own-tranche : c.args.tranche ≤ brought.sheet.tranches = rw (← c.tranches-last.ensures) c.if-last-tranche.false in
    let own_read : to_z w64 (of_z w64 c.jump_at-own.result) ≡ jump brought rows c.args.tranche c.args.count = to_z-of_z w64 c.jump_at-own.result (sfits_of c.jump_at-own.type_inv) ∙ c.jump_at-own.ensures in
    let index_read : to_z w64 (of_z w64 c.jump_at-index.result) ≡ jump brought rows brought.sheet.tranches c.args.count = to_z-of_z w64 c.jump_at-index.result (sfits_of c.jump_at-index.type_inv) ∙ c.jump_at-index.ensures ∙ ap (λ j. jump brought rows j c.args.count) c.tranches-last.ensures in (
      few own_read (jump_few brought rows _ _ within (here _ own-tranche) (next _ own-tranche)),
      few index_read (jump_few brought rows _ _ within (here _ (le_refl _)) (next _ (le_refl _))),
    )

pub returns : goal.returns
returns c = let brought : Brought = c.args.brought.now in
    let rows : Rows = rows_of c.args.defaults.now c.args.premiums.now in
    let passed : first (twelve_tests brought c.args.register.now c.args.self rows []) ≡ Ok tt = sym c.in_ok-admitted.ensures in
    let own-tranche : c.args.tranche ≤ brought.sheet.tranches = rw (← c.tranches-last.ensures) c.if-last-tranche.false in
    let own_read : to_z w64 (of_z w64 c.jump_at-own.result) ≡ jump brought rows c.args.tranche c.args.count = to_z-of_z w64 c.jump_at-own.result (sfits_of c.jump_at-own.type_inv) ∙ c.jump_at-own.ensures in
    let index_read : to_z w64 (of_z w64 c.jump_at-index.result) ≡ jump brought rows brought.sheet.tranches c.args.count = to_z-of_z w64 c.jump_at-index.result (sfits_of c.jump_at-index.type_inv) ∙ c.jump_at-index.ensures ∙ ap (λ j. jump brought rows j c.args.count) c.tranches-last.ensures in
    let below : c.args.count < brought.sheet.names = rw (← c.names-names.ensures) c.if-names-count.false in
    let a = c.args in
    let r = c.ratio_of.ensures ∙ (λ i. hedge_answer (hedge_of (own_read i) (index_read i))) in
    (λ i. record { answer = r i; walk = a.self; rows = rows })
    ∙ ratio_done brought a.register.now a.self rows passed a.tranche a.count own-tranche below
