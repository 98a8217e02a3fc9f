-- The pool, then the lengths, then the figures.
use Rattle.std.proofs.Common.{◌≡◌, sym, ap, ◌∙◌, true, false, ◌||◌, ⊎_elim}
use Rattle.sheet.specs.Brought.{Brought}
use Rattle.refusals.specs.Tests.{sheet_tests, pool_bad, lists_bad}
use Rattle.rows.proofs.Search.{met_left, met_right, neither}
use Rattle.refusals.proofs.FirstTest.{first_met, first_passed}
use Rattle.refusals.proofs.Meanings.{pool_fine, lists_fine}
use Rattle.faults.proofs.Lists.{pool_part}
use Rattle.checks.proofs.sheet_refusal.Goals as goal

pub returns-then-pool_outside : goal.returns-then-pool_outside
unfolding sheet_tests pool_bad
returns-then-pool_outside c = sym (first_met _ _ _ (sym (c.pool_outside.ensures ∙ pool_part c.brought.inside.sheet.pool _ _ _ _ _ _ _ (ap (λ b. b.sheet) c.brought.view_is)) ∙ c.if-pool_outside.true))

pub lists_differ-requires : goal.lists_differ-requires
unfolding pool_bad
lists_differ-requires c =
    let X : Brought = c.args.brought.now in
    let pool-kept : pool_bad X.sheet ≡ false =
    sym (c.pool_outside.ensures ∙ pool_part c.brought.inside.sheet.pool _ _ _ _ _ _ _ (ap (λ b. b.sheet) c.brought.view_is)) ∙ c.if-pool_outside.false in
    let p = (pool_fine X.sheet).0 pool-kept in (p.names.1, p.tranches.1)

pub returns-then-lists_differ : goal.returns-then-lists_differ
unfolding sheet_tests pool_bad
returns-then-lists_differ c =
    let X : Brought = c.args.brought.now in
    let pool-kept : pool_bad X.sheet ≡ false =
    sym (c.pool_outside.ensures ∙ pool_part c.brought.inside.sheet.pool _ _ _ _ _ _ _ (ap (λ b. b.sheet) c.brought.view_is)) ∙ c.if-pool_outside.false in
    let bad : (lists_bad X || c.args.lent) ≡ true =
    ⊎_elim (λ h. met_left _ _ (sym c.lists_differ.ensures ∙ h)) (λ h. met_right (lists_bad X) _ h.1) c.then-lists_differ.either in
    sym (first_passed _ _ _ pool-kept ∙ first_met _ _ _ bad)

pub figures_refusal-requires : goal.figures_refusal-requires
unfolding pool_bad
figures_refusal-requires c =
    let X : Brought = c.args.brought.now in
    let pool-kept : pool_bad X.sheet ≡ false =
    sym (c.pool_outside.ensures ∙ pool_part c.brought.inside.sheet.pool _ _ _ _ _ _ _ (ap (λ b. b.sheet) c.brought.view_is)) ∙ c.if-pool_outside.false in
    let lists-kept : lists_bad X ≡ false = sym c.lists_differ.ensures ∙ c.if-lists_differ.false in
    ((pool_fine X.sheet).0 pool-kept, (lists_fine _).0 lists-kept)

pub returns : goal.returns
unfolding sheet_tests pool_bad
returns c =
    let X : Brought = c.args.brought.now in
    let pool-kept : pool_bad X.sheet ≡ false =
    sym (c.pool_outside.ensures ∙ pool_part c.brought.inside.sheet.pool _ _ _ _ _ _ _ (ap (λ b. b.sheet) c.brought.view_is)) ∙ c.if-pool_outside.false in
    let lists-kept : lists_bad X ≡ false = sym c.lists_differ.ensures ∙ c.if-lists_differ.false in
    c.figures_refusal.ensures
    ∙ sym (first_passed _ _ _ pool-kept ∙ first_passed _ _ _ (neither _ _ lists-kept c.if-lent.false))
