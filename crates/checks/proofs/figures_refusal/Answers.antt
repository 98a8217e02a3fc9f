-- The checks of the tranches, then of the tree, then of the coupons.
use Rattle.std.proofs.Common.{rules, ◌≡◌, sym, ◌∙◌, [], ◌∷◌, Ok}
use Rattle.std.proofs.lemmas.Result.{err_from_is_err_and}
use Rattle.sheet.specs.Brought.{Brought}
use Rattle.refusals.specs.declared.Refusal.TheVariants.{Coupon}
use Rattle.refusals.specs.Tests.{first, coupons_bad, tranche_tests, tree_tests}
use Rattle.refusals.proofs.FirstTest.{first_none, first_met, first_passed, joined_refused, joined_fine}
use Rattle.faults.proofs.Lists.{coupons_told}
use Rattle.checks.proofs.figures_refusal.Goals as goal

pub returns-in_err-tranches_refusal : goal.returns-in_err-tranches_refusal
returns-in_err-tranches_refusal c =
    let X : Brought = c.args.brought.now in
    let p = err_from_is_err_and c.from_residual.result c.from_residual.ensures.1 in
    rw (p.1, p.2) (sym (joined_refused (tranche_tests X.sheet []) _ _ (sym c.in_err-tranches_refusal.ensures)))

pub returns-in_err-tree_refusal : goal.returns-in_err-tree_refusal
returns-in_err-tree_refusal c =
    let X : Brought = c.args.brought.now in
    let tranches-fine : first (tranche_tests X.sheet []) ≡ Ok tt = sym c.in_ok-tranches_refusal.ensures in
    let x = X.sheet in
    let p = err_from_is_err_and c.from_residual-in_err-tree_refusal.result c.from_residual-in_err-tree_refusal.ensures.1 in
    rw (p.1, p.2) (sym (joined_fine (tranche_tests x []) _ tranches-fine ∙ joined_refused (tree_tests x []) _ _ (sym c.in_err-tree_refusal.ensures)))

pub returns-then-any_above : goal.returns-then-any_above
returns-then-any_above c =
    let X : Brought = c.args.brought.now in
    let tranches-fine : first (tranche_tests X.sheet []) ≡ Ok tt = sym c.in_ok-tranches_refusal.ensures in
    let tree-fine : first (tree_tests X.sheet []) ≡ Ok tt = sym c.in_ok-tree_refusal.ensures in
    let coupons : c.any_above.result ≡ coupons_bad X = coupons_told X (search rules) c.requires.1.2 c.any_above.ensures in
    let others : let x = X in first (tranche_tests x.sheet (tree_tests x.sheet ((coupons_bad x, Coupon) ∷ []))) ≡ first ((coupons_bad x, Coupon) ∷ []) = let x = X in
    joined_fine (tranche_tests x.sheet []) _ tranches-fine ∙ joined_fine (tree_tests x.sheet []) _ tree-fine in
    sym (others ∙ first_met _ _ _ (sym coupons ∙ c.if-any_above.true))

pub returns : goal.returns
returns c =
    let X : Brought = c.args.brought.now in
    let tranches-fine : first (tranche_tests X.sheet []) ≡ Ok tt = sym c.in_ok-tranches_refusal.ensures in
    let tree-fine : first (tree_tests X.sheet []) ≡ Ok tt = sym c.in_ok-tree_refusal.ensures in
    let coupons : c.any_above.result ≡ coupons_bad X = coupons_told X (search rules) c.requires.1.2 c.any_above.ensures in
    let others : let x = X in first (tranche_tests x.sheet (tree_tests x.sheet ((coupons_bad x, Coupon) ∷ []))) ≡ first ((coupons_bad x, Coupon) ∷ []) = let x = X in
    joined_fine (tranche_tests x.sheet []) _ tranches-fine ∙ joined_fine (tree_tests x.sheet []) _ tree-fine in
    sym (others ∙ first_passed _ _ _ (sym coupons ∙ c.if-any_above.false) ∙ first_none)
