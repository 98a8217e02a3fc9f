-- The starts, then the hazards, then the discounts, then the accruals, then the elapsed fractions.
use Rattle.std.proofs.Common.{rules, ◌≡◌, sym, ap, ◌∙◌, false, List, ◌∷◌}
use Rattle.cash.specs.Units.{B}
use Rattle.sheet.specs.Terms.{Terms}
use Rattle.refusals.specs.Tests.{starts_bad, hazards_bad, discounts_bad, accruals_bad, elapsed_bad, Test, first}
use Rattle.refusals.specs.declared.Refusal.TheVariants.{Hazard, Discount, Accrual, Periods}
use Rattle.refusals.proofs.FirstTest.{first_none, first_met, first_passed}
use Rattle.faults.proofs.Lists.{starts_part, hazards_told, discounts_told, accruals_part, elapsed_part}
use Rattle.checks.proofs.tree_refusal.Goals as goal

pub returns-then-starts_bad : goal.returns-then-starts_bad
returns-then-starts_bad c =
    let X : Terms = c.args.brought.now.sheet in
    let starts : c.starts_bad.result ≡ starts_bad X = c.starts_bad.ensures ∙ starts_part c.brought.inside.sheet.pool _ _ _ _ _ _ _ (ap (λ b. b.sheet) c.brought.view_is) (search rules) in
    sym (first_met _ _ _ (sym starts ∙ c.if-starts_bad.true))

pub returns-then-any_above : goal.returns-then-any_above
unfolding B
returns-then-any_above c =
    let X : Terms = c.args.brought.now.sheet in
    let starts : c.starts_bad.result ≡ starts_bad X = c.starts_bad.ensures ∙ starts_part c.brought.inside.sheet.pool _ _ _ _ _ _ _ (ap (λ b. b.sheet) c.brought.view_is) (search rules) in
    let hazards : c.any_above.result ≡ hazards_bad X = hazards_told X (search rules) c.any_above.ensures in
    let fine-25 : starts_bad X ≡ false = sym starts ∙ c.if-starts_bad.false in
    sym (first_passed _ _ _ fine-25 ∙ first_met _ _ _ (sym hazards ∙ c.if-any_above.true))

pub returns-then-any_outside : goal.returns-then-any_outside
unfolding B
returns-then-any_outside c =
    let X : Terms = c.args.brought.now.sheet in
    let starts : c.starts_bad.result ≡ starts_bad X = c.starts_bad.ensures ∙ starts_part c.brought.inside.sheet.pool _ _ _ _ _ _ _ (ap (λ b. b.sheet) c.brought.view_is) (search rules) in
    let hazards : c.any_above.result ≡ hazards_bad X = hazards_told X (search rules) c.any_above.ensures in
    let discounts : c.any_outside.result ≡ discounts_bad X = discounts_told X (search rules) c.requires.1.1.discounts c.any_outside.ensures in
    let fine-25 : starts_bad X ≡ false = sym starts ∙ c.if-starts_bad.false in
    let fine-5 : hazards_bad X ≡ false = sym hazards ∙ c.if-any_above.false in
    sym (first_passed _ _ _ fine-25 ∙ first_passed _ _ _ fine-5 ∙ first_met _ _ _ (sym discounts ∙ c.if-any_outside.true))

pub returns-then-accruals_bad : goal.returns-then-accruals_bad
unfolding B
returns-then-accruals_bad c =
    let X : Terms = c.args.brought.now.sheet in
    let starts : c.starts_bad.result ≡ starts_bad X = c.starts_bad.ensures ∙ starts_part c.brought.inside.sheet.pool _ _ _ _ _ _ _ (ap (λ b. b.sheet) c.brought.view_is) (search rules) in
    let hazards : c.any_above.result ≡ hazards_bad X = hazards_told X (search rules) c.any_above.ensures in
    let discounts : c.any_outside.result ≡ discounts_bad X = discounts_told X (search rules) c.requires.1.1.discounts c.any_outside.ensures in
    let accruals : c.accruals_bad.result ≡ accruals_bad X = c.accruals_bad.ensures ∙ accruals_part c.brought.inside.sheet.pool _ _ _ _ _ _ _ (ap (λ b. b.sheet) c.brought.view_is) (search rules) in
    let fine-25 : starts_bad X ≡ false = sym starts ∙ c.if-starts_bad.false in
    let fine-5 : hazards_bad X ≡ false = sym hazards ∙ c.if-any_above.false in
    let fine-6 : discounts_bad X ≡ false = sym discounts ∙ c.if-any_outside.false in
    sym (first_passed _ _ _ fine-25 ∙ first_passed _ _ _ fine-5 ∙ first_passed _ _ _ fine-6
    ∙ first_met _ _ _ (sym accruals ∙ c.if-accruals_bad.true))

pub returns-then-elapsed_bad : goal.returns-then-elapsed_bad
unfolding B
returns-then-elapsed_bad c =
    let X : Terms = c.args.brought.now.sheet in
    let starts : c.starts_bad.result ≡ starts_bad X = c.starts_bad.ensures ∙ starts_part c.brought.inside.sheet.pool _ _ _ _ _ _ _ (ap (λ b. b.sheet) c.brought.view_is) (search rules) in
    let hazards : c.any_above.result ≡ hazards_bad X = hazards_told X (search rules) c.any_above.ensures in
    let discounts : c.any_outside.result ≡ discounts_bad X = discounts_told X (search rules) c.requires.1.1.discounts c.any_outside.ensures in
    let accruals : c.accruals_bad.result ≡ accruals_bad X = c.accruals_bad.ensures ∙ accruals_part c.brought.inside.sheet.pool _ _ _ _ _ _ _ (ap (λ b. b.sheet) c.brought.view_is) (search rules) in
    let elapsed : c.elapsed_bad.result ≡ elapsed_bad X = c.elapsed_bad.ensures
    ∙ elapsed_part c.brought.inside.sheet.pool _ _ _ _ _ _ _ (ap (λ b. b.sheet) c.brought.view_is) (search rules) (search rules) in
    let fine-25 : starts_bad X ≡ false = sym starts ∙ c.if-starts_bad.false in
    let fine-5 : hazards_bad X ≡ false = sym hazards ∙ c.if-any_above.false in
    let fine-6 : discounts_bad X ≡ false = sym discounts ∙ c.if-any_outside.false in
    let fine-7 : (l : List Test) → let x = X in first ((starts_bad x, Periods) ∷ (hazards_bad x, Hazard) ∷ (discounts_bad x, Discount) ∷ (accruals_bad x, Accrual) ∷ l) ≡ first l = λ l. first_passed _ _ _ fine-25 ∙ first_passed _ _ _ fine-5 ∙ first_passed _ _ _ fine-6
    ∙ first_passed _ _ _ (sym accruals ∙ c.if-accruals_bad.false) in
    sym (fine-7 _ ∙ first_met _ _ _ (sym elapsed ∙ c.if-elapsed_bad.true))

pub returns : goal.returns
unfolding B
returns c =
    let X : Terms = c.args.brought.now.sheet in
    let starts : c.starts_bad.result ≡ starts_bad X = c.starts_bad.ensures ∙ starts_part c.brought.inside.sheet.pool _ _ _ _ _ _ _ (ap (λ b. b.sheet) c.brought.view_is) (search rules) in
    let hazards : c.any_above.result ≡ hazards_bad X = hazards_told X (search rules) c.any_above.ensures in
    let discounts : c.any_outside.result ≡ discounts_bad X = discounts_told X (search rules) c.requires.1.1.discounts c.any_outside.ensures in
    let accruals : c.accruals_bad.result ≡ accruals_bad X = c.accruals_bad.ensures ∙ accruals_part c.brought.inside.sheet.pool _ _ _ _ _ _ _ (ap (λ b. b.sheet) c.brought.view_is) (search rules) in
    let elapsed : c.elapsed_bad.result ≡ elapsed_bad X = c.elapsed_bad.ensures
    ∙ elapsed_part c.brought.inside.sheet.pool _ _ _ _ _ _ _ (ap (λ b. b.sheet) c.brought.view_is) (search rules) (search rules) in
    let fine-25 : starts_bad X ≡ false = sym starts ∙ c.if-starts_bad.false in
    let fine-5 : hazards_bad X ≡ false = sym hazards ∙ c.if-any_above.false in
    let fine-6 : discounts_bad X ≡ false = sym discounts ∙ c.if-any_outside.false in
    let fine-7 : (l : List Test) → let x = X in first ((starts_bad x, Periods) ∷ (hazards_bad x, Hazard) ∷ (discounts_bad x, Discount) ∷ (accruals_bad x, Accrual) ∷ l) ≡ first l = λ l. first_passed _ _ _ fine-25 ∙ first_passed _ _ _ fine-5 ∙ first_passed _ _ _ fine-6
    ∙ first_passed _ _ _ (sym accruals ∙ c.if-accruals_bad.false) in
    sym (fine-7 _ ∙ first_passed _ _ _ (sym elapsed ∙ c.if-elapsed_bad.false) ∙ first_none)
