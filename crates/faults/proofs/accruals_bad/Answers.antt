-- The highest of them, then their sum, then the last.
use Rattle.std.proofs.Common.{◌*◌, ◌≡◌, refl, sym, ap, ◌∙◌, true, false, true≢false, arith, ltb}
use Rattle.std.proofs.lemmas.Iterator.{YieldsList-from_slice}
use Rattle.std.proofs.lemmas.Iterator.Consumers.{fits_from_yields_list, sum_from_yields_List}
use Rattle.cash.specs.Units.{B}
use Rattle.sheet.specs.Terms.{sum_of}
use Rattle.rows.proofs.Sums.{sum_listed}
use Rattle.faults.proofs.Lists.{sum_fits, accruals_told}
use Rattle.faults.proofs.accruals_bad.Goals.{then-any_above, else-any_above}
use Rattle.faults.proofs.accruals_bad.Goals as goal

pub sum-requires-clause-fits : goal.sum-requires-clause-fits
unfolding B
sum-requires-clause-fits c =
    let l = c.args.accruals.now in
    fits_from_yields_list c.iter.result _ (YieldsList-from_slice l cc)
    (sum_fits l (omega (arith, c.requires)) (sym c.any_above.ensures ∙ c.if-any_above.false))

pub returns-then-sum : goal.returns-then-sum
unfolding B
returns-then-sum c =
    let l = c.args.accruals.now in
    c.if-sum.true ∙ elim c.if-any_above.branch [
      | then-any_above w ↦
          accruals_told _ {high = true} c.requires.2 (sym w.if-any_above.true ∙ c.any_above.ensures) refl refl
      | else-any_above w ↦
          let total : w.sum.result ≡ sum_of l = sum_from_yields_List w.iter.result _ w.sum.ensures.ran (YieldsList-from_slice l cc) ∙ sum_listed l in
          accruals_told _ {high = false} {over = true} c.requires.2 (sym w.if-any_above.false ∙ c.any_above.ensures)
          (sym c.if-sum.true ∙ w.value-is ∙ ap (ltb (10 * B)) total) refl
    ]

pub returns-else-sum : goal.returns-else-sum
unfolding B
returns-else-sum c =
    let l = c.args.accruals.now in
    elim c.if-any_above.branch [
      | then-any_above w ↦ absurd (true≢false (sym w.if-any_above.true ∙ sym w.value-is ∙ c.if-sum.false))
      | else-any_above w ↦
          let total : w.sum.result ≡ sum_of l = sum_from_yields_List w.iter.result _ w.sum.ensures.ran (YieldsList-from_slice l cc) ∙ sum_listed l in
          accruals_told _ {high = false} {over = false} c.requires.2 (sym w.if-any_above.false ∙ c.any_above.ensures)
          (sym c.if-sum.false ∙ w.value-is ∙ ap (ltb (10 * B)) total) refl
    ]
