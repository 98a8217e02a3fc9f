-- What is left after the step, or nothing past the end.
use Rattle.std.proofs.Common.{ℕ, ◌-◌, ◌≡◌, ap, sym, ◌∙◌, arith, List, length, take, drop, length-drop}
use lib.Seq.{take-length}
use Rattle.std.proofs.lemmas.Iterator.{YieldsList-from_slice}
use Rattle.std.proofs.lemmas.Iterator.Consumers.{fits_from_yields_list, sum_from_yields_List}
use Rattle.cash.specs.Units.{B}
use Rattle.rows.proofs.Sums.{sum_listed, sum_drop_most, sum_drop_from}
use Rattle.ceilings.proofs.accruals_after.Goals as goal

-- a part to the end is what is left
part_left : (l : List ℕ) (from : ℕ) → take (length l - from) (drop from l) ≡ drop from l
part_left l from = ap (λ (n : ℕ). take n (drop from l)) (sym (length-drop from l)) ∙ take-length (drop from l)

pub sum-requires-clause-fits : goal.sum-requires-clause-fits
unfolding B
sum-requires-clause-fits c =
    let later = drop c.min.result c.args.accruals.now in
    fits_from_yields_list c.iter.result _ (YieldsList-from_slice later (c.iter.ensures.rest ∙ part_left c.args.accruals.now c.min.result))
    (omega (arith, sum_listed later, sum_drop_most c.min.result c.args.accruals.now, c.requires))

pub returns : goal.returns
returns c =
    let later = drop c.min.result c.args.accruals.now in
    sum_from_yields_List c.iter.result _ c.sum.ensures.ran (YieldsList-from_slice later (c.iter.ensures.rest ∙ part_left c.args.accruals.now c.min.result))
    ∙ sum_listed later
    ∙ sum_drop_from c.min.result c.args.position c.args.accruals.now c.min.ensures
