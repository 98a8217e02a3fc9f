-- As many periods as have begun, less one, times the names.
use Rattle.std.proofs.Common.{pred, mul-le-mul, sub-one, ◌*◌, ◌≤◌, ◌∙◌, ap, arith}
use Rattle.sheet.specs.Periods.{period_of}
use Rattle.sheet.proofs.Periods.{begun_most}
use Rattle.periods.proofs.hazards_from.Goals as goal

pub overflow_mul-result : goal.overflow_mul-result
overflow_mul-result c =
    let few : c.saturating_sub.result ≤ 16 = omega (arith, c.saturating_sub.ensures, c.periods_begun.ensures, begun_most c.args.starts.now c.args.step, c.requires.1) in
    omega (arith, mul-le-mul few c.requires.0)

pub returns : goal.returns
unfolding period_of
returns c =
    ap (λ p. p * c.args.names) (c.saturating_sub.ensures ∙ sub-one c.periods_begun.result ∙ ap pred c.periods_begun.ensures)
