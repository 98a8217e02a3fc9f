-- Past the last step no step is to come.
use Rattle.std.proofs.Common.{arith}
use Rattle.cash.specs.Units.{B}
use Rattle.rows.proofs.Sums.{sum_drop_most}
use Rattle.ceilings.proofs.premium_most.Goals as goal

pub overflow_add-result : goal.overflow_add-result
unfolding B
overflow_add-result c =
    omega (arith, c.accruals_after.ensures, c.saturating_sub-to_come.ensures, sum_drop_most c.args.position c.args.accruals.now, c.requires.0, c.requires.1)

pub returns : goal.returns
unfolding B
returns c = (
  omega (arith, c.accruals_after.ensures, c.saturating_sub-to_come.ensures),
  omega (arith, c.accruals_after.ensures, c.saturating_sub-to_come.ensures, sum_drop_most c.args.position c.args.accruals.now, c.requires.0, c.requires.1),
)
