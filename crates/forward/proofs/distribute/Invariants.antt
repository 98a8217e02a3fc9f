-- The row after each turn is the distribution after so many steps.
use Rattle.std.proofs.Common.{◌+◌, ◌-◌, ◌≤◌, ◌≡◌}
use Rattle.rows.specs.Rows.{distribution_row}
use Rattle.forward.specs.Steps.{hazard_sheet}
use Rattle.forward.proofs.distribute.Given as goal

abbrev pub invariant-loop-step : goal.invariant-loop-step
invariant-loop-step l = (1 ≤ l.step) × (l.step ≤ l.steps + 1) × (l.row ≡ distribution_row (hazard_sheet l.names l.starts l.hazards) (l.step - 1))
