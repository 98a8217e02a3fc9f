-- The attachment points and accruals are those of the sheet.
use Rattle.std.proofs.Common.{rules, ap, ◌∙◌}
use Rattle.ceilings.proofs.Found.{soiled_is}
use Rattle.ceilings.proofs.is_soiled.Goals as goal

pub returns : goal.returns
returns c =
    c.any_over.ensures
    ∙ soiled_is c.brought.inside.sheet.pool _ _ _ _ _ _ _ (ap (λ b. b.sheet) c.brought.view_is) _ _
    (search rules) (search rules) _ _ _ _ c.premium_most-most.ensures.0
