-- `orders::issue` meets its contract.
use Rattle.std.proofs.Common.{refl, ap, ◌∙◌}
use Rattle.walk.specs.Answers.{said_by}
use Rattle.orders.proofs.issue.Goals as goal

pub returns : goal.returns
returns c = record { walk = refl; says = c.of_register.ensures ∙ ap said_by c.issue-said.ensures.answer; leaves = c.issue-said.ensures.leaves }
