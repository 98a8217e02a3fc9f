-- `orders::withdraw` meets its contract.
use Rattle.std.proofs.Common.{refl, ap, ◌∙◌}
use Rattle.walk.specs.Answers.{said_by}
use Rattle.orders.proofs.withdraw.Goals as goal

pub returns : goal.returns
returns c = record { walk = refl; says = c.of_register.ensures ∙ ap said_by c.withdraw-said.ensures.answer; leaves = c.withdraw-said.ensures.leaves }
