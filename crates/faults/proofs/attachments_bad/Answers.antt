-- Whether they rise, then the highest of them.
use Rattle.std.proofs.Common.{refl, sym, ◌∙◌, true, false}
use Rattle.cash.specs.Units.{B}
use Rattle.faults.proofs.Lists.{attachments_told}
use Rattle.faults.proofs.attachments_bad.Goals as goal

pub returns-then-any_fall : goal.returns-then-any_fall
returns-then-any_fall c =
    c.if-any_fall.true ∙ attachments_told _ {fall = true} c.requires (sym c.if-any_fall.true ∙ c.any_fall.ensures) refl

pub returns-else-any_fall : goal.returns-else-any_fall
unfolding B
returns-else-any_fall c =
    attachments_told _ {fall = false} c.requires (sym c.if-any_fall.false ∙ c.any_fall.ensures) c.any_above.ensures
