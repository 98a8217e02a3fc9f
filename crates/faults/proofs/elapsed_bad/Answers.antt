-- Zeros are above nothing; else the search decides.
use Rattle.std.proofs.Common.{sym, ◌∙◌}
use Rattle.faults.proofs.Elapsed.{zeros_clear}
use Rattle.faults.proofs.Lists.{elapsed_told}
use Rattle.faults.proofs.elapsed_bad.Goals as goal

pub returns-then-any_above : goal.returns-then-any_above
returns-then-any_above c = elapsed_told _ c.requires.1 c.elapsed_over.ensures

pub returns-else-any_above : goal.returns-else-any_above
returns-else-any_above c =
    let none = c.if-any_above.false in
    none ∙ elapsed_told _ c.requires.1 (sym (zeros_clear c.args.accruals.now c.args.elapsed.now (sym c.any_above.ensures ∙ none)))
