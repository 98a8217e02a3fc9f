-- A run starts within limits: the numbers are zeros, but for the one start.
use Rattle.std.proofs.Common.{ℕ, sym, subst, rules, lit<, List, length, replicate, set}
use Rattle.entries.specs.Layouts.{LayoutLimits}
use Rattle.entries.proofs.Blanks.{blank_first, blank_set}
use Rattle.entries.proofs.Entering.{empty_limits}
use Rattle.execution.specs.declared.Progress.{Progress}
use Rattle.execution.proofs.tests.executed.Goals as goal

pub execute-requires-clause-layout_limits : goal.execute-requires-clause-layout_limits
execute-requires-clause-layout_limits c =
    let numbers : List ℕ = set (replicate 11094 0) 7443 1 in
    subst (λ (p : Progress). LayoutLimits p.layout numbers) (sym c.start.ensures)
    (empty_limits numbers (search rules) (blank_set 7443 1 (replicate 11094 0) (lit< tt) (blank_first 11094)))
