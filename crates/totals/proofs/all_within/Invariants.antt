-- What was passed was within.
use Rattle.totals.proofs.Taken.{Passed}
use Rattle.totals.proofs.all_within.Given as goal

abbrev pub invariant-loop-entry : goal.invariant-loop-entry
invariant-loop-entry l = Passed l.most l.list l.entry-index
