-- The counts over the next one are done, and those below it are as they came.
use Rattle.forward.proofs.Moves.{moves, Pushing}
use Rattle.forward.proofs.push.Given as goal

abbrev pub invariant-loop-k : goal.invariant-loop-k
invariant-loop-k l = Pushing (moves l.hazards l.initial.row) l.initial.row l.row l.k
