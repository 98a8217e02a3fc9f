use Rattle.places.proofs.Partway.{Mid}
use Rattle.places.proofs.fill.Given as goal

abbrev pub invariant-loop-count : goal.invariant-loop-count
invariant-loop-count l = Mid l.fn.left l.place l.fn.list l.left l.list l.last l.count
