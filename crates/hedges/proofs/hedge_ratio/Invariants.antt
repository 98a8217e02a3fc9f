-- The invariant: after `counter` digits the quotient and the rest are those of the tranche with so many zeros behind it, divided by the index.
use Rattle.std.proofs.Common.{◌≡◌}
use Rattle.hedges.proofs.Long.{quotient_at, rest_at}
use Rattle.hedges.proofs.hedge_ratio.Given as goal

abbrev pub invariant-loop : goal.invariant-loop
invariant-loop l =
    (l.quotient ≡ quotient_at l.tranche l.index l.counter)
    × (l.rest ≡ rest_at l.tranche l.index l.counter)
