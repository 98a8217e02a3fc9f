-- The sums so far, and what the rest of the positions adds.
use Rattle.std.proofs.Common.{◌≤◌, length}
use Rattle.totals.specs.Totals.{gain_of, loss_of}
use Rattle.totals.proofs.Partway.{Partway}
use Rattle.totals.proofs.sum_positions.Given as goal

abbrev pub invariant-loop-nominal : goal.invariant-loop-nominal
invariant-loop-nominal l =
    let i = length l.yielded in
    (i ≤ length l.nominals) × Partway gain_of l.nominals l.values l.sums.gains i × Partway loss_of l.nominals l.values l.sums.losses i
