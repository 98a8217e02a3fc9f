-- `interpreter::interpret` meets its contract. The loop's invariant: all that is to be printed is what stands in out and what the rest
use Rattle.std.proofs.Common.{◌-◌, ◌≡◌, length}
use Rattle.walk.specs.Answers.{fresh}
use Rattle.entries.specs.Draft.{empty_draft}
use Rattle.entries.specs.Layouts.{LayoutLimits}
use Rattle.machine.specs.Machine.{machine_of, RoomLengths}
use Rattle.execution.specs.Executions.{machine_at}
use Rattle.listings.specs.ListingFrom.{listing_from}
use Rattle.listings.specs.RegisterFrom.{register_from}
use Rattle.interpreter.proofs.LoopInvariant.{Invariant}
use Rattle.interpreter.proofs.interpret.Given as goal

abbrev pub invariant-loop-progress : goal.invariant-loop-progress
invariant-loop-progress l =
    Invariant (listing_from (length l.deck) l.deck 0 (machine_of empty_draft l.initial.register fresh l.initial.defaults l.initial.premiums l.initial.row))
    (register_from (length l.deck) l.deck 0 (machine_of empty_draft l.initial.register fresh l.initial.defaults l.initial.premiums l.initial.row)) l.deck l.initial.out l.out l.progress
    (machine_at l.progress l.numbers l.register l.defaults l.premiums l.row)
    × LayoutLimits l.progress.layout l.numbers × RoomLengths l.defaults l.premiums l.row × (length l.register ≡ length l.initial.register)

abbrev pub decreases-loop-progress : goal.decreases-loop-progress
decreases-loop-progress l =
    length l.deck - l.progress.at
