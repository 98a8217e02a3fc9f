use Rattle.std.proofs.Common.{◌≡◌, ◌<◌, ◌-◌, length}
use Rattle.places.specs.Places.{first_of, chosen}
use Rattle.places.proofs.choose.Given as goal

abbrev pub invariant-loop : goal.invariant-loop
invariant-loop l = record {
  inside : l.place < length l.left;
  so_far : chosen l.left l.last ≡ first_of l.left l.place (length l.left - l.counter);
}
