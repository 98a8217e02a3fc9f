use Rattle.places.proofs.Laws.{choice_hit, choice_ends, chosen_on, chosen_starts}
use Rattle.places.proofs.choose.Goals as goal

pub loop-init : goal.loop-init
loop-init c = record { inside = c.requires; so_far = chosen_starts _ _ }

pub returns-then-left-place-gt0 : goal.returns-then-left-place-gt0
returns-then-left-place-gt0 c =
    choice_hit _ _ _ _ _ c.loop.invariant.so_far c.next_place-place.ensures.is c.loop-test.true c.if-left-place-gt0.true
    c.next_place-place.ensures.inside

pub loop-preserved : goal.loop-preserved
loop-preserved c = record {
  inside = c.next_place-place.ensures.inside;
  so_far = chosen_on _ _ _ _ _ c.loop.invariant.so_far c.next_place-place.ensures.is c.loop-test.true c.if-left-place-gt0.false;
}

pub returns : goal.returns
returns c = choice_ends _ _ _ _ c.loop.invariant.so_far c.loop-test.false
