-- The calls as they are computed.
use Rattle.std.proofs.Common.{refl}
use Rattle.places.specs.Places.{next_place, first_of, chosen, turns_of, any_over, taken, served}
use Rattle.fairness.specs.Examples.{Calls}

pub calls : Calls
unfolding next_place first_of chosen turns_of any_over taken served
calls =
    record {
      all_turns = refl;
      left_over = refl;
      four_walks = refl;
      first_call = refl;
      second_call = refl;
      third_call = refl;
      after_the_place = refl;
      none_left = refl;
      empty_list = refl;
      twenty_nine = refl;
      sixteen = refl;
      long_list = refl;
      no_walk = refl;
      seventeen = refl;
      outside = refl;
      too_many_steps = refl;
      too_many_steps_first = refl;
      longer_list = refl;
    }
