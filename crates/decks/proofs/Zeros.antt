-- By computation.
use Rattle.std.proofs.Common.{refl}
use Rattle.listings.specs.DatesOnly.{enters_zeros_from}
use Rattle.decks.specs.Zeros.{ZerosEntered}
use Rattle.decks.proofs.Computing.{computed}

pub zeros_entered : ZerosEntered
unfolding computed enters_zeros_from
zeros_entered =
    record {
      none = refl;
      before = refl;
      before_pool = refl;
      before_pool_printed = refl;
      behind = refl;
      behind_printed = refl;
      one_step = refl;
      one_step_twice = refl;
      not_zero = refl;
      one = refl;
      one_printed = refl;
      three = refl;
      three_printed = refl;
      one_behind = refl;
    }
