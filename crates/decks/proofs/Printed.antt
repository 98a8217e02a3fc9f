-- What decks print, by computation; of the longest by laws.
use Rattle.std.proofs.Common.{refl, sym, arith}
use Rattle.listings.proofs.Laws as Laws
use Rattle.decks.specs.Registers.{RegistersLeft, RunsCut, RunsCounted}
use Rattle.decks.specs.Printed.{CallListings, OpenListings, ElapsedOpenListings, ElapsedListings, RatioListings, FullListings, LongListings, DeckListings}
use Rattle.decks.proofs.Computing.{computed, cut_computed, events_computed}
use Rattle.decks.proofs.Many as Many

called : CallListings
unfolding computed
called =
    record {
      worked = refl;
      accepted = refl;
      refused = refl;
      no_pool = refl;
      mixed = refl;
      one_step = refl;
      topped = refl;
      empty = refl;
    }

opened : OpenListings
unfolding computed
opened =
    record {
      most = refl;
      least = refl;
      coupon_missing = refl;
      coupon_left = refl;
      recovery_above = refl;
      cut_flat = refl;
      cut_above = refl;
      hazard_above = refl;
      discount_none = refl;
      discount_above = refl;
      accrual_none = refl;
      accrual_above = refl;
      coupon_above = refl;
      index_coupon_above = refl;
      first_of_all = refl;
    }

opened_earning : ElapsedOpenListings
unfolding computed
opened_earning =
    record {
      own_date = refl;
      above_own_date = refl;
      most = refl;
      above_most = refl;
      next_date = refl;
      above_next_date = refl;
      first_date = refl;
      above_first_date = refl;
      last_date = refl;
      above_last_date = refl;
      accrual_none = refl;
      coupon_above = refl;
      coupon_alone = refl;
    }

earning : ElapsedListings
unfolding computed
earning =
    record {
      earned = refl;
      scattered = refl;
      zeros = refl;
      too_few = refl;
      too_many = refl;
      above = refl;
      uneven = refl;
      walked_on = refl;
      cut_short = refl;
      byte_behind = refl;
    }

compared : RatioListings
unfolding computed
compared =
    record {
      largest = refl;
      off_scale = refl;
      flat = refl;
    }

filled : FullListings
unfolding computed
filled =
    record {
      second_pool = refl;
      cut_short_first = refl;
      nine = refl;
      one_cut_more = refl;
      one_coupon_more = refl;
      hazards = refl;
      one_hazard_more = refl;
      one_name_more = refl;
      one_step_more = refl;
      one_slice_more = refl;
      largest_rows = refl;
    }

long : LongListings
long =
    record {
      steps = Many.steps _ (omega arith);
      one_step_more = Many.one_step_more;
      fractions = Many.fractions _ (omega arith);
      one_fraction_more = Many.one_fraction_more;
      bytes = λ s h. Many.bytes s (omega arith);
      one_byte_more = λ s h. Many.one_byte_more s (omega arith);
    }

pub printed : DeckListings
printed = record {
  called = called;
  opened = opened;
  opened_earning = opened_earning;
  earning = earning;
  compared = compared;
  filled = filled;
  long = long;
}

pub registers : RegistersLeft
unfolding computed
registers =
    record {
      worked = refl;
      again = refl;
      again_left = refl;
      stopped = refl;
      stopped_again = refl;
      short = refl;
      short_left = refl;
      oversized = λ register deck h. sym (Laws.oversized_left register deck h);
    }

pub cut : RunsCut
unfolding cut_computed
cut =
    record {
      issue = refl;
      issue_can_be = refl;
      withdraw = refl;
      withdraw_can_be = refl;
      entry = refl;
      back = refl;
      value = refl;
      ended = refl;
      refused = refl;
      stopped = refl;
      not_yet = refl;
      withdrew = refl;
    }

pub counted : RunsCounted
unfolding events_computed
counted =
    record {
      ran_left = λ rows. refl;
      ran_withdrew = λ rows. refl;
      cut_left = λ w rows. refl;
      cut_in_withdraw = λ w rows. refl;
      cut_behind = λ w rows. refl;
      called_left = λ c w rows. refl;
      called_withdrew = λ c w rows. refl;
    }
