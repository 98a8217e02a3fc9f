-- The examples, by computation.
use Rattle.std.proofs.Common.{refl, false}
use Rattle.tree.specs.Sheet.{spanning}
use Rattle.refusals.proofs.Limits.{limits}
use Rattle.walk.specs.Risk.{hedging}
use Rattle.walk.specs.Power.{register_after_cut, event_leaves, withdrew, state_after_events, ever_withdrew}
use Rattle.wrong.specs.Examples.{deck as deck_catalogue, parted, topped, changing, earning, paid_early, answers_of, Deck, TranchesAdd, IndexAdds, PeriodsWalked, ElapsedWalked, NegativeWalked, Refusals, Ratios, Cuts}
use Rattle.wrong.proofs.Computing.{computed}

pub deck : Deck
unfolding computed answers_of
deck =
    record {
      within = ((limits (deck_catalogue.sheet 7) false).0 refl).0;
      listing = refl;
      walked = record { opened = refl; walked = refl; own = refl };
      rows = refl;
      tranche_ratio = refl;
      index_ratio = refl;
      distribution = refl;
    }

pub additive : TranchesAdd
unfolding computed spanning
additive =
    record {
      parted_within = ((limits (parted.sheet 5) false).0 refl).0;
      spans = refl;
      parted_walked = record { opened = refl; walked = refl; own = refl };
      whole_walked = record { opened = refl; walked = refl; own = refl };
      parted_rows = refl;
      whole_rows = refl;
      defaults = refl;
      premiums = refl;
    }

pub index_adds : IndexAdds
unfolding computed
index_adds =
    record {
      within = ((limits (topped.sheet 7) false).0 refl).0;
      points = record { first = refl; last = refl };
      walked = record { opened = refl; walked = refl; own = refl };
      rows = refl;
      premiums = refl;
    }

pub periods_walked : PeriodsWalked
unfolding computed
periods_walked =
    record {
      within = ((limits (changing.sheet 7) false).0 refl).0;
      walked = record { opened = refl; walked = refl; own = refl };
      defaults = refl;
      distribution = refl;
    }

pub elapsed_walked : ElapsedWalked
unfolding computed answers_of
elapsed_walked =
    record {
      within = ((limits (earning.sheet 7) false).0 refl).0;
      listing = refl;
      walked = record { opened = refl; walked = refl; own = refl };
      defaults = refl;
      premiums = refl;
    }

pub negative_walked : NegativeWalked
unfolding computed hedging
negative_walked =
    record {
      within = ((limits (paid_early.sheet 7) false).0 refl).0;
      walked = record { opened = refl; walked = refl; own = refl };
      defaults = refl;
      premiums = refl;
      tranche_jump = refl;
      index_jump = refl;
      ratio = refl;
    }

pub refusals : Refusals
unfolding computed answers_of
refusals =
    record {
      listing = refl;
      inside = refl;
      pool = refl;
      length = refl;
      recovery = refl;
      flat = refl;
      above = refl;
      hazard = refl;
      discount = refl;
      accrual = refl;
      elapsed = refl;
      coupon = refl;
      first = refl;
    }

pub ratios : Ratios
unfolding computed
ratios = record { negative = refl; both_negative = refl; half_away = refl; half_away_below = refl; no_minus_zero = refl; flat = refl; off_scale = refl; last_count = refl }

pub cuts : Cuts
unfolding computed register_after_cut event_leaves withdrew state_after_events ever_withdrew
cuts =
    record {
      can_be = refl;
      byte = refl;
      gone = refl;
      not_issued = refl;
      not_returned = refl;
      still_can_be = refl;
      still_live = refl;
      returned = refl;
      shut = refl;
      other_byte = refl;
      other_shut = refl;
      issue_can_be = refl;
      issued_anew = refl;
      issued_at_last = refl;
      ratio_live = refl;
      forward_live = refl;
      asked_withdrawn = refl;
      asked_byte = refl;
      ratio_shut = refl;
      forward_shut = refl;
    }
