-- What decks print, to their bytes. Proved in proofs/Printed.antt.
use Rattle.std.specs.Prelude.{ℕ, ◌≤◌, ◌≡◌, List, [], ◌∷◌, ◌++◌, length}
use Rattle.listings.specs.Listing.{listing}
use Rattle.decks.specs.Calls.{worked_deck, worked_listing, uneven_sheet, accepted_calls, accepted_listing, refused_calls, refused_listing}
use Rattle.decks.specs.Calls.{no_pool_deck, no_pool_listing, mixed_deck, mixed_listing, one_step_deck, one_step_listing, topped_deck, topped_listing}
use Rattle.decks.specs.Calls.{worked_sheet, worked_calls, worked_fractions, earned_listing, scattered_sheet, zero_fractions, one_fraction}
use Rattle.decks.specs.Calls.{three_fractions, other_count_listing, above_fractions, above_listing, walked_on_calls, walked_on_listing}
use Rattle.decks.specs.Calls.{fraction_cut_short, fraction_cut_short_line, byte_behind, byte_behind_line, uneven_fractions, earned_uneven_listing}
use Rattle.decks.specs.Limits.{none, one, two, below_million, million, ten_million, over_ten_million, billion, over_billion, single, coupon}
use Rattle.decks.specs.Limits.{issue_open, opening, opens, earning, earning_twice, opens_elapsed, ratios, largest_ratio}
use Rattle.decks.specs.Limits.{off_scale, flat_hedge, eight_slices, second_pool}
use Rattle.decks.specs.Limits.{pool_cut_short, second_pool_cut_short, nine_cuts, tenth_cut, too_many_cuts, hazard_and_step, nine_coupons}
use Rattle.decks.specs.Limits.{tenth_coupon, too_many_coupons, slice_calls, slice_listing, times, many_names, hazard, name_calls}
use Rattle.decks.specs.Limits.{name_listing, too_many_hazards, step, issue_seven, issue_line, too_many_steps, fraction, too_many_fractions}
use Rattle.decks.specs.Limits.{unknown_first, oversized, largest_pool, certain, last_step, largest_calls, largest_listing, pool}

-- Every command but 0D, and every kind of line, accepted and refused.
pub record CallListings : Type 0 where
  pub worked : listing worked_deck ≡ worked_listing
  pub accepted : listing (uneven_sheet ++ accepted_calls) ≡ accepted_listing
  pub refused : listing (uneven_sheet ++ refused_calls) ≡ refused_listing
  pub no_pool : listing no_pool_deck ≡ no_pool_listing
  pub mixed : listing mixed_deck ≡ mixed_listing
  pub one_step : listing one_step_deck ≡ one_step_listing
  pub topped : listing topped_deck ≡ topped_listing
  pub empty : listing [] ≡ []

-- Refusals 2 to 8 by open: of the recovery, the cut, the hazard, the discount, the accrual, and the coupons of slice and index.
pub record OpenListings : Type 0 where
  pub most : listing (opening billion billion billion billion billion ten_million ten_million) ≡ opens 0
  pub least : listing (opening none one none one one none none) ≡ opens 0
  pub coupon_missing : listing (single none one none one one ++ (coupon none ++ issue_open)) ≡ opens 2
  pub coupon_left : listing (single none one none one one ++ (coupon none ++ (coupon none ++ (coupon none ++ issue_open)))) ≡ opens 2
  pub recovery_above : listing (opening over_billion one none one one none none) ≡ opens 3
  pub cut_flat : listing (opening none none none one one none none) ≡ opens 4
  pub cut_above : listing (opening none over_billion none one one none none) ≡ opens 4
  pub hazard_above : listing (opening none one over_billion one one none none) ≡ opens 5
  pub discount_none : listing (opening none one none none one none none) ≡ opens 6
  pub discount_above : listing (opening none one none over_billion one none none) ≡ opens 6
  pub accrual_none : listing (opening none one none one none none none) ≡ opens 7
  pub accrual_above : listing (opening none one none one over_billion none none) ≡ opens 7
  pub coupon_above : listing (opening none one none one one over_ten_million none) ≡ opens 8
  pub index_coupon_above : listing (opening none one none one one none over_ten_million) ≡ opens 8
  pub first_of_all : listing (opening over_billion over_billion over_billion none none over_ten_million over_ten_million) ≡ opens 3

-- Refusal 21 by open, after 7 and before 8: a fraction is at most the accrual of its own step where that is a premium date, and else that of the
-- next one. With the accrual at fault too it is 7; with a coupon, still 21. (T-01)
pub record ElapsedOpenListings : Type 0 where
  pub own_date : listing (earning one one none none) ≡ opens 0
  pub above_own_date : listing (earning one two none none) ≡ opens_elapsed
  pub most : listing (earning billion billion ten_million ten_million) ≡ opens 0
  pub above_most : listing (earning billion over_billion ten_million ten_million) ≡ opens_elapsed
  pub next_date : listing (earning_twice none one one one) ≡ opens 0
  pub above_next_date : listing (earning_twice none one two none) ≡ opens_elapsed
  pub first_date : listing (earning_twice one billion one billion) ≡ opens 0
  pub above_first_date : listing (earning_twice one billion two none) ≡ opens_elapsed
  pub last_date : listing (earning_twice billion one billion one) ≡ opens 0
  pub above_last_date : listing (earning_twice billion one none two) ≡ opens_elapsed
  pub accrual_none : listing (earning none one none none) ≡ opens 7
  pub coupon_above : listing (earning one two over_ten_million none) ≡ opens_elapsed
  pub coupon_alone : listing (earning one one over_ten_million none) ≡ opens 8

-- Elapsed fractions: as many as steps, wherever they stand; zeros for none; 2 for another count, and 21 for one above, by every call; entered
-- behind a step back; and command 0D cut short, with 0E behind it. (T-01)
pub record ElapsedListings : Type 0 where
  pub earned : listing (worked_sheet ++ (worked_fractions ++ worked_calls)) ≡ earned_listing
  pub scattered : listing (scattered_sheet ++ worked_calls) ≡ earned_listing
  pub zeros : listing (worked_sheet ++ (zero_fractions ++ worked_calls)) ≡ worked_listing
  pub too_few : listing (worked_sheet ++ (one_fraction ++ worked_calls)) ≡ other_count_listing
  pub too_many : listing (worked_sheet ++ (three_fractions ++ worked_calls)) ≡ other_count_listing
  pub above : listing (worked_sheet ++ (above_fractions ++ worked_calls)) ≡ above_listing
  pub uneven : listing (uneven_sheet ++ (uneven_fractions ++ accepted_calls)) ≡ earned_uneven_listing
  pub walked_on : listing (worked_sheet ++ walked_on_calls) ≡ walked_on_listing
  pub cut_short : listing (worked_sheet ++ fraction_cut_short) ≡ fraction_cut_short_line
  pub byte_behind : listing (worked_sheet ++ (worked_fractions ++ byte_behind)) ≡ byte_behind_line

-- Refusals 15 and 16.
pub record RatioListings : Type 0 where
  pub largest : listing (ratios below_million one) ≡ largest_ratio
  pub off_scale : listing (ratios million one) ≡ off_scale
  pub flat : listing (ratios ten_million none) ≡ flat_hedge

-- Refusal 20: a second pool, the tenth cut and coupon, hazard 126. As many as there may be go on to a line; with all of them the rows have their most
-- entries, 9 × 126, and forward's 126. A pool of 126 names, 3,651 steps or 9 slices is refused by 1.
pub record FullListings : Type 0 where
  pub second_pool : listing (eight_slices ++ eight_slices) ≡ second_pool
  pub cut_short_first : listing (eight_slices ++ pool_cut_short) ≡ second_pool_cut_short
  pub nine : listing (eight_slices ++ (nine_cuts ++ (hazard_and_step ++ (nine_coupons ++ slice_calls)))) ≡ slice_listing
  pub one_cut_more : listing (eight_slices ++ (nine_cuts ++ tenth_cut)) ≡ too_many_cuts
  pub one_coupon_more : listing (eight_slices ++ (nine_cuts ++ (hazard_and_step ++ (nine_coupons ++ tenth_coupon)))) ≡ too_many_coupons
  pub hazards : listing (many_names ++ (times 125 hazard ++ name_calls)) ≡ name_listing
  pub one_hazard_more : listing (many_names ++ (times 125 hazard ++ hazard)) ≡ too_many_hazards
  pub one_name_more : listing (pool 0x7E 0x01 0x00 0x01 ++ issue_open) ≡ opens 1
  pub one_step_more : listing (pool 0x01 0x43 0x0E 0x01 ++ issue_open) ≡ opens 1
  pub one_slice_more : listing (pool 0x01 0x01 0x00 0x09 ++ issue_open) ≡ opens 1
  pub largest_rows : listing (largest_pool ++ (nine_cuts ++ (times 125 certain ++ (last_step ++ (nine_coupons ++ largest_calls))))) ≡ largest_listing

-- Refusal 20: step 3,651, fraction 3,651 and byte 65,537.
pub record LongListings : Type 0 where
  pub steps : listing (times 3_650 step ++ issue_seven) ≡ issue_line
  pub one_step_more : listing (times 3_650 step ++ step) ≡ too_many_steps
  pub fractions : listing (times 3_650 fraction ++ issue_seven) ≡ issue_line
  pub one_fraction_more : listing (times 3_650 fraction ++ fraction) ≡ too_many_fractions
  pub bytes : (s : List ℕ) → length s ≤ 65_535 → listing (0x00 ∷ s) ≡ unknown_first
  pub one_byte_more : (s : List ℕ) → 65_536 ≤ length s → listing (0x00 ∷ s) ≡ oversized

-- All of them. But in `mixed`, `scattered` and `walked_on` the commands of a sheet stand in the order pool, cuts, hazards, steps, coupons, elapsed
-- fractions, and before every call.
pub record DeckListings : Type 0 where
  pub called : CallListings
  pub opened : OpenListings
  pub opened_earning : ElapsedOpenListings
  pub earning : ElapsedListings
  pub compared : RatioListings
  pub filled : FullListings
  pub long : LongListings
