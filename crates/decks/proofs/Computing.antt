-- What opens when a deck is computed, under one name.
use Rattle.cash.specs.Units.{B, half}
use Rattle.cash.specs.Losses.{pool_loss, pool_recovery, tranche_loss, tranche_recovery, tranche_outstanding, index_outstanding, default_payment, premium_payment, elapsed_payment}
use Rattle.hedges.specs.Hedges.{net_value, change_of, jump_of, with_sign as signed_of, millionths, ratio_of}
use Rattle.tree.specs.Backward.{roll_node, over}
use Rattle.tree.specs.Legs.{default_cash, premium_cash, elapsed_cash, mark}
use Rattle.sheet.specs.Terms.{sum_of}
use Rattle.sheet.specs.Dates.{next_accrual}
use Rattle.sheet.specs.Periods.{begun, period_of}
use Rattle.tree.specs.Sheet.{
  hazard_of,
  discount_of,
  accrual_of,
  elapsed_of,
  pool_loss_of,
  pool_recovery_of,
  loss_of,
  width_of,
  outstanding_of,
  tree_of,
  default_of,
  premium_of,
  default_most,
  premium_most,
}
use Rattle.tree.specs.Forward.{same, outflow, from_below, pushed, distribution}
use Rattle.rows.specs.Tables.{tab, entry, grid, any}
use Rattle.rows.specs.Rows.{node_in, row_of, rolled, rolled_back, any_over, soiled, distribution_row}
use Rattle.refusals.specs.Tests.{pool_bad, periods_bad, lists_bad, recovery_bad, attachments_bad, starts_bad, hazards_bad, discounts_bad, accruals_bad, elapsed_bad, coupons_bad, first, sheet_tests}
use Rattle.figures.specs.Nodes.{node_of, jump}
use Rattle.admission.specs.LentTests.{rows_bad, row_bad, off_walk, ten_tests, walk_tests}
use Rattle.walk.specs.Calls.{open_tests, back_tests, value_tests, ratio_tests, forward_tests, or_outcome, or_forward_outcome, zeros, rolls, open_call, back_call, value_call, ratio_call, forward_call}
use Rattle.figures.specs.Replies.{worth}
use Rattle.lines.specs.Text.{decimal, signed, field}
use Rattle.commands.specs.Commands.{low_first, operands, commands, command_at, entry_size, order_size}
use Rattle.entries.specs.Draft.{fractions, has_room, added}
use Rattle.machine.specs.Rooms.{open_in_rooms, back_in_rooms, value_in_rooms, ratio_in_rooms, forward_in_row, count_said, count_in_row, distribution_in_row}
use Rattle.machine.specs.Transitions.{transition_of}
use Rattle.words.specs.Words.{word}
use Rattle.render.specs.Lines.{deck_word, fields, answer_text, line, order_line, deck_line}
use Rattle.listings.specs.Effects.{entry_effect, order_effect, effect_of}
use Rattle.listings.specs.ListingFrom.{listing_from}
use Rattle.listings.specs.RegisterFrom.{register_from}
use Rattle.listings.specs.Listing.{listing_on, register_after}
use Rattle.walk.specs.CallLists.{after_write, call_result, noted}
use Rattle.walk.specs.Power.{operate, event_leaves, withdrew}
use Rattle.listings.specs.Power.{found_in_order, found_in_command, found_from, found_after, order_withdrew, command_withdrew, withdrew_from, withdrew_after}
use Rattle.listings.specs.Power.{run_leaves, run_withdrew, state_after_runs, runs_withdrew}
use Rattle.decks.specs.Limits.{times}

-- what makes a line of an answer
unfoldable pub printed : Unit {0}
unfolding decimal signed field word deck_word fields answer_text line order_line deck_line
printed = tt

-- losses and payments
unfoldable payments_computed : Unit {0}
unfolding B half pool_loss pool_recovery tranche_loss tranche_recovery tranche_outstanding index_outstanding default_payment premium_payment elapsed_payment
payments_computed = tt

-- net value and hedge ratio
unfoldable hedges_computed : Unit {0}
unfolding net_value change_of jump_of signed_of millionths ratio_of
hedges_computed = tt

-- one node of a row
unfoldable legs_computed : Unit {0}
unfolding roll_node over default_cash premium_cash elapsed_cash mark begun period_of hazard_of discount_of accrual_of elapsed_of
legs_computed = tt

-- a sheet as a tree, and its rules
unfoldable tree_computed : Unit {0}
unfolding pool_loss_of pool_recovery_of loss_of width_of outstanding_of tree_of default_of premium_of sum_of default_most premium_most same outflow from_below pushed distribution
tree_computed = tt

-- rows
unfoldable rows_computed : Unit {0}
unfolding tab entry grid any node_in row_of rolled rolled_back any_over soiled distribution_row
rows_computed = tt

-- the checks of a sheet
unfoldable checks_computed : Unit {0}
unfolding pool_bad periods_bad lists_bad recovery_bad attachments_bad starts_bad hazards_bad discounts_bad accruals_bad next_accrual elapsed_bad coupons_bad first sheet_tests
checks_computed = tt

-- the tests of the calls
unfoldable tests_computed : Unit {0}
unfolding node_of jump rows_bad row_bad off_walk ten_tests walk_tests open_tests back_tests value_tests ratio_tests forward_tests
tests_computed = tt

-- the calls of the walk
unfoldable calls_computed : Unit {0}
unfolding or_outcome or_forward_outcome zeros rolls open_call back_call worth value_call ratio_call forward_call
calls_computed = tt

-- commands
unfoldable commands_computed : Unit {0}
unfolding low_first operands commands command_at entry_size order_size
commands_computed = tt

-- entries and orders
unfoldable machine_computed : Unit {0}
unfolding fractions has_room added open_in_rooms back_in_rooms value_in_rooms ratio_in_rooms forward_in_row count_said count_in_row distribution_in_row transition_of
machine_computed = tt

-- the engine, and the deck over it
unfoldable engine_computed : Unit {0}
unfolding payments_computed hedges_computed legs_computed tree_computed rows_computed checks_computed tests_computed calls_computed
engine_computed = tt

unfoldable pub computed : Unit {0}
unfolding engine_computed printed commands_computed machine_computed entry_effect order_effect effect_of listing_from register_from listing_on register_after times
computed = tt

-- a deck in which the power fails
unfoldable pub cut_computed : Unit {0}
unfolding computed found_in_order found_in_command found_from found_after order_withdrew command_withdrew withdrew_from withdrew_after
cut_computed = tt

-- calls and runs as events
unfoldable pub events_computed : Unit {0}
unfolding cut_computed after_write call_result noted operate event_leaves withdrew run_leaves run_withdrew state_after_runs runs_withdrew
events_computed = tt
