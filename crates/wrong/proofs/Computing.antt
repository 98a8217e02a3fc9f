-- What opens when a call of ours is computed, under one name.
use Rattle.cash.specs.Units.{B, half}
use Rattle.cash.specs.Losses.{pool_loss, pool_recovery, tranche_loss, tranche_recovery, tranche_outstanding, index_outstanding, default_payment, premium_payment, elapsed_payment}
use Rattle.hedges.specs.Hedges.{net_value, change_of, jump_of, with_sign, millionths, ratio_of}
use Rattle.tree.specs.Paths.{all_moves, keeps, those, paths, weight, paid, total, path_sum, exact}
use Rattle.tree.specs.Backward.{roll_node, over, leg_exact}
use Rattle.tree.specs.Legs.{default_cash, premium_cash, premium_exact, elapsed_cash, elapsed_exact, mark}
use Rattle.sheet.specs.Terms.{sum_of}
use Rattle.sheet.specs.Dates.{next_accrual}
use Rattle.sheet.specs.Periods.{begun, period_of, hazards_at}
use Rattle.tree.specs.Sheet.{hazard_of, discount_of, accrual_of, elapsed_of, pool_loss_of, pool_recovery_of, loss_of, width_of, outstanding_of, tree_of, default_of, premium_of, exact_d, exact_a, dates, elapsed_count, premium_halves, default_most, premium_most}
use Rattle.tree.specs.Forward.{same, outflow, from_below, pushed, distribution}
use Rattle.rows.specs.Tables.{tab, entry, grid, any}
use Rattle.rows.specs.Rows.{node_in, row_of, rolled, rolled_back, any_over, soiled, distribution_row}
use Rattle.refusals.specs.Tests.{pool_bad, periods_bad, lists_bad, recovery_bad, attachments_bad, starts_bad, hazards_bad, discounts_bad, accruals_bad, elapsed_bad, coupons_bad, first, sheet_tests}
use Rattle.figures.specs.Nodes.{node_of, jump}
use Rattle.admission.specs.LentTests.{rows_bad, row_bad, off_walk, ten_tests, walk_tests}
use Rattle.walk.specs.Calls.{open_tests, back_tests, value_tests, ratio_tests, forward_tests, or_outcome, or_forward_outcome, zeros, rolls, open_call, back_call, value_call, ratio_call, forward_call}
use Rattle.figures.specs.Replies.{worth}
use Rattle.walk.specs.CallRules.{backward_rule}
use Rattle.wrong.specs.Substitutes.{stepped_by, rolled_by, moved_in_place, low_row}
use Rattle.walk.specs.CallLists.{after_write, after_open, after_walk_call, call_result, noted, state_after, history_after}
use Rattle.walk.specs.Accuracy.{held_d, held_a, held_worth}
use Rattle.walk.specs.Liveness.{CallRule}
use Rattle.walk.specs.Power.{operate}
use Rattle.walk.specs.Promise.{blank_run}

unfoldable pub computed : Unit {0}
unfolding B half pool_loss pool_recovery tranche_loss tranche_recovery tranche_outstanding index_outstanding default_payment premium_payment elapsed_payment net_value change_of jump_of with_sign millionths ratio_of all_moves keeps those paths weight paid total path_sum exact roll_node over leg_exact default_cash premium_cash premium_exact elapsed_cash elapsed_exact mark next_accrual begun period_of hazards_at hazard_of discount_of accrual_of elapsed_of pool_loss_of pool_recovery_of loss_of width_of outstanding_of tree_of default_of premium_of exact_d exact_a dates elapsed_count premium_halves sum_of default_most premium_most same outflow from_below pushed distribution tab entry grid any node_in row_of rolled rolled_back any_over soiled distribution_row pool_bad periods_bad lists_bad recovery_bad attachments_bad starts_bad hazards_bad discounts_bad accruals_bad elapsed_bad coupons_bad first sheet_tests node_of jump rows_bad row_bad off_walk ten_tests walk_tests open_tests back_tests value_tests ratio_tests forward_tests or_outcome or_forward_outcome zeros rolls open_call back_call worth value_call ratio_call forward_call backward_rule after_write after_open after_walk_call call_result noted state_after history_after stepped_by rolled_by moved_in_place low_row held_d held_a held_worth CallRule operate blank_run
computed = tt
