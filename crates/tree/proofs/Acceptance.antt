-- The trial entries, by computation.
use Rattle.std.proofs.Common.{refl, lit≤}
use Rattle.cash.specs.Units.{B, half}
use Rattle.cash.specs.Sums.{sum_to}
use Rattle.cash.specs.Losses.{pool_loss, pool_recovery, tranche_loss, tranche_recovery, tranche_outstanding, index_outstanding, default_payment, premium_payment, elapsed_payment}
use Rattle.sheet.specs.Terms.{sum_of}
use Rattle.sheet.specs.Periods.{begun, period_of}
use Rattle.tree.specs.Paths.{all_moves, keeps, those, paths, weight, paid, total, path_sum, exact}
use Rattle.tree.specs.Backward.{roll_node, back_from, back, over, leg_value, leg_exact}
use Rattle.tree.specs.Legs.{default_cash, premium_cash, premium_exact, elapsed_cash, elapsed_exact, mark}
use Rattle.tree.specs.Sheet.{hazard_of, discount_of, accrual_of, elapsed_of, pool_loss_of, pool_recovery_of, loss_of, outstanding_of, tree_of, default_of, premium_of, D, A, exact_d, exact_a, dates, elapsed_count, premium_halves, premium_most, spanning}
use Rattle.tree.specs.Forward.{same, outflow, from_below, pushed, distribution, lands, probability, apart, errors}
use Rattle.tree.specs.Trials.{Starred, Exactly, Roundings, Recoveries, Bounds, PeriodsCrossed, ElapsedPaid, CeilingLeft, Distances}

pub starred : Starred
unfolding B half pool_loss pool_recovery tranche_loss tranche_recovery tranche_outstanding index_outstanding default_payment premium_payment elapsed_payment roll_node back_from back leg_value default_cash premium_cash elapsed_cash premium_exact elapsed_exact begun period_of hazard_of discount_of accrual_of elapsed_of pool_loss_of pool_recovery_of loss_of outstanding_of tree_of default_of premium_of D A same outflow from_below pushed distribution
starred =
    record {
      first_at_6 = refl;
      first_at_7 = refl;
      second_at_6 = refl;
      second_at_7 = refl;
      second_at_12 = refl;
      second_at_13 = refl;
      half_down_to_0 = refl;
      half_up_to_1 = refl;
      half_down_to_1 = refl;
      half_up_to_2 = refl;
      tranche_default = refl;
      tranche_premium = refl;
      index_default = refl;
      index_premium = refl;
      row_at_0 = refl;
      row_at_1 = refl;
      row_at_2 = refl;
    }

pub exactly : Exactly
unfolding B pool_loss pool_recovery tranche_loss tranche_recovery tranche_outstanding index_outstanding default_payment all_moves keeps those paths weight paid total path_sum exact leg_exact default_cash premium_exact elapsed_exact begun period_of hazard_of discount_of accrual_of elapsed_of pool_loss_of pool_recovery_of loss_of outstanding_of tree_of default_of premium_of exact_d exact_a same lands probability
exactly =
    record {
      tranche_default = refl;
      tranche_premium = refl;
      index_default = refl;
      index_premium = refl;
      chance_of_0 = refl;
      chance_of_1 = refl;
      chance_of_2 = refl;
      uneven_default = refl;
      uneven_premium = refl;
    }

pub roundings : Roundings
unfolding B half pool_loss pool_recovery tranche_loss tranche_recovery tranche_outstanding index_outstanding default_payment premium_payment elapsed_payment roll_node back_from back leg_value default_cash premium_cash elapsed_cash premium_exact elapsed_exact begun period_of hazard_of discount_of accrual_of elapsed_of pool_loss_of pool_recovery_of loss_of outstanding_of tree_of default_of premium_of D A same outflow from_below pushed distribution
roundings =
    record {
      loss_at_1 = refl;
      loss_at_2 = refl;
      index_at_1 = refl;
      index_at_2 = refl;
      premium_after_1 = refl;
      premium_after_2 = refl;
      default_after_1 = refl;
      default_after_2 = refl;
      index_premium = refl;
      row_at_0 = refl;
      row_at_1 = refl;
      row_at_2 = refl;
    }

pub recoveries : Recoveries
unfolding B half pool_loss pool_recovery tranche_loss tranche_recovery tranche_outstanding index_outstanding default_payment premium_payment elapsed_payment roll_node back_from back leg_value default_cash premium_cash elapsed_cash premium_exact elapsed_exact begun period_of hazard_of discount_of accrual_of elapsed_of pool_loss_of pool_recovery_of loss_of outstanding_of tree_of default_of premium_of D A same outflow from_below pushed distribution
recoveries =
    record {
      first_at_1 = refl;
      second_at_1 = refl;
      index_at_1 = refl;
      first_at_2 = refl;
      second_at_2 = refl;
      index_at_2 = refl;
      second_at_3 = refl;
      index_at_3 = refl;
      premium = refl;
      none_first_at_1 = refl;
      none_second_at_1 = refl;
      none_index_at_1 = refl;
      all_first_at_2 = refl;
      all_second_at_2 = refl;
      all_index_at_2 = refl;
      all_first_at_3 = refl;
      below_the_top = refl;
      all_default = refl;
    }

pub bounds : Bounds
unfolding B half sum_to pool_loss pool_recovery tranche_loss tranche_recovery tranche_outstanding index_outstanding default_payment premium_payment elapsed_payment roll_node back_from back over leg_value default_cash premium_cash elapsed_cash mark begun period_of hazard_of discount_of accrual_of elapsed_of pool_loss_of pool_recovery_of loss_of outstanding_of tree_of default_of premium_of D A dates elapsed_count premium_halves spanning all_moves keeps those paths weight paid total path_sum exact leg_exact premium_exact elapsed_exact exact_a same outflow from_below pushed distribution lands probability apart errors
bounds =
    record {
      defaults_add = record { below = lit≤ tt; above = lit≤ tt };
      premiums_add = record { below = lit≤ tt; above = lit≤ tt };
      index_premiums_add = record { below = lit≤ tt; above = lit≤ tt };
      premium_distance = record { below = lit≤ tt; above = lit≤ tt };
      errors = lit≤ tt;
    }

pub periods : PeriodsCrossed
unfolding B half pool_loss pool_recovery tranche_loss tranche_recovery tranche_outstanding index_outstanding default_payment premium_payment elapsed_payment roll_node back_from back leg_value default_cash premium_cash elapsed_cash premium_exact elapsed_exact begun period_of hazard_of discount_of accrual_of elapsed_of pool_loss_of pool_recovery_of loss_of outstanding_of tree_of default_of premium_of D A same outflow from_below pushed distribution all_moves keeps those paths weight paid total path_sum exact leg_exact exact_d lands probability
periods =
    record {
      before_start = refl;
      at_start = refl;
      second_at_start = refl;
      last_count = refl;
      default_at_2 = refl;
      default_at_1 = refl;
      default_at_0 = refl;
      premium_at_0 = refl;
      row_after_2 = refl;
      row_after_3 = refl;
      chance_after_3 = refl;
      exact_default = refl;
    }

pub elapsed_paid : ElapsedPaid
unfolding B half pool_loss pool_recovery tranche_loss tranche_recovery tranche_outstanding index_outstanding premium_payment elapsed_payment roll_node back_from back leg_value premium_cash elapsed_cash premium_exact elapsed_exact begun period_of hazard_of discount_of accrual_of elapsed_of pool_loss_of pool_recovery_of outstanding_of tree_of premium_of A all_moves keeps those paths weight paid total path_sum exact leg_exact exact_a
elapsed_paid =
    record {
      tranche_after_1 = refl;
      tranche_after_2 = refl;
      index_after_1 = refl;
      index_after_2 = refl;
      exact_index = refl;
      worked_tranche = refl;
      worked_index = refl;
      exact_worked = refl;
      rounded_apart = refl;
    }

pub ceiling_left : CeilingLeft
unfolding B half pool_loss pool_recovery tranche_loss tranche_recovery tranche_outstanding index_outstanding premium_payment elapsed_payment roll_node back_from premium_cash elapsed_cash begun period_of hazard_of discount_of accrual_of elapsed_of pool_loss_of pool_recovery_of outstanding_of tree_of premium_of sum_of premium_most
ceiling_left = record { first = refl; second = refl; walked = refl; left = refl }

pub distances : Distances
unfolding over mark accrual_of elapsed_of dates elapsed_count premium_halves
distances = record { none = refl; both = refl; date_and_fraction = refl; fraction_alone = refl; date_alone = refl; apart = refl }
