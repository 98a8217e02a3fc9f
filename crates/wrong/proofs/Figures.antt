-- No engine of specs/Figures.antt keeps the promise, and the bounds need their factor: by computation on small sheets.
use Rattle.std.proofs.Common.{ℕ, ◌-◌, ◌≡◌, refl, ap, true, false, [], ◌∷◌, arith, replicate, le→leb, lit≤}
use Rattle.cash.specs.Sums.{sum_to}
use Rattle.tree.specs.Forward.{lands, probability, apart, errors}
use Rattle.tree.specs.Sheet.{spanning}
use Rattle.tree.specs.Trials.{drifting}
use Rattle.sheet.specs.Brought.{Brought, brought}
use Rattle.refusals.proofs.Limits.{limits}
use Rattle.rows.specs.Rows.{Rows}
use Rattle.walk.specs.Answers.{accepted}
use Rattle.walk.specs.CallRules.{BackStep}
use Rattle.walk.specs.Engine.{Engine}
use Rattle.walk.specs.CallLists.{own_rows, other_rows, issue, opening, back, Catalogue, Run, end, after_walk_call, call_result, answers}
use Rattle.walk.specs.Liveness.{CallRule}
use Rattle.walk.specs.Promise.{Rules, Demand3, blank_run}
use Rattle.wrong.specs.Examples.{catalogue_of, constant_rows, deck, used, to_root, parted, whole, topped, changing, earning, unevenly, elsewhere, live, walk_at}
use Rattle.wrong.specs.Figures.{row_by, distribution_by, recovery_ignored, discount_before, accrual_before, elapsed_moved_from, premium_every_step, moves_exchanged, hazard_of_next, past_last_count, period_moved_from, first_period, last_period, next_period, starts_from_zero, laid_by_count, legs_exchanged, default_unpaid, default_in_premiums, premium_in_defaults, lower_ignored, loss_uncapped, loss_rounded_up, index_rounded_down, index_by_names, top_not_shrunk, shrunk_from_below, recovered_from_each, recovery_rounded_up, premium_after_roll, premium_after_chance, elapsed_unpaid, elapsed_on_before, elapsed_on_after, elapsed_rounded_down, elapsed_on_loss, elapsed_on_survival, elapsed_on_dates, elapsed_off_dates, elapsed_not_of_index, elapsed_rounded_together, elapsed_for_date, elapsed_in_defaults, net_factor_short, net_legs_exchanged, net_reversed, default_for_premium, loss_reversed, default_reversed, premium_reversed, premium_left_out, tranche_coupon, ten_thousandths, half_to_even, moves_down, half_moves_down, moves_past_last, forward_moved_from, moves_lost, nothing_moves, from_lent_row, NoneFigures, Unchanged, units_catalogue, FactorNeeded, slivers_catalogue, IndexFactorNeeded, halves_catalogue, ElapsedHalfNeeded, two_units, CeilingNeeded, NamesNeeded}
use Rattle.wrong.proofs.Computing.{computed}
use Rattle.wrong.proofs.Refuted.{figure, found, back_step, sheet}

-- ---- back

-- A sheet opened with rows of n entries.
abbrev opens : Catalogue → ℕ → Run
opens k n = blank_run k used (issue 7 ∷ opening 7 (other_rows (constant_rows n 0)) ∷ [])

abbrev back_once : Catalogue → Run
back_once k = blank_run k used (issue 7 ∷ opening 7 own_rows ∷ back 7 own_rows 1 ∷ [])

-- Demand 3 has a back by 1 keep to the rule, entry by entry.
by_one : {e : Engine} → Demand3 e → (k : Catalogue) (n : ℕ) → accepted (answers e (opens k n) (back 7 own_rows 1)) ≡ true →
    BackStep (k.sheet 7).sheet ((end e (opens k n)).walk.position - 1) (end e (opens k n)).rows
    (call_result e k.sheet (end e (opens k n)) (back 7 own_rows 1)).state.rows
unfolding blank_run CallRule call_result after_walk_call
by_one d k n p = back_step _ _ _ _ (((d k used _).serves.ruled (back 7 own_rows 1)).does p).rows

-- And so does a second one.
by_two : {e : Engine} → Demand3 e → (k : Catalogue) → accepted (answers e (back_once k) (back 7 own_rows 1)) ≡ true →
    BackStep (k.sheet 7).sheet ((end e (back_once k)).walk.position - 1) (end e (back_once k)).rows
    (call_result e k.sheet (end e (back_once k)) (back 7 own_rows 1)).state.rows
unfolding blank_run CallRule call_result after_walk_call
by_two d k p = back_step _ _ _ _ (((d k used _).serves.ruled (back 7 own_rows 1)).does p).rows

not_recovery_ignored : Demand3 recovery_ignored → ⊥
unfolding computed row_by
not_recovery_ignored d = omega (arith, (by_one d deck 6 refl).default 1 0 (lit≤ tt) (lit≤ tt))

not_discount_before : Demand3 discount_before → ⊥
unfolding computed row_by
not_discount_before d = omega (arith, (by_one d deck 6 refl).default 0 0 (lit≤ tt) (lit≤ tt))

not_accrual_before : Demand3 accrual_before → ⊥
unfolding computed row_by
not_accrual_before d = omega (arith, (by_one d deck 6 refl).premium 0 0 (lit≤ tt) (lit≤ tt))

not_elapsed_moved_from : Demand3 elapsed_moved_from → ⊥
unfolding computed row_by
not_elapsed_moved_from d = omega (arith, (by_one d unevenly 8 refl).premium 1 1 (lit≤ tt) (lit≤ tt))

-- The first step of the deck is no premium date.
not_premium_every_step : Demand3 premium_every_step → ⊥
unfolding computed row_by
not_premium_every_step d = le→leb _ _ ((found d deck to_root 2 refl refl refl).premium_near 0 0 (lit≤ tt) (lit≤ tt)).below

not_moves_exchanged : Demand3 moves_exchanged → ⊥
unfolding computed
not_moves_exchanged d = omega (arith, (by_one d deck 6 refl).default 0 0 (lit≤ tt) (lit≤ tt))

not_hazard_of_next : Demand3 hazard_of_next → ⊥
unfolding computed row_by
not_hazard_of_next d = omega (arith, (by_one d deck 6 refl).default 0 0 (lit≤ tt) (lit≤ tt))

not_past_last_count : Demand3 past_last_count → ⊥
unfolding computed row_by
not_past_last_count d = omega (arith, (by_one d deck 6 refl).default 1 2 (lit≤ tt) (lit≤ tt))

not_period_moved_from : Demand3 period_moved_from → ⊥
unfolding computed row_by
not_period_moved_from d = omega (arith, (by_one d changing 6 refl).default 1 0 (lit≤ tt) (lit≤ tt))

not_first_period : Demand3 first_period → ⊥
unfolding computed row_by
not_first_period d = omega (arith, (by_one d changing 6 refl).default 1 0 (lit≤ tt) (lit≤ tt))

-- The two steps before it show the last period's hazards taken for theirs.
not_last_period : Demand3 last_period → ⊥
unfolding computed row_by
not_last_period d = omega (arith, (by_two d changing refl).default 1 0 (lit≤ tt) (lit≤ tt))

not_next_period : Demand3 next_period → ⊥
unfolding computed row_by
not_next_period d = omega (arith, (by_one d changing 6 refl).default 1 0 (lit≤ tt) (lit≤ tt))

not_starts_from_zero : Demand3 starts_from_zero → ⊥
unfolding computed row_by
not_starts_from_zero d = omega (arith, (by_two d changing refl).default 1 0 (lit≤ tt) (lit≤ tt))

not_laid_by_count : Demand3 laid_by_count → ⊥
unfolding computed row_by
not_laid_by_count d = omega (arith, (by_one d changing 6 refl).default 1 0 (lit≤ tt) (lit≤ tt))

not_legs_exchanged : Demand3 legs_exchanged → ⊥
unfolding computed row_by
not_legs_exchanged d = omega (arith, (by_one d deck 6 refl).default 0 0 (lit≤ tt) (lit≤ tt))

not_default_unpaid : Demand3 default_unpaid → ⊥
unfolding computed row_by
not_default_unpaid d = omega (arith, (by_one d deck 6 refl).default 0 0 (lit≤ tt) (lit≤ tt))

not_default_in_premiums : Demand3 default_in_premiums → ⊥
unfolding computed row_by
not_default_in_premiums d = omega (arith, (by_one d deck 6 refl).premium 0 0 (lit≤ tt) (lit≤ tt))

not_premium_in_defaults : Demand3 premium_in_defaults → ⊥
unfolding computed row_by
not_premium_in_defaults d = omega (arith, (by_one d deck 6 refl).default 0 0 (lit≤ tt) (lit≤ tt))

not_lower_ignored : Demand3 lower_ignored → ⊥
unfolding computed row_by
not_lower_ignored d = omega (arith, (by_one d parted 12 refl).default 1 0 (lit≤ tt) (lit≤ tt))

not_loss_uncapped : Demand3 loss_uncapped → ⊥
unfolding computed row_by
not_loss_uncapped d = omega (arith, (by_one d deck 6 refl).default 0 1 (lit≤ tt) (lit≤ tt))

-- A unit, in the pool of three.
not_loss_rounded_up : Demand3 loss_rounded_up → ⊥
unfolding computed row_by
not_loss_rounded_up d = omega (arith, (by_one d whole 8 refl).default 1 2 (lit≤ tt) (lit≤ tt))

not_index_rounded_down : Demand3 index_rounded_down → ⊥
unfolding computed row_by
not_index_rounded_down d = omega (arith, (by_one d whole 8 refl).premium 1 0 (lit≤ tt) (lit≤ tt))

not_index_by_names : Demand3 index_by_names → ⊥
unfolding computed row_by
not_index_by_names d = omega (arith, (by_one d topped 12 refl).premium 2 0 (lit≤ tt) (lit≤ tt))

not_top_not_shrunk : Demand3 top_not_shrunk → ⊥
unfolding computed row_by
not_top_not_shrunk d = omega (arith, (by_one d topped 12 refl).premium 1 0 (lit≤ tt) (lit≤ tt))

not_shrunk_from_below : Demand3 shrunk_from_below → ⊥
unfolding computed row_by
not_shrunk_from_below d = omega (arith, (by_one d topped 12 refl).premium 1 0 (lit≤ tt) (lit≤ tt))

not_recovered_from_each : Demand3 recovered_from_each → ⊥
unfolding computed row_by
not_recovered_from_each d = omega (arith, (by_one d topped 12 refl).premium 0 0 (lit≤ tt) (lit≤ tt))

not_recovery_rounded_up : Demand3 recovery_rounded_up → ⊥
unfolding computed row_by
not_recovery_rounded_up d = omega (arith, (by_one d topped 12 refl).premium 1 0 (lit≤ tt) (lit≤ tt))

not_premium_after_roll : Demand3 premium_after_roll → ⊥
unfolding computed row_by
not_premium_after_roll d = omega (arith, (by_one d deck 6 refl).premium 0 0 (lit≤ tt) (lit≤ tt))

-- A unit, in the second step, where a rounding more meets a row that is not zero.
not_premium_after_chance : Demand3 premium_after_chance → ⊥
unfolding computed row_by
not_premium_after_chance d =
    let l = issue 7 ∷ opening 7 (other_rows (constant_rows 8 0)) ∷ back 7 own_rows 1 ∷ [] in
    omega (arith, (back_step _ _ _ _ (((d whole used l).serves.ruled (back 7 own_rows 1)).does refl).rows).premium 1 0 (lit≤ tt) (lit≤ tt))

not_elapsed_unpaid : Demand3 elapsed_unpaid → ⊥
unfolding computed
not_elapsed_unpaid d = omega (arith, (by_one d unevenly 8 refl).premium 1 1 (lit≤ tt) (lit≤ tt))

not_elapsed_on_before : Demand3 elapsed_on_before → ⊥
unfolding computed
not_elapsed_on_before d = omega (arith, (by_one d unevenly 8 refl).premium 1 1 (lit≤ tt) (lit≤ tt))

not_elapsed_on_after : Demand3 elapsed_on_after → ⊥
unfolding computed
not_elapsed_on_after d = omega (arith, (by_one d unevenly 8 refl).premium 1 0 (lit≤ tt) (lit≤ tt))

-- A unit.
not_elapsed_rounded_down : Demand3 elapsed_rounded_down → ⊥
unfolding computed
not_elapsed_rounded_down d = omega (arith, (by_one d unevenly 8 refl).premium 1 1 (lit≤ tt) (lit≤ tt))

not_elapsed_on_loss : Demand3 elapsed_on_loss → ⊥
unfolding computed
not_elapsed_on_loss d = omega (arith, (by_one d unevenly 8 refl).premium 1 1 (lit≤ tt) (lit≤ tt))

not_elapsed_on_survival : Demand3 elapsed_on_survival → ⊥
unfolding computed
not_elapsed_on_survival d = omega (arith, (by_one d unevenly 8 refl).premium 1 1 (lit≤ tt) (lit≤ tt))

-- The first step of the deck is no premium date.
not_elapsed_on_dates : Demand3 elapsed_on_dates → ⊥
unfolding computed
not_elapsed_on_dates d = omega (arith, (by_two d earning refl).premium 1 0 (lit≤ tt) (lit≤ tt))

not_elapsed_off_dates : Demand3 elapsed_off_dates → ⊥
unfolding computed
not_elapsed_off_dates d = omega (arith, (by_one d unevenly 8 refl).premium 1 1 (lit≤ tt) (lit≤ tt))

not_elapsed_not_of_index : Demand3 elapsed_not_of_index → ⊥
unfolding computed
not_elapsed_not_of_index d = omega (arith, (by_one d unevenly 8 refl).premium 1 1 (lit≤ tt) (lit≤ tt))

-- A unit.
not_elapsed_rounded_together : Demand3 elapsed_rounded_together → ⊥
unfolding computed
not_elapsed_rounded_together d = omega (arith, (by_one d unevenly 8 refl).premium 1 1 (lit≤ tt) (lit≤ tt))

not_elapsed_for_date : Demand3 elapsed_for_date → ⊥
unfolding computed
not_elapsed_for_date d = omega (arith, (by_one d unevenly 8 refl).premium 1 1 (lit≤ tt) (lit≤ tt))

not_elapsed_in_defaults : Demand3 elapsed_in_defaults → ⊥
unfolding computed row_by
not_elapsed_in_defaults d = omega (arith, (by_one d unevenly 8 refl).default 1 1 (lit≤ tt) (lit≤ tt))

-- ---- value

not_net_factor_short : Demand3 net_factor_short → ⊥
unfolding computed
not_net_factor_short d = omega (arith, ap (figure 2) ((found d deck to_root 2 refl refl refl).shown 7 0 0 refl).said)

not_net_legs_exchanged : Demand3 net_legs_exchanged → ⊥
unfolding computed
not_net_legs_exchanged d = omega (arith, ap (figure 2) ((found d deck to_root 2 refl refl refl).shown 7 0 0 refl).said)

not_net_reversed : Demand3 net_reversed → ⊥
unfolding computed
not_net_reversed d = omega (arith, ap (figure 2) ((found d deck to_root 2 refl refl refl).shown 7 0 0 refl).said)

not_default_for_premium : Demand3 default_for_premium → ⊥
unfolding computed
not_default_for_premium d = omega (arith, ap (figure 1) ((found d deck to_root 2 refl refl refl).shown 7 0 0 refl).said)

-- ---- hedge ratio

-- Rows on which each change of a jump counts. The ratio there is 517241.
abbrev lent : Rows
lent = elsewhere 100_000_000 0 500_000_000 200_000_000

not_loss_reversed : Rules loss_reversed → ⊥
unfolding computed
not_loss_reversed r = omega (arith, ap (figure 0) ((r.ratio sheet live (walk_at 0) lent 0 0).does refl).said)

not_default_reversed : Rules default_reversed → ⊥
unfolding computed
not_default_reversed r = omega (arith, ap (figure 0) ((r.ratio sheet live (walk_at 0) lent 0 0).does refl).said)

not_premium_reversed : Rules premium_reversed → ⊥
unfolding computed
not_premium_reversed r = omega (arith, ap (figure 0) ((r.ratio sheet live (walk_at 0) lent 0 0).does refl).said)

not_premium_left_out : Rules premium_left_out → ⊥
unfolding computed
not_premium_left_out r = omega (arith, ap (figure 0) ((r.ratio sheet live (walk_at 0) lent 0 0).does refl).said)

not_tranche_coupon : Rules tranche_coupon → ⊥
unfolding computed
not_tranche_coupon r = omega (arith, ap (figure 0) ((r.ratio sheet live (walk_at 0) lent 0 0).does refl).said)

not_ten_thousandths : Rules ten_thousandths → ⊥
unfolding computed
not_ten_thousandths r = omega (arith, ap (figure 0) ((r.ratio sheet live (walk_at 0) lent 0 0).does refl).said)

-- Half a millionth.
not_half_to_even : Rules half_to_even → ⊥
unfolding computed
not_half_to_even r = omega (arith, ap (figure 0) ((r.ratio sheet live (walk_at 0) (elsewhere 299_999_999 298_000_000 0 0) 0 0).does refl).said)

-- ---- forward

-- A chance of 50,000: in the second step 49,997.5 units move.
abbrev halves : Brought
halves =
    brought (record { names = 1; steps = 2; tranches = 1; recovery = 0; number = 7 })
    (0 ∷ 5 ∷ []) (1 ∷ []) (50_000 ∷ []) (1 ∷ 1 ∷ []) (1 ∷ 1 ∷ []) (0 ∷ 0 ∷ []) (0 ∷ 0 ∷ [])

not_moves_down : Rules moves_down → ⊥
unfolding computed distribution_by
not_moves_down r = omega (arith, ((r.forward halves live (replicate 2 0) 2).does refl).row 1 (lit≤ tt))

not_half_moves_down : Rules half_moves_down → ⊥
unfolding computed distribution_by
not_half_moves_down r = omega (arith, ((r.forward halves live (replicate 2 0) 2).does refl).row 1 (lit≤ tt))

not_moves_past_last : Rules moves_past_last → ⊥
unfolding computed distribution_by
not_moves_past_last r = omega (arith, ((r.forward halves live (replicate 2 0) 2).does refl).row 1 (lit≤ tt))

not_forward_moved_from : Rules forward_moved_from → ⊥
unfolding computed distribution_by
not_forward_moved_from r = omega (arith, ((r.forward (changing.sheet 7) live (replicate 3 0) 3).does refl).row 1 (lit≤ tt))

not_moves_lost : Rules moves_lost → ⊥
unfolding computed distribution_by sum_to
not_moves_lost r = omega (arith, ((r.forward sheet live (replicate 3 0) 1).does refl).total)

not_nothing_moves : Rules nothing_moves → ⊥
unfolding computed sum_to lands probability apart
not_nothing_moves r = le→leb _ _ ((r.forward sheet live (replicate 3 0) 1).does refl).near

not_from_lent_row : Rules from_lent_row → ⊥
unfolding computed distribution_by sum_to
not_from_lent_row r = omega (arith, ((r.forward sheet live (replicate 3 0) 1).does refl).total)

pub none_figures : NoneFigures
none_figures =
    record {
      recovery_ignored = not_recovery_ignored;
      discount_before = not_discount_before;
      accrual_before = not_accrual_before;
      elapsed_moved_from = not_elapsed_moved_from;
      premium_every_step = not_premium_every_step;
      moves_exchanged = not_moves_exchanged;
      hazard_of_next = not_hazard_of_next;
      past_last_count = not_past_last_count;
      period_moved_from = not_period_moved_from;
      first_period = not_first_period;
      last_period = not_last_period;
      next_period = not_next_period;
      starts_from_zero = not_starts_from_zero;
      laid_by_count = not_laid_by_count;
      legs_exchanged = not_legs_exchanged;
      default_unpaid = not_default_unpaid;
      default_in_premiums = not_default_in_premiums;
      premium_in_defaults = not_premium_in_defaults;
      lower_ignored = not_lower_ignored;
      loss_uncapped = not_loss_uncapped;
      loss_rounded_up = not_loss_rounded_up;
      index_rounded_down = not_index_rounded_down;
      index_by_names = not_index_by_names;
      top_not_shrunk = not_top_not_shrunk;
      shrunk_from_below = not_shrunk_from_below;
      recovered_from_each = not_recovered_from_each;
      recovery_rounded_up = not_recovery_rounded_up;
      premium_after_roll = not_premium_after_roll;
      premium_after_chance = not_premium_after_chance;
      elapsed_unpaid = not_elapsed_unpaid;
      elapsed_on_before = not_elapsed_on_before;
      elapsed_on_after = not_elapsed_on_after;
      elapsed_rounded_down = not_elapsed_rounded_down;
      elapsed_on_loss = not_elapsed_on_loss;
      elapsed_on_survival = not_elapsed_on_survival;
      elapsed_on_dates = not_elapsed_on_dates;
      elapsed_off_dates = not_elapsed_off_dates;
      elapsed_not_of_index = not_elapsed_not_of_index;
      elapsed_rounded_together = not_elapsed_rounded_together;
      elapsed_for_date = not_elapsed_for_date;
      elapsed_in_defaults = not_elapsed_in_defaults;
      net_factor_short = not_net_factor_short;
      net_legs_exchanged = not_net_legs_exchanged;
      net_reversed = not_net_reversed;
      default_for_premium = not_default_for_premium;
      loss_reversed = not_loss_reversed;
      default_reversed = not_default_reversed;
      premium_reversed = not_premium_reversed;
      premium_left_out = not_premium_left_out;
      tranche_coupon = not_tranche_coupon;
      ten_thousandths = not_ten_thousandths;
      half_to_even = not_half_to_even;
      moves_down = not_moves_down;
      half_moves_down = not_half_moves_down;
      moves_past_last = not_moves_past_last;
      forward_moved_from = not_forward_moved_from;
      moves_lost = not_moves_lost;
      nothing_moves = not_nothing_moves;
      from_lent_row = not_from_lent_row;
    }

pub unchanged : Unchanged
unfolding computed row_by distribution_by
unchanged = record { sheet = refl; chances = refl; periods = refl; forward_periods = refl; legs = refl; losses = refl; losses_at_the_top = refl; outstandings = refl; index = refl; tranches = refl; premiums = refl; elapsed = refl; nets = refl; jumps = refl; sizes = refl; moves = refl }

-- ---- bounds

pub factor_needed : FactorNeeded
unfolding computed spanning sum_to
factor_needed =
    record {
      within = ((limits (units_catalogue.sheet 5) false).0 refl).0;
      walked = record { opened = refl; walked = refl; own = refl };
      spanned_walked = record { opened = refl; walked = refl; own = refl };
      halves = refl;
      defaults = λ n. le→leb _ _ n.below;
      premiums = λ n. le→leb _ _ n.below;
    }

pub index_factor_needed : IndexFactorNeeded
unfolding computed sum_to
index_factor_needed =
    record {
      within = ((limits (slivers_catalogue.sheet 5) false).0 refl).0;
      points = record { first = refl; last = refl };
      walked = record { opened = refl; walked = refl; own = refl };
      halves = refl;
      premiums = λ n. le→leb _ _ n.below;
    }

pub elapsed_half_needed : ElapsedHalfNeeded
unfolding computed
elapsed_half_needed =
    record {
      within = ((limits (halves_catalogue.sheet 7) false).0 refl).0;
      walked = record { opened = refl; walked = refl; own = refl };
      dates = refl;
      elapsed = refl;
      halves = refl;
      premium = λ n. le→leb _ _ n.below;
      path_sum = λ n. le→leb _ _ n.below;
    }

pub ceiling_needed : CeilingNeeded
unfolding computed
ceiling_needed =
    record {
      within = ((limits (two_units.sheet 7) false).0 refl).0;
      walked = record { opened = refl; walked = refl; own = refl };
      over = λ n. le→leb _ _ n;
      taken = refl;
    }

pub names_needed : NamesNeeded
unfolding computed sum_to lands probability apart errors
names_needed = record { within = ((limits ((catalogue_of drifting (replicate 2 0)).sheet 7) false).0 refl).0; errors = λ n. le→leb _ _ n }
