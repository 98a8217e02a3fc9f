-- Wrong engines whose figures differ from document 01's, each ours but for one figure, and bounds that need their factor.
-- proofs/Figures.antt shows that the promise admits none of them.
use Rattle.std.specs.Prelude.{ℕ, zero, suc, pred, ◌+◌, ◌-◌, ◌*◌, ◌/◌, ◌%◌, ◌^◌, ◌≤◌, min, ◌≡◌, cond, List, [], ◌∷◌, length, get_or, drop, replicate, ltb, eqb, ℤ, pos, nat_abs, ◌+ℤ◌, ◌-ℤ◌, ◌*ℤ◌}
use Rattle.hedges.specs.declared.Node.{Node}
use Rattle.cash.specs.Units.{B, half}
use Rattle.cash.specs.Near.{Near}
use Rattle.cash.specs.Sums.{sum_to}
use Rattle.cash.specs.Losses.{tranche_loss, tranche_recovery, tranche_outstanding, index_outstanding, premium_payment, elapsed_payment}
use Rattle.hedges.specs.Hedges.{net_value, change_of, jump_of, negative, unlike, with_sign, millionths, ratio_of}
use Rattle.tree.specs.Paths.{survive, default, Cash}
use Rattle.tree.specs.Backward.{roll_node, Leg, leg_exact}
use Rattle.tree.specs.Legs.{premium_cash, elapsed_cash, default_leg, date_leg, elapsed_leg, premium_leg}
use Rattle.sheet.specs.Terms.{Terms, sum_of}
use Rattle.sheet.specs.Periods.{begun, period_of, hazards_into}
use Rattle.tree.specs.Sheet.{hazard_of, discount_of, accrual_of, elapsed_of, pool_loss_of, pool_recovery_of, loss_of, width_of, outstanding_of}
use Rattle.tree.specs.Sheet.{tree_of, default_of, premium_of, exact_a, dates, elapsed_count, premium_halves, WholePool, spanning}
use Rattle.tree.specs.Forward.{same, outflow, from_below, pushed, errors}
use Rattle.tree.specs.Trials.{units, slivers, drifting, four_halves, worked_earning}
use Rattle.rows.specs.Tables.{tab}
use Rattle.rows.specs.Rows.{node_in, row_of, rolled, Rows}
use Rattle.sheet.specs.Brought.{Brought}
use Rattle.sheet.specs.Limits.{Limits}
use Rattle.walk.specs.Answers.{accepted}
use Rattle.figures.specs.Nodes.{node_of, jump}
use Rattle.walk.specs.CallRules.{says}
use Rattle.walk.specs.Engine.{Engine}
use Rattle.walk.specs.OurEngine.{ours}
use Rattle.walk.specs.CallLists.{own_rows as same_rows, other_rows, issue, opening, back, value, Catalogue, Run, end, answers}
use Rattle.walk.specs.Accuracy.{Walked, held_d, held_a}
use Rattle.walk.specs.Promise.{Rules, Demand3, blank_run}
use Rattle.wrong.specs.Substitutes.{with_said, by_answer, value_by, forward_by, back_rows, back_nodes, paying, back_premiums, value_nets, ratio_of_rows}
use Rattle.wrong.specs.Examples.{catalogue_of, constant_rows, used, deck, root, ratio_on, whole, whole_run, topped_run, changing, periods_run, live}
use Rattle.wrong.specs.Examples.{earning_run, unevenly_run}

-- ---- back: both rows by other steps

-- A row c steps back from step i, each step by a rule of its own.
unfoldable pub row_by : (ℕ → List ℕ → List ℕ) → ℕ → ℕ → List ℕ → List ℕ
row_by step i zero row = row
row_by step i (suc c) row = step (i - suc c) (row_by step i c row)

-- A step back of a sheet's row, from step i + 1 to step i.
abbrev Step : Type 0
Step = Terms → ℕ → List ℕ → List ℕ

abbrev back_steps : Step → Step → Engine
back_steps d a =
    back_rows (λ x w l c m.
    record {
      defaults = row_by (d x.sheet) w.position c l.defaults;
      premiums = row_by (a x.sheet) w.position c l.premiums;
    })

-- ---- back: the sheet, the chances and the moves

-- By the rule, on another sheet.
abbrev back_on : (Terms → Terms) → Engine
back_on f = back_steps (λ x. rolled (f x) (default_of (f x))) (λ x. rolled (f x) (premium_of (f x)))

abbrev sheet_with : Terms → ℕ → List ℕ → List ℕ → List ℕ → Terms
sheet_with x recovery discounts accruals elapsed =
    record {
      names = x.names;
      steps = x.steps;
      tranches = x.tranches;
      recovery = recovery;
      attachments = x.attachments;
      starts = x.starts;
      hazards = x.hazards;
      discounts = discounts;
      accruals = accruals;
      elapsed = elapsed;
    }

-- Losses as if nothing were recovered.
abbrev pub recovery_ignored : Engine
recovery_ignored = back_on (λ x. sheet_with x 0 x.discounts x.accruals x.elapsed)

-- v(i) and a(i) for v(i + 1) and a(i + 1).
abbrev pub discount_before : Engine
discount_before = back_on (λ x. sheet_with x x.recovery (B ∷ x.discounts) x.accruals x.elapsed)

abbrev pub accrual_before : Engine
accrual_before = back_on (λ x. sheet_with x x.recovery x.discounts (0 ∷ x.accruals) x.elapsed)

-- e(i) for e(i + 1): the fraction of the step moved from.
abbrev pub elapsed_moved_from : Engine
elapsed_moved_from = back_on (λ x. sheet_with x x.recovery x.discounts x.accruals (0 ∷ x.elapsed))

-- The last accrual at every step, also where none falls due.
abbrev pub premium_every_step : Engine
premium_every_step = back_on (λ x. sheet_with x x.recovery x.discounts (replicate x.steps (accrual_of x x.steps)) x.elapsed)

-- Survival for a default and a default for survival.
abbrev pub moves_exchanged : Engine
moves_exchanged = back_nodes (λ hazard discount defaulted survived. roll_node hazard discount survived defaulted)

-- By other chances of a default into a step from a count.
abbrev chanced : (Terms → ℕ → ℕ → ℕ) → (Terms → ℕ → Leg) → Step
chanced hazard leg x i row =
    row_of x (λ j k.
    roll_node (hazard x (suc i) k) (discount_of x (suc i))
    (node_in x row j (suc k) + (leg x j).rounded (suc i) k default)
    (node_in x row j k + (leg x j).rounded (suc i) k survive))

abbrev back_chances : (Terms → ℕ → ℕ → ℕ) → Engine
back_chances hazard = back_steps (chanced hazard default_of) (chanced hazard premium_of)

-- p(k + 1) for p(k).
abbrev pub hazard_of_next : Engine
hazard_of_next = back_chances (λ x s k. hazard_of x s (suc k))

-- A default from the last count, with the chance of the one before it.
abbrev pub past_last_count : Engine
past_last_count = back_chances (λ x s k. get_or (hazards_into x s) (min k (pred x.names)) 0)

-- By the hazards of another period, told by the step that is moved into.
abbrev in_period : (Terms → ℕ → ℕ) → Terms → ℕ → ℕ → ℕ
in_period period x s k = cond (ltb k x.names) (get_or x.hazards (period x s * x.names + k) 0) 0

-- That of the step moved from.
abbrev pub period_moved_from : Engine
period_moved_from = back_chances (in_period (λ x s. period_of x.starts (pred s)))

abbrev pub first_period : Engine
first_period = back_chances (in_period (λ x s. 0))

abbrev pub last_period : Engine
last_period = back_chances (in_period (λ x s. pred (length x.starts)))

-- One later, as if periods were counted from 1.
abbrev pub next_period : Engine
next_period = back_chances (in_period (λ x s. begun x.starts s))

-- Starts as if steps were counted from 0.
abbrev pub starts_from_zero : Engine
starts_from_zero = back_chances (in_period (λ x s. period_of x.starts (suc s)))

-- Hazards laid out count by count.
abbrev pub laid_by_count : Engine
laid_by_count = back_chances (λ x s k. cond (ltb k x.names) (get_or x.hazards (k * length x.starts + period_of x.starts s) 0) 0)

-- ---- back: the cash

-- By other legs.
abbrev back_legs : (Terms → ℕ → Leg) → (Terms → ℕ → Leg) → Engine
back_legs d a = back_steps (λ x. rolled x (d x)) (λ x. rolled x (a x))

-- The premium leg in the row of the default legs, and the other way round.
abbrev pub legs_exchanged : Engine
legs_exchanged = back_legs premium_of default_of

abbrev pub default_unpaid : Engine
default_unpaid = back_legs (λ x j. default_leg (λ k. 0)) premium_of

-- A leg with the rounded cash of another besides.
abbrev besides : Leg → Leg → Leg
besides g h = paying g (λ s k m. g.rounded s k m + h.rounded s k m)

abbrev pub default_in_premiums : Engine
default_in_premiums = back_legs default_of (λ x j. besides (premium_of x j) (default_of x j))

abbrev pub premium_in_defaults : Engine
premium_in_defaults = back_legs (λ x j. besides (default_of x j) (premium_of x j)) premium_of

-- M(k) by another rule, and O(k) of a tranche from it.
abbrev back_losses : (Terms → ℕ → ℕ → ℕ) → Engine
back_losses M =
    back_legs (λ x j. default_leg (M x j))
    (λ x j.
    premium_leg (accrual_of x) (elapsed_of x) (λ k.
    cond (ltb j x.tranches)
    (width_of x j - M x j k - tranche_recovery (get_or x.attachments j 0) (get_or x.attachments (suc j) 0) (pool_recovery_of x k))
    (outstanding_of x j k)))

-- A tranche's loss measured from 0.
abbrev pub lower_ignored : Engine
lower_ignored = back_losses (λ x j k. cond (ltb j x.tranches) (tranche_loss 0 (width_of x j) (pool_loss_of x k)) (pool_loss_of x k))

-- A tranche's loss not capped by its width.
abbrev pub loss_uncapped : Engine
loss_uncapped = back_losses (λ x j k. cond (ltb j x.tranches) (pool_loss_of x k - get_or x.attachments j 0) (pool_loss_of x k))

-- L(k) rounded up.
abbrev loss_up : Terms → ℕ → ℕ
loss_up x k = (k * (B - x.recovery) + pred x.names) / x.names

abbrev pub loss_rounded_up : Engine
loss_rounded_up =
    back_losses (λ x j k.
    cond (ltb j x.tranches) (tranche_loss (get_or x.attachments j 0) (get_or x.attachments (suc j) 0) (loss_up x k)) (loss_up x k))

-- O(k) by another rule.
abbrev back_outstandings : (Terms → ℕ → ℕ → ℕ) → Engine
back_outstandings O = back_legs default_of (λ x j. premium_leg (accrual_of x) (elapsed_of x) (O x j))

-- O(k) of the index alone by another rule.
abbrev back_index : (Terms → ℕ → ℕ) → Engine
back_index O = back_outstandings (λ x j k. cond (ltb j x.tranches) (outstanding_of x j k) (O x k))

-- Rounded down.
abbrev pub index_rounded_down : Engine
index_rounded_down = back_index (λ x k. (x.names - k) * B / x.names)

-- By the names that have not defaulted, with one rounding in place of two: the rule before T-12.
abbrev pub index_by_names : Engine
index_by_names = back_index (λ x k. B - k * B / x.names)

-- O(k) of the tranches alone, by another rule of their points, L(k) and Z(k).
abbrev back_tranches : (ℕ → ℕ → ℕ → ℕ → ℕ) → Engine
back_tranches O =
    back_outstandings (λ x j k.
    cond (ltb j x.tranches)
    (O (get_or x.attachments j 0) (get_or x.attachments (suc j) 0) (pool_loss_of x k) (pool_recovery_of x k)) (outstanding_of x j k))

-- Recoveries leave the top as it is: the rule before T-12.
abbrev pub top_not_shrunk : Engine
top_not_shrunk = back_tranches (λ lower upper loss recovered. upper - lower - tranche_loss lower upper loss)

-- They come off the bottom, as losses do.
abbrev pub shrunk_from_below : Engine
shrunk_from_below = back_tranches (λ lower upper loss recovered. upper - lower - tranche_loss lower upper loss - tranche_loss lower upper recovered)

-- They come off every tranche.
abbrev pub recovered_from_each : Engine
recovered_from_each = back_tranches (λ lower upper loss recovered. upper - lower - tranche_loss lower upper loss - recovered)

-- Z(k) rounded up.
abbrev recovery_up : Terms → ℕ → ℕ
recovery_up x k = (k * x.recovery + pred x.names) / x.names

abbrev pub recovery_rounded_up : Engine
recovery_rounded_up =
    back_outstandings (λ x j k.
    cond (ltb j x.tranches)
    (tranche_outstanding (get_or x.attachments j 0) (get_or x.attachments (suc j) 0) (pool_loss_of x k) (recovery_up x k))
    (index_outstanding (pool_loss_of x k) (recovery_up x k)))

-- The chance of a step on two figures, without its discount.
abbrev weighed : Terms → ℕ → ℕ → ℕ → ℕ → ℕ
weighed x i k defaulted survived = half (hazard_of x (suc i) k * defaulted + (B - hazard_of x (suc i) k) * survived)

-- The premium of a step, added late:
-- by a rule of the discount, what the chance left of the row, and what it left of the premium.
abbrev late : (ℕ → ℕ → ℕ → ℕ) → Step
late f x i row =
    row_of x (λ j k.
    f (discount_of x (suc i)) (weighed x i k (node_in x row j (suc k)) (node_in x row j k))
    (weighed x i k ((premium_of x j).rounded (suc i) k default) ((premium_of x j).rounded (suc i) k survive)))

abbrev back_late : (ℕ → ℕ → ℕ → ℕ) → Engine
back_late f = back_steps (λ x. rolled x (default_of x)) (late f)

-- After chance and discount: the premium is not discounted.
abbrev pub premium_after_roll : Engine
premium_after_roll = back_late (λ discount figure premium. half (discount * figure) + premium)

-- After the chance and before the discount: a rounding of its own.
abbrev pub premium_after_chance : Engine
premium_after_chance = back_late (λ discount figure premium. half (discount * (figure + premium)))

-- ---- back: the premium earned up to a default

-- By other cash, beside the premium of the step.
abbrev back_elapsed : (Terms → ℕ → Cash) → Engine
back_elapsed cash = back_premiums (λ x j s k m. premium_cash (accrual_of x) (outstanding_of x j) s k m + cash x j s k m)

-- By another rule of the fraction, O(k) and O(k + 1).
abbrev up_to : (ℕ → ℕ → ℕ → ℕ) → Terms → ℕ → Cash
up_to rule x j s k default = rule (elapsed_of x s) (outstanding_of x j k) (outstanding_of x j (suc k))
up_to rule x j s k survive = 0

abbrev pub elapsed_unpaid : Engine
elapsed_unpaid = back_elapsed (up_to (λ fraction before after. 0))

-- On all that is outstanding before the default, or after it.
abbrev pub elapsed_on_before : Engine
elapsed_on_before = back_elapsed (up_to (λ fraction before after. half (fraction * before)))

abbrev pub elapsed_on_after : Engine
elapsed_on_after = back_elapsed (up_to (λ fraction before after. half (fraction * after)))

abbrev pub elapsed_rounded_down : Engine
elapsed_rounded_down = back_elapsed (up_to (λ fraction before after. fraction * (before - after) / B))

-- On what the default costs the tranche: what is recovered earns nothing.
abbrev pub elapsed_on_loss : Engine
elapsed_on_loss = back_elapsed (λ x j. elapsed_cash (elapsed_of x) (λ k. width_of x j - loss_of x j k))

-- Paid on survival too.
abbrev pub elapsed_on_survival : Engine
elapsed_on_survival = back_elapsed (λ x j s k m. elapsed_payment (elapsed_of x s) (outstanding_of x j k) (outstanding_of x j (suc k)))

-- Paid only into a step that is a premium date, or only into one that is none.
abbrev pub elapsed_on_dates : Engine
elapsed_on_dates = back_elapsed (λ x j s k m. cond (eqb (accrual_of x s) 0) 0 (elapsed_cash (elapsed_of x) (outstanding_of x j) s k m))

abbrev pub elapsed_off_dates : Engine
elapsed_off_dates = back_elapsed (λ x j s k m. cond (eqb (accrual_of x s) 0) (elapsed_cash (elapsed_of x) (outstanding_of x j) s k m) 0)

-- Of the tranches alone.
abbrev pub elapsed_not_of_index : Engine
elapsed_not_of_index = back_elapsed (λ x j s k m. cond (ltb j x.tranches) (elapsed_cash (elapsed_of x) (outstanding_of x j) s k m) 0)

-- One rounding for both premiums of a step.
abbrev pub elapsed_rounded_together : Engine
elapsed_rounded_together = back_premiums (λ x j s k m. half ((premium_of x j).exactly s k m))

-- A default pays it in place of the premium of the date.
abbrev elapsed_instead : Terms → ℕ → Cash
elapsed_instead x j s k default = elapsed_payment (elapsed_of x s) (outstanding_of x j k) (outstanding_of x j (suc k))
elapsed_instead x j s k survive = premium_payment (accrual_of x s) (outstanding_of x j k)

abbrev pub elapsed_for_date : Engine
elapsed_for_date = back_premiums elapsed_instead

-- It is paid to the other side, with what the default pays.
abbrev pub elapsed_in_defaults : Engine
elapsed_in_defaults =
    back_legs (λ x j. besides (default_of x j) (elapsed_leg (elapsed_of x) (outstanding_of x j))) (λ x j. date_leg (accrual_of x) (outstanding_of x j))

-- ---- value

-- A tenth of W's factor.
abbrev pub net_factor_short : Engine
net_factor_short = value_nets (λ x j d a. pos (1_000_000 * d) -ℤ pos (get_or x.coupons j 0 * a))

-- W with D and A exchanged, and W with its sign turned.
abbrev pub net_legs_exchanged : Engine
net_legs_exchanged = value_nets (λ x j d a. net_value a (get_or x.coupons j 0) d)

abbrev pub net_reversed : Engine
net_reversed = value_nets (λ x j d a. pos (get_or x.coupons j 0 * a) -ℤ pos (10_000_000 * d))

-- D for A, beside the right W.
abbrev pub default_for_premium : Engine
default_for_premium =
    value_by (λ x g w l j k.
    by_answer (ours.value x g w l j k)
    (with_said (ours.value x g w l j k)
    (says (pos (node_in x.sheet l.defaults j k) ∷ pos (node_in x.sheet l.defaults j k)
    ∷ net_value (node_in x.sheet l.defaults j k) (get_or x.coupons j 0) (node_in x.sheet l.premiums j k) ∷ [])))
    (ours.value x g w l j k))

-- ---- hedge ratio

-- Jumps by another rule of the coupon and the nodes before and after the default.
abbrev jump_by : (ℕ → Node → Node → ℤ) → Brought → Rows → ℕ → ℕ → ℤ
jump_by rule x l j k = rule (get_or x.coupons j 0) (node_of x.sheet l j k) (node_of x.sheet l j (suc k))

abbrev ratio_of_jumps : (ℕ → Node → Node → ℤ) → Engine
ratio_of_jumps rule = ratio_of_rows (λ x l j k. ratio_of (jump_by rule x l j k) (jump_by rule x l x.sheet.tranches k))

-- J of the three changes.
abbrev changed : ℕ → ℤ → ℤ → ℤ → ℤ
changed coupon loss d a = pos 10_000_000 *ℤ (loss +ℤ d) -ℤ pos coupon *ℤ a

abbrev pub loss_reversed : Engine
loss_reversed =
    ratio_of_jumps (λ c m n. changed c (change_of n.loss m.loss) (change_of m.default n.default) (change_of m.premium n.premium))

abbrev pub default_reversed : Engine
default_reversed =
    ratio_of_jumps (λ c m n. changed c (change_of m.loss n.loss) (change_of n.default m.default) (change_of m.premium n.premium))

abbrev pub premium_reversed : Engine
premium_reversed =
    ratio_of_jumps (λ c m n. changed c (change_of m.loss n.loss) (change_of m.default n.default) (change_of n.premium m.premium))

abbrev pub premium_left_out : Engine
premium_left_out = ratio_of_jumps (λ c m n. jump_of 0 m n)

-- The index's jump with the tranche's coupon.
abbrev pub tranche_coupon : Engine
tranche_coupon =
    ratio_of_rows (λ x l j k.
    ratio_of (jump x l j k)
    (jump_of (get_or x.coupons j 0) (node_of x.sheet l x.sheet.tranches k) (node_of x.sheet l x.sheet.tranches (suc k))))

-- The size of a ratio by another rounding.
abbrev ratio_of_sizes : (ℕ → ℕ → ℕ) → Engine
ratio_of_sizes size =
    ratio_of_rows (λ x l j k.
    with_sign (unlike (negative (jump x l j k)) (negative (jump x l x.sheet.tranches k)))
    (size (nat_abs (jump x l j k)) (nat_abs (jump x l x.sheet.tranches k))))

abbrev pub ten_thousandths : Engine
ten_thousandths = ratio_of_sizes (λ s d. (2 * (s * 10_000) + d) / (2 * d))

-- A half rounded to the even neighbour: q is the ratio rounded down.
abbrev to_even : ℕ → ℕ → ℕ → ℕ
to_even s d q = cond (eqb (2 * (s * 1_000_000)) (2 * (q * d) + d)) (q + q % 2) (millionths s d)

abbrev pub half_to_even : Engine
half_to_even = ratio_of_sizes (λ s d. to_even s d (s * 1_000_000 / d))

-- ---- forward

-- An accepted forward fills the row by a rule of the sheet, the lent row and the step.
abbrev forward_row : (Terms → List ℕ → ℕ → ℕ → ℕ) → Engine
forward_row f =
    forward_by (λ x g q i.
    cond (accepted (ours.forward x g q i).said)
    (record { said = says []; row = tab (x.sheet.names + 1) (f x.sheet q i) }) (ours.forward x g q i))

-- Q(k) after some steps by a rule, from a row.
unfoldable pub distribution_by : (ℕ → (ℕ → ℕ) → ℕ → ℕ) → (ℕ → ℕ) → ℕ → ℕ → ℕ
distribution_by step q zero k = q k
distribution_by step q (suc i) k = step (suc i) (distribution_by step q i) k

abbrev first : ℕ → ℕ
first k = B * same 0 k

-- Moves by another rounding, and by other chances.
abbrev moves_by : (ℕ → ℕ) → (Terms → ℕ → ℕ → ℕ) → Terms → ℕ → (ℕ → ℕ) → ℕ → ℕ
moves_by round hazard x s q k = q k - round (q k * hazard x s k) + from_below (λ c. round (q c * hazard x s c)) k

abbrev moves : (ℕ → ℕ) → Terms → ℕ → (ℕ → ℕ) → ℕ → ℕ
moves round = moves_by round hazard_of

abbrev pub moves_down : Engine
moves_down = forward_row (λ x q. distribution_by (moves (λ y. y / B) x) first)

-- Only a half rounded down.
abbrev pub half_moves_down : Engine
half_moves_down = forward_row (λ x q. distribution_by (moves (λ y. (y + 499_999_999) / B) x) first)

-- The last count loses what the chance of the one before it would move from it.
abbrev pub moves_past_last : Engine
moves_past_last =
    forward_row (λ x q. distribution_by (λ s p k. pushed (tree_of x) s p k - cond (eqb k x.names) (half (p k * hazard_of x s (pred k))) 0) first)

-- Each move by the period of the step moved from.
abbrev pub forward_moved_from : Engine
forward_moved_from = forward_row (λ x q. distribution_by (moves_by half (in_period (λ y s. period_of y.starts (pred s))) x) first)

-- What moves is lost.
abbrev pub moves_lost : Engine
moves_lost = forward_row (λ x q. distribution_by (λ s p k. p k - outflow (tree_of x) s p k) first)

-- Nothing moves: all of B stays at the count 0.
abbrev pub nothing_moves : Engine
nothing_moves = forward_row (λ x q i. first)

-- From the lent row.
abbrev pub from_lent_row : Engine
from_lent_row = forward_row (λ x q. distribution_by (pushed (tree_of x)) (λ k. get_or q k 0))

-- ---- none of them

-- Demand 3: the fault shows in a list of calls. The rules: it shows in a hedge ratio or a distribution.
pub record NoneFigures : Type 0 where
  pub recovery_ignored : Demand3 recovery_ignored → ⊥
  pub discount_before : Demand3 discount_before → ⊥
  pub accrual_before : Demand3 accrual_before → ⊥
  pub elapsed_moved_from : Demand3 elapsed_moved_from → ⊥
  pub premium_every_step : Demand3 premium_every_step → ⊥
  pub moves_exchanged : Demand3 moves_exchanged → ⊥
  pub hazard_of_next : Demand3 hazard_of_next → ⊥
  pub past_last_count : Demand3 past_last_count → ⊥
  pub period_moved_from : Demand3 period_moved_from → ⊥
  pub first_period : Demand3 first_period → ⊥
  pub last_period : Demand3 last_period → ⊥
  pub next_period : Demand3 next_period → ⊥
  pub starts_from_zero : Demand3 starts_from_zero → ⊥
  pub laid_by_count : Demand3 laid_by_count → ⊥
  pub legs_exchanged : Demand3 legs_exchanged → ⊥
  pub default_unpaid : Demand3 default_unpaid → ⊥
  pub default_in_premiums : Demand3 default_in_premiums → ⊥
  pub premium_in_defaults : Demand3 premium_in_defaults → ⊥
  pub lower_ignored : Demand3 lower_ignored → ⊥
  pub loss_uncapped : Demand3 loss_uncapped → ⊥
  pub loss_rounded_up : Demand3 loss_rounded_up → ⊥
  pub index_rounded_down : Demand3 index_rounded_down → ⊥
  pub index_by_names : Demand3 index_by_names → ⊥
  pub top_not_shrunk : Demand3 top_not_shrunk → ⊥
  pub shrunk_from_below : Demand3 shrunk_from_below → ⊥
  pub recovered_from_each : Demand3 recovered_from_each → ⊥
  pub recovery_rounded_up : Demand3 recovery_rounded_up → ⊥
  pub premium_after_roll : Demand3 premium_after_roll → ⊥
  pub premium_after_chance : Demand3 premium_after_chance → ⊥
  pub elapsed_unpaid : Demand3 elapsed_unpaid → ⊥
  pub elapsed_on_before : Demand3 elapsed_on_before → ⊥
  pub elapsed_on_after : Demand3 elapsed_on_after → ⊥
  pub elapsed_rounded_down : Demand3 elapsed_rounded_down → ⊥
  pub elapsed_on_loss : Demand3 elapsed_on_loss → ⊥
  pub elapsed_on_survival : Demand3 elapsed_on_survival → ⊥
  pub elapsed_on_dates : Demand3 elapsed_on_dates → ⊥
  pub elapsed_off_dates : Demand3 elapsed_off_dates → ⊥
  pub elapsed_not_of_index : Demand3 elapsed_not_of_index → ⊥
  pub elapsed_rounded_together : Demand3 elapsed_rounded_together → ⊥
  pub elapsed_for_date : Demand3 elapsed_for_date → ⊥
  pub elapsed_in_defaults : Demand3 elapsed_in_defaults → ⊥
  pub net_factor_short : Demand3 net_factor_short → ⊥
  pub net_legs_exchanged : Demand3 net_legs_exchanged → ⊥
  pub net_reversed : Demand3 net_reversed → ⊥
  pub default_for_premium : Demand3 default_for_premium → ⊥
  pub loss_reversed : Rules loss_reversed → ⊥
  pub default_reversed : Rules default_reversed → ⊥
  pub premium_reversed : Rules premium_reversed → ⊥
  pub premium_left_out : Rules premium_left_out → ⊥
  pub tranche_coupon : Rules tranche_coupon → ⊥
  pub ten_thousandths : Rules ten_thousandths → ⊥
  pub half_to_even : Rules half_to_even → ⊥
  pub moves_down : Rules moves_down → ⊥
  pub half_moves_down : Rules half_moves_down → ⊥
  pub moves_past_last : Rules moves_past_last → ⊥
  pub forward_moved_from : Rules forward_moved_from → ⊥
  pub moves_lost : Rules moves_lost → ⊥
  pub nothing_moves : Rules nothing_moves → ⊥
  pub from_lent_row : Rules from_lent_row → ⊥

-- ---- the families with nothing changed

-- Each is ours on the uneven pool, with elapsed fractions or without, the deck or the pool that is recovered from, so that the fault of an engine
-- above is the one it is named for.
pub record Unchanged : Type 0 where
  pub sheet : end (back_on (λ x. x)) unevenly_run ≡ end ours unevenly_run
  pub chances : end (back_chances hazard_of) whole_run ≡ end ours whole_run
  pub periods : end (back_chances (in_period (λ x. period_of x.starts))) periods_run ≡ end ours periods_run
  pub forward_periods : (forward_row (λ x q. distribution_by (moves_by half (in_period (λ y. period_of y.starts)) x) first)).forward
      (changing.sheet 7) live (replicate 3 5) 3 ≡ ours.forward (changing.sheet 7) live (replicate 3 5) 3
  pub legs : end (back_legs default_of premium_of) unevenly_run ≡ end ours unevenly_run
  pub losses : end (back_losses loss_of) unevenly_run ≡ end ours unevenly_run
  pub losses_at_the_top : end (back_losses loss_of) topped_run ≡ end ours topped_run
  pub outstandings : end (back_outstandings outstanding_of) topped_run ≡ end ours topped_run
  pub index : end (back_index (λ x. outstanding_of x x.tranches)) topped_run ≡ end ours topped_run
  pub tranches : end (back_tranches tranche_outstanding) topped_run ≡ end ours topped_run
  pub premiums : end (back_premiums (λ x j. (premium_of x j).rounded)) unevenly_run ≡ end ours unevenly_run
  pub elapsed : end (back_elapsed (up_to elapsed_payment)) unevenly_run ≡ end ours unevenly_run
  pub nets : (value_nets (λ x j d a. net_value d (get_or x.coupons j 0) a)).value (deck.sheet 7) root.register root.walk root.rows 0 0
      ≡ ours.value (deck.sheet 7) root.register root.walk root.rows 0 0
  pub jumps : (ratio_of_jumps jump_of).ratio (deck.sheet 7) root.register root.walk root.rows 0 0 ≡ ratio_on root.rows 0 0
  pub sizes : (ratio_of_sizes millionths).ratio (deck.sheet 7) root.register root.walk root.rows 0 0 ≡ ratio_on root.rows 0 0
  pub moves : (forward_row (λ x q. distribution_by (moves half x) first)).forward (whole.sheet 7) root.register (replicate 4 5) 2
      ≡ ours.forward (whole.sheet 7) root.register (replicate 4 5) 2

-- ---- bounds that need their factor

-- The eight units and the one tranche that spans them, each in a list of its own.
abbrev pub units_catalogue : Catalogue
units_catalogue = catalogue_of units (replicate 9 0)

abbrev pub spanned_catalogue : Catalogue
spanned_catalogue = catalogue_of (spanning units) (replicate 2 0)

abbrev pub units_run : Run
units_run = blank_run units_catalogue used (issue 5 ∷ opening 5 (other_rows (constant_rows 18 0)) ∷ back 5 same_rows 1 ∷ [])

abbrev pub spanned_run : Run
spanned_run = blank_run spanned_catalogue used (issue 7 ∷ opening 7 (other_rows (constant_rows 4 0)) ∷ back 7 same_rows 1 ∷ [])

-- Their legs do not add to those of the one within the distances alone, h = 1 and (doubled) 2 h + q + f = 3: demand 3 needs a factor above 1.
pub record FactorNeeded : Type 0 where
  pub within : Limits (units_catalogue.sheet 5)
  pub walked : Walked ours units_run 5 1
  pub spanned_walked : Walked ours spanned_run 7 1
  pub halves : premium_halves units 1 0 ≡ 3
  pub defaults : ¬ (Near (1 * 1) (sum_to 8 (λ j. held_d ours units_run units j 0)) (held_d ours spanned_run (spanning units) 0 0))
  pub premiums : ¬ (Near (1 * 3) (2 * sum_to 8 (λ j. held_a ours units_run units j 0)) (2 * held_a ours spanned_run (spanning units) 0 0))

-- The slivers of a whole pool: their premium legs do not add to the index's within one distance, 3 (doubled).
abbrev pub slivers_catalogue : Catalogue
slivers_catalogue = catalogue_of slivers (replicate 9 0)

abbrev pub slivers_run : Run
slivers_run = blank_run slivers_catalogue used (issue 5 ∷ opening 5 (other_rows (constant_rows 18 0)) ∷ back 5 same_rows 1 ∷ [])

pub record IndexFactorNeeded : Type 0 where
  pub within : Limits (slivers_catalogue.sheet 5)
  pub points : WholePool slivers
  pub walked : Walked ours slivers_run 5 1
  pub halves : premium_halves slivers 1 0 ≡ 3
  pub premiums : ¬ (Near (1 * 3) (2 * sum_to 8 (λ j. held_a ours slivers_run slivers j 0)) (2 * held_a ours slivers_run slivers 8 0))

-- A step whose roundings all add.
abbrev pub halves_catalogue : Catalogue
halves_catalogue = catalogue_of four_halves (replicate 2 0)

abbrev pub halves_run : Run
halves_run = blank_run halves_catalogue used (issue 7 ∷ opening 7 same_rows ∷ back 7 same_rows 1 ∷ [])

-- Its premium leg lies nearly 2 units from the exact value, which 2 h + q + f = 4 (doubled) allows and 2 h + q = 3 does not.
-- The exact value needs the premium up to a default: without it the deck's premium leg lies further from it than the distance.
pub record ElapsedHalfNeeded : Type 0 where
  pub within : Limits (halves_catalogue.sheet 7)
  pub walked : Walked ours halves_run 7 1
  pub dates : dates four_halves 1 0 ≡ 1
  pub elapsed : elapsed_count four_halves 1 0 ≡ 1
  pub halves : premium_halves four_halves 1 0 ≡ 4
  pub premium : ¬ (Near (3 * B ^ 3) (2 * (held_a ours halves_run four_halves 1 0 * B ^ 3)) (2 * exact_a four_halves 1 1 0 0))
  pub path_sum : ¬ (Near (premium_halves worked_earning 2 0 * B ^ 5) (2 * (held_a ours earning_run worked_earning 0 0 * B ^ 5))
      (2 * leg_exact (tree_of worked_earning) (date_leg (accrual_of worked_earning) (outstanding_of worked_earning 0)) 2 0 0))

-- A billionth of a year on either half of the pool is rounded up to a unit: the premium of the date, and that of the default.
abbrev pub two_units : Catalogue
two_units =
    catalogue_of
    (record {
      names = 2;
      steps = 1;
      tranches = 1;
      recovery = 0;
      attachments = 0 ∷ 1_000_000_000 ∷ [];
      starts = 1 ∷ [];
      hazards = 1_000_000_000 ∷ 0 ∷ [];
      discounts = 1_000_000_000 ∷ [];
      accruals = 1 ∷ [];
      elapsed = 1 ∷ [];
    }) (replicate 2 0)

abbrev pub two_units_run : Run
two_units_run = blank_run two_units used (issue 7 ∷ opening 7 same_rows ∷ back 7 same_rows 1 ∷ [])

-- So a walk leads above the accruals to come, which were the ceiling before T-01, and its rows are still taken.
pub record CeilingNeeded : Type 0 where
  pub within : Limits (two_units.sheet 7)
  pub walked : Walked ours two_units_run 7 1
  pub over : ¬ (held_a ours two_units_run (two_units.sheet 7).sheet 1 0 ≤ sum_of (drop 0 (two_units.sheet 7).sheet.accruals))
  pub taken : answers ours two_units_run (value 7 same_rows 1 0) ≡ says (pos 500_000_000 ∷ pos 2 ∷ pos 5_000_000_000_000_000 ∷ [])

-- The errors of a distribution may total more than a unit a step, so that i alone is no bound: it needs a factor.
pub record NamesNeeded : Type 0 where
  pub within : Limits ((catalogue_of drifting (replicate 2 0)).sheet 7)
  pub errors : ¬ (errors (tree_of drifting) 3 ≤ 3 * B ^ 3)
