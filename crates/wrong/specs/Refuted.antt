-- Which part of the promise rules out each wrong engine. Proved in proofs/Refuted.antt.
use Rattle.std.specs.Prelude.{ℕ, ◌≡◌, true, false, List}
use Rattle.sheet.specs.Brought.{Brought}
use Rattle.rows.specs.Rows.{Rows}
use Rattle.walk.specs.declared.Walk.{Walk}
use Rattle.walk.specs.RefusalOrders.{issue_order, withdraw_order, value_order, forward_order, is_early}
use Rattle.walk.specs.Engine.{Engine}
use Rattle.walk.specs.CallLists.{State}
use Rattle.walk.specs.Power.{Event, Forever, Clears}
use Rattle.walk.specs.Promise.{Rules, Demand3}
use Rattle.wrong.specs.Substitutes.{always_live, issued_again, byte_left, bits_set, other_byte_written, refused_stores, all_refused}
use Rattle.wrong.specs.Substitutes.{exchanged_numbers, withdrawn_first, not_cleared, refused_zeroes, refused_closes, unissued_taken, rows_left}
use Rattle.wrong.specs.Substitutes.{one_figure, root_at_once, one_rounding, rounded_down, count_before, premium_rounded_down, index_by_loss}
use Rattle.wrong.specs.Substitutes.{position_made_up, step_early, zero_refused, refused_moves, closed_at_root, one_answer, first_coupon, net_unsigned}
use Rattle.wrong.specs.Substitutes.{value_zeroes, withdrawn_answered, value_zero_alone, withdrawn_unissued, refused_tells, other_length, zero_alone}
use Rattle.wrong.specs.Substitutes.{upside_down, sign_lost, rest_cut, half_upwards, payment_lost, flat_for_scale, ratio_answered, step_short, in_place}
use Rattle.wrong.specs.Substitutes.{walk_above, refused_writes, forward_answered}
use Rattle.wrong.specs.Checks.{Value, skipping}

-- Value takes entries over their ceilings, and answers by them.
abbrev pub ceilings_passed : Engine
ceilings_passed = skipping Value 12

-- What is early in the orders of four calls, at any operands: 9, and 21 and 25 where a sheet is brought, and not what stands behind 9.
pub record EarlyNumbers : Type 0 where
  pub value_21 : (x : Brought) (g : List ℕ) (w : Walk) (l : Rows) (j k : ℕ) → is_early (value_order x g w l j k) 21 ≡ true
  pub value_25 : (x : Brought) (g : List ℕ) (w : Walk) (l : Rows) (j k : ℕ) → is_early (value_order x g w l j k) 25 ≡ true
  pub value_9 : (x : Brought) (g : List ℕ) (w : Walk) (l : Rows) (j k : ℕ) → is_early (value_order x g w l j k) 9 ≡ true
  pub value_10 : (x : Brought) (g : List ℕ) (w : Walk) (l : Rows) (j k : ℕ) → is_early (value_order x g w l j k) 10 ≡ false
  pub value_11 : (x : Brought) (g : List ℕ) (w : Walk) (l : Rows) (j k : ℕ) → is_early (value_order x g w l j k) 11 ≡ false
  pub value_14 : (x : Brought) (g : List ℕ) (w : Walk) (l : Rows) (j k : ℕ) → is_early (value_order x g w l j k) 14 ≡ false
  pub forward_21 : (x : Brought) (g row : List ℕ) (i : ℕ) → is_early (forward_order x g row i) 21 ≡ true
  pub forward_25 : (x : Brought) (g row : List ℕ) (i : ℕ) → is_early (forward_order x g row i) 25 ≡ true
  pub forward_13 : (x : Brought) (g row : List ℕ) (i : ℕ) → is_early (forward_order x g row i) 13 ≡ false
  pub withdraw_10 : (g : List ℕ) (y : ℕ) → is_early (withdraw_order g y) 10 ≡ false
  pub issue_17 : (g : List ℕ) (y : ℕ) → is_early (issue_order g y) 17 ≡ false
  pub issue_21 : (g : List ℕ) (y : ℕ) → is_early (issue_order g y) 21 ≡ false
  pub issue_25 : (g : List ℕ) (y : ℕ) → is_early (issue_order g y) 25 ≡ false

-- The power, of every list of events, and what a write clears: two parts of the whole promise (`Keeps`).
abbrev pub Power : Engine → Type 0
Power e = (start : State) (l : List Event) → Forever e start l

abbrev pub Clearing : Engine → Type 0
Clearing e = (g : List ℕ) (y : ℕ) → Clears e g y

-- Demand 3: the fault shows in a list of calls from a blank register, a fresh walk and rows of any content.
-- The power: it shows where a withdrawn number is asked again. The clearing: in the bytes that an issue or a withdraw leaves.
-- The rules: it shows in a hedge ratio or a distribution, or at a register or a walk that no such list leaves.
pub record NoneKeeps : Type 0 where
  pub always_live_lem : Demand3 always_live → ⊥
  pub issued_again_lem : Demand3 issued_again → ⊥
  pub byte_left_lem : Demand3 byte_left → ⊥
  pub issued_again_later : Power issued_again → ⊥
  pub byte_left_later : Power byte_left → ⊥
  pub bits_set_later : Power bits_set → ⊥
  pub zero_alone_later : Power zero_alone → ⊥
  pub withdrawn_unissued_later : Power withdrawn_unissued → ⊥
  pub refused_tells_later : Power refused_tells → ⊥
  pub ratio_answered_later : Power ratio_answered → ⊥
  pub forward_answered_later : Power forward_answered → ⊥
  pub bits_set : Clearing bits_set → ⊥
  pub other_byte_written : Clearing other_byte_written → ⊥
  pub refused_stores_byte : Clearing refused_stores → ⊥
  pub refused_stores : Demand3 refused_stores → ⊥
  pub all_refused : Demand3 all_refused → ⊥
  pub exchanged_numbers : Demand3 exchanged_numbers → ⊥
  pub withdrawn_first : Demand3 withdrawn_first → ⊥
  pub not_cleared : Demand3 not_cleared → ⊥
  pub refused_zeroes : Demand3 refused_zeroes → ⊥
  pub refused_closes : Demand3 refused_closes → ⊥
  pub unissued_taken : Demand3 unissued_taken → ⊥
  pub rows_left : Demand3 rows_left → ⊥
  pub one_figure : Demand3 one_figure → ⊥
  pub root_at_once : Demand3 root_at_once → ⊥
  pub one_rounding : Demand3 one_rounding → ⊥
  pub rounded_down : Demand3 rounded_down → ⊥
  pub count_before : Demand3 count_before → ⊥
  pub premium_rounded_down : Demand3 premium_rounded_down → ⊥
  pub index_by_loss : Demand3 index_by_loss → ⊥
  pub position_made_up : Demand3 position_made_up → ⊥
  pub step_early : Demand3 step_early → ⊥
  pub zero_refused : Demand3 zero_refused → ⊥
  pub refused_moves : Demand3 refused_moves → ⊥
  pub closed_at_root : Demand3 closed_at_root → ⊥
  pub one_answer : Demand3 one_answer → ⊥
  pub first_coupon : Demand3 first_coupon → ⊥
  pub net_unsigned : Demand3 net_unsigned → ⊥
  pub value_zeroes : Demand3 value_zeroes → ⊥
  pub withdrawn_answered : Demand3 withdrawn_answered → ⊥
  pub refused_tells : Demand3 refused_tells → ⊥
  pub ceilings_passed : Demand3 ceilings_passed → ⊥
  pub other_length : Rules other_length → ⊥
  pub zero_alone : Rules zero_alone → ⊥
  pub value_zero_alone : Rules value_zero_alone → ⊥
  pub walk_above : Rules walk_above → ⊥
  pub upside_down : Rules upside_down → ⊥
  pub sign_lost : Rules sign_lost → ⊥
  pub rest_cut : Rules rest_cut → ⊥
  pub half_upwards : Rules half_upwards → ⊥
  pub payment_lost : Rules payment_lost → ⊥
  pub flat_for_scale : Rules flat_for_scale → ⊥
  pub step_short : Rules step_short → ⊥
  pub in_place : Rules in_place → ⊥
  pub refused_writes : Rules refused_writes → ⊥
