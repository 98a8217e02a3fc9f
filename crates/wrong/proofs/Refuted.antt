-- No wrong engine keeps the promise: a list of calls on a small sheet, and the part of the promise that fails where it ends.
use Rattle.std.proofs.Common.{ℕ, ◌+◌, ◌-◌, ◌*◌, ◌≡◌, refl, sym, ap, subst, Bool, true, false, cond, true≢false, List, [], ◌∷◌, ◌⊎◌, inl, inr, arith}
use Rattle.std.proofs.Common.{length, replicate, get_or, set, T, eqb, le→leb, lit≤, ℤ, pos, negsuc}
use mathlib.Core.Option.{some}
use lib.Dec.{eqb_refl}
use Rattle.register.specs.Rules.{Unissued, Live}
use Rattle.register.specs.Events.{blank_register}
use Rattle.sheet.specs.Terms.{Terms}
use Rattle.tree.specs.Trials.{worked, uneven_pool}
use Rattle.sheet.specs.Brought.{Brought}
use Rattle.walk.specs.declared.Walk.{Walk}
use Rattle.rows.specs.Rows.{Rows}
use Rattle.walk.specs.Answers.{fresh, Said}
use Rattle.walk.specs.RefusalOrders.{is_early, RefusalOrder, Judges}
use Rattle.walk.specs.CallRules.{BackStep, BackSteps}
use Rattle.walk.specs.Engine.{Engine}
use Rattle.walk.specs.CallLists.{own_rows, other_rows, Call, issue, withdraw, opening, back, value, State, Catalogue, blank_state, history}
use Rattle.walk.specs.Power.{call, Event, returned, event_leaves, withdrew, state_after_events, ever_withdrew}
use Rattle.walk.specs.Accuracy.{WalkAccuracy}
use Rattle.walk.specs.Promise.{Rules, Demand3, blank_run}
use Rattle.wrong.specs.Substitutes.{always_live, issued_again, byte_left, bits_set, other_byte_written, refused_stores, all_refused, exchanged_numbers, withdrawn_first, not_cleared, refused_zeroes, refused_closes, unissued_taken, other_length, zero_alone, rows_left, one_figure, root_at_once, one_rounding, rounded_down, count_before, premium_rounded_down, index_by_loss, position_made_up, step_early, zero_refused, refused_moves, closed_at_root, one_answer, first_coupon, net_unsigned, value_zeroes, withdrawn_answered, value_zero_alone, withdrawn_unissued, refused_tells, walk_above, upside_down, sign_lost, rest_cut, half_upwards, payment_lost, flat_for_scale, ratio_answered, step_short, in_place, refused_writes, forward_answered}
use Rattle.wrong.specs.Refuted.{ceilings_passed, EarlyNumbers, Power, Clearing, NoneKeeps}
use Rattle.wrong.specs.Examples.{catalogue_of, constant_rows, deck, used, to_root, whole, elsewhere, live, walk_at}
use Rattle.wrong.proofs.Computing.{computed}

-- ---- what an order says of an answer

either : (b : Bool) (P Q : Type 0) → P → Q → cond b P Q
either true P Q p q = p
either false P Q p q = q

passed : (b : Bool) (P Q : Type 0) → T b → P → cond b P Q
passed true P Q t p = p
passed false P Q t p = absurd t

hit : (b : Bool) (P Q : Type 0) → T b → cond b P Q → P
hit true P Q t p = p
hit false P Q t q = absurd t

rest : (b : Bool) (P Q : Type 0) → cond b (P × Q) Q → Q
rest true P Q h = h.1
rest false P Q h = h

-- The rule numbered m, where it stands before a rule numbered n.
abbrev Earlier : RefusalOrder → ℕ → ℕ → Type 0
Earlier [] m n = Unit {0}
Earlier (t ∷ l) m n = cond (eqb t.1 n) (Unit {0}) (cond (eqb t.1 m) t.0 (Earlier l m n))

-- It is kept by a call that is answered n.
kept : (l : RefusalOrder) (a : Said) → Judges l a → (m : ℕ) → Earlier l m a.number
unfolding Judges
kept [] a p m = tt
kept (t ∷ l) a (inl (k, e)) m = subst (λ s. Earlier (t ∷ l) m s.number) (sym e) (passed (eqb t.1 t.1) _ _ (eqb_refl t.1) tt)
kept (t ∷ l) a (inr (p, q)) m = either (eqb t.1 a.number) _ _ tt (either (eqb t.1 m) _ _ p (kept l a q m))

-- The rules numbered n.
abbrev Own : RefusalOrder → ℕ → Type 0
Own [] n = Unit {0}
Own (t ∷ l) n = cond (eqb t.1 n) (t.0 × Own l n) (Own l n)

-- A call that keeps them is not refused with n.
own : (l : RefusalOrder) (a : Said) → Judges l a → Own l a.number → a.number ≡ 0
unfolding Judges
own [] a p h = p
own (t ∷ l) a (inl (k, e)) h = absurd (k (hit (eqb t.1 t.1) _ _ (eqb_refl t.1) (subst (λ s. Own (t ∷ l) s.number) e h)).0)
own (t ∷ l) a (inr (p, q)) h = own l a q (rest (eqb t.1 a.number) _ _ h)

-- A figure of an answer; figures of either sign are told apart.
abbrev code : ℤ → ℕ
code (pos n) = 2 * n
code (negsuc n) = 2 * n + 1

abbrev pub figure : ℕ → Said → ℕ
figure i s = code (get_or s.values i (pos 0))

-- ---- lists

abbrev pub opened : List Call → List Call
opened l = issue 7 ∷ opening 7 (other_rows used) ∷ l

-- What demand 3 finds of a list that opens the number 7 and walks h steps back.
pub found : {e : Engine} → Demand3 e → (k : Catalogue) (l : List Call) (h : ℕ) → (history e (blank_run k used l)).opened ≡ some 7 →
    (history e (blank_run k used l)).walked ≡ h → (history e (blank_run k used l)).own ≡ true → WalkAccuracy e (blank_run k used l) (k.sheet 7) h
unfolding blank_run
found d k l h p q r = (d k used l).owed.found 7 h (record { opened = p; walked = q; own = r })

-- ---- issue and withdraw

not_always_live : Demand3 always_live → ⊥
unfolding computed
not_always_live d = omega (arith, own _ _ ((d deck used []).serves.ruled (issue 7)).judged (λ v. omega (arith, v.byte), tt))

-- A number withdrawn in a list is answered by value.
not_issued_again : Demand3 issued_again → ⊥
unfolding computed
not_issued_again d =
    true≢false ((d deck used (issue 7 ∷ withdraw 7 ∷ issue 7 ∷ opening 7 (other_rows used) ∷ [])).owed.hidden 7 refl own_rows 0 0).refused

not_byte_left : Demand3 byte_left → ⊥
unfolding computed
not_byte_left d = true≢false ((d deck used (opened (withdraw 7 ∷ []))).owed.hidden 7 refl own_rows 0 0).refused

-- Issued and withdrawn.
abbrev ended : List Event
ended = returned deck (call (issue 7)) ∷ returned deck (call (withdraw 7)) ∷ []

not_issued_again_later : Power issued_again → ⊥
unfolding computed ever_withdrew withdrew event_leaves state_after_events
not_issued_again_later p = true≢false ((p (blank_state used) ended).shut 7 refl).issue.0.refused

not_byte_left_later : Power byte_left → ⊥
unfolding computed ever_withdrew withdrew event_leaves state_after_events
not_byte_left_later p = true≢false ((p (blank_state used) ended).shut 7 refl).withdraw.0.refused

not_bits_set_later : Power bits_set → ⊥
unfolding computed ever_withdrew withdrew event_leaves state_after_events
not_bits_set_later p = true≢false ((p (blank_state used) ended).shut 7 refl).issue.0.refused

not_bits_set : Clearing bits_set → ⊥
unfolding computed
not_bits_set p = true≢false (sym ((p (set blank_register 7 0xA5) 7).withdraw.byte refl))

not_other_byte_written : Clearing other_byte_written → ⊥
unfolding computed
not_other_byte_written p = omega (arith, (p (set blank_register 0 0x00) 7).issue.others 0 (λ e. omega (arith, e)))

not_refused_stores_byte : Clearing refused_stores → ⊥
unfolding computed
not_refused_stores_byte p = omega (arith, ap (λ (g : List ℕ). get_or g 7 0) ((p blank_register 7).withdraw.refused refl))

not_refused_stores : Demand3 refused_stores → ⊥
unfolding computed
not_refused_stores d = omega (arith, ap (λ (s : State). get_or s.register 7 0) ((d deck used []).serves.untouched (withdraw 7) refl))

-- ---- open

-- One name, one step, one tranche.
abbrev small : ℕ → List ℕ → Catalogue
small recovery attachments =
    catalogue_of (record {
      names = 1;
      steps = 1;
      tranches = 1;
      recovery = recovery;
      attachments = attachments;
      starts = 1 ∷ [];
      hazards = 0 ∷ [];
      discounts = 1 ∷ [];
      accruals = 1 ∷ [];
      elapsed = 0 ∷ [];
    }) (0 ∷ 0 ∷ [])

not_all_refused : Demand3 all_refused → ⊥
unfolding computed
not_all_refused d = omega (arith, own _ _ ((d deck used (issue 7 ∷ [])).serves.ruled (opening 7 own_rows)).judged (omega arith, tt))

not_exchanged_numbers : Demand3 exchanged_numbers → ⊥
unfolding computed
not_exchanged_numbers d = omega (arith, own _ _ ((d (small 0 (5 ∷ 5 ∷ [])) (constant_rows 4 0) (issue 7 ∷ [])).serves.ruled (opening 7 own_rows)).judged (lit≤ tt, tt))

not_withdrawn_first : Demand3 withdrawn_first → ⊥
unfolding computed
not_withdrawn_first d =
    omega (arith, kept _ _ ((d (small 1_000_000_001 (0 ∷ 5 ∷ [])) (constant_rows 4 0) (issue 7 ∷ withdraw 7 ∷ [])).serves.ruled (opening 7 own_rows)).judged 3)

not_not_cleared : Demand3 not_cleared → ⊥
unfolding computed
not_not_cleared d = le→leb _ _ ((found d deck (opened []) 0 refl refl refl).default_near 0 0 (lit≤ tt) (lit≤ tt)).below

not_refused_zeroes : Demand3 refused_zeroes → ⊥
unfolding computed
not_refused_zeroes d = omega (arith, ap (λ (s : State). get_or s.rows.defaults 0 0) ((d deck used []).serves.untouched (opening 7 own_rows) refl))

-- An open of a number never issued, while another is walked.
not_refused_closes : Demand3 refused_closes → ⊥
unfolding computed
not_refused_closes d = omega (arith, ap (λ (s : State). s.walk.position) ((d deck used (opened [])).serves.untouched (opening 8 own_rows) refl))

not_unissued_taken : Demand3 unissued_taken → ⊥
unfolding computed
not_unissued_taken d = omega (arith, ((d deck used []).serves.only 7 own_rows refl).2.byte)

-- ---- back

not_rows_left : Demand3 rows_left → ⊥
unfolding computed
not_rows_left d = le→leb _ _ ((found d deck to_root 2 refl refl refl).default_near 0 0 (lit≤ tt) (lit≤ tt)).above

not_one_figure : Demand3 one_figure → ⊥
unfolding computed
not_one_figure d = le→leb _ _ ((found d deck to_root 2 refl refl refl).default_near 0 1 (lit≤ tt) (lit≤ tt)).below

not_root_at_once : Demand3 root_at_once → ⊥
unfolding computed
not_root_at_once d = le→leb _ _ ((found d deck (opened (back 7 own_rows 1 ∷ [])) 1 refl refl refl).default_near 0 0 (lit≤ tt) (lit≤ tt)).below

-- Rows one step back, from a back by 1.
pub back_step : (x : Terms) (i : ℕ) (l m : Rows) → BackSteps x 1 i l m → BackStep x (i - 1) l m
unfolding BackSteps
back_step x i l m (q, s, e) = subst (BackStep x (i - 1) l) e s

abbrev opened_pool : List Call
opened_pool = issue 7 ∷ opening 7 (other_rows (constant_rows 8 0)) ∷ []

not_one_rounding : Demand3 one_rounding → ⊥
unfolding computed
not_one_rounding d =
    omega (arith, (back_step uneven_pool 2 _ _ (((d whole used opened_pool).serves.ruled (back 7 own_rows 1)).does refl).rows).premium 0 0 (lit≤ tt) (lit≤ tt))

not_rounded_down : Demand3 rounded_down → ⊥
unfolding computed
not_rounded_down d =
    omega (arith, (back_step uneven_pool 2 _ _ (((d whole used opened_pool).serves.ruled (back 7 own_rows 1)).does refl).rows).default 1 2 (lit≤ tt) (lit≤ tt))

not_count_before : Demand3 count_before → ⊥
unfolding computed
not_count_before d = le→leb _ _ ((found d deck (opened (back 7 own_rows 1 ∷ [])) 1 refl refl refl).premium_near 0 0 (lit≤ tt) (lit≤ tt)).below

not_premium_rounded_down : Demand3 premium_rounded_down → ⊥
unfolding computed
not_premium_rounded_down d =
    omega (arith, (back_step uneven_pool 2 _ _ (((d whole used opened_pool).serves.ruled (back 7 own_rows 1)).does refl).rows).premium 1 2 (lit≤ tt) (lit≤ tt))

not_index_by_loss : Demand3 index_by_loss → ⊥
unfolding computed
not_index_by_loss d = le→leb _ _ ((found d deck (opened (back 7 own_rows 1 ∷ [])) 1 refl refl refl).premium_near 1 0 (lit≤ tt) (lit≤ tt)).below

not_position_made_up : Demand3 position_made_up → ⊥
unfolding computed
not_position_made_up d =
    omega (arith, ap (λ (w : Walk). w.position) (found d deck (opened (back 7 own_rows 1 ∷ back 7 own_rows 1 ∷ [])) 2 refl refl refl).walk)

not_step_early : Demand3 step_early → ⊥
unfolding computed
not_step_early d = omega (arith, own _ _ ((d deck used (opened [])).serves.ruled (back 7 own_rows 2)).judged (lit≤ tt, tt))

not_zero_refused : Demand3 zero_refused → ⊥
unfolding computed
not_zero_refused d = omega (arith, own _ _ ((d deck used (opened [])).serves.ruled (back 7 own_rows 0)).judged (lit≤ tt, tt))

not_refused_moves : Demand3 refused_moves → ⊥
unfolding computed
not_refused_moves d = omega (arith, ap (λ (s : State). s.walk.position) ((d deck used (opened [])).serves.untouched (back 7 own_rows 3) refl))

not_closed_at_root : Demand3 closed_at_root → ⊥
unfolding computed
not_closed_at_root d = omega (arith, ap (λ (w : Walk). w.number) (found d deck to_root 2 refl refl refl).walk)

-- ---- value

not_one_answer : Demand3 one_answer → ⊥
unfolding computed
not_one_answer d = omega (arith, ap (figure 0) ((found d deck to_root 2 refl refl refl).shown 7 1 0 refl).said)

not_first_coupon : Demand3 first_coupon → ⊥
unfolding computed
not_first_coupon d = omega (arith, ap (figure 2) ((found d deck to_root 2 refl refl refl).shown 7 1 0 refl).said)

not_net_unsigned : Demand3 net_unsigned → ⊥
unfolding computed
not_net_unsigned d = omega (arith, ap (figure 2) ((found d (catalogue_of worked (10_000_000 ∷ 0 ∷ [])) to_root 2 refl refl refl).shown 7 0 0 refl).said)

not_value_zeroes : Demand3 value_zeroes → ⊥
unfolding computed
not_value_zeroes d =
    omega (arith, ap (λ (l : Rows). get_or l.defaults 0 0) (((d deck used to_root).serves.ruled (value 7 own_rows 0 0)).does refl).rows)

not_withdrawn_answered : Demand3 withdrawn_answered → ⊥
unfolding computed
not_withdrawn_answered d = true≢false ((d deck used (opened (withdraw 7 ∷ []))).owed.hidden 7 refl own_rows 0 0).refused

not_refused_tells : Demand3 refused_tells → ⊥
unfolding computed
not_refused_tells d = omega (arith, ap length ((d deck used (opened (withdraw 7 ∷ []))).owed.hidden 7 refl own_rows 0 0).silent)

not_withdrawn_unissued_later : Power withdrawn_unissued → ⊥
unfolding computed ever_withdrew withdrew event_leaves state_after_events is_early
not_withdrawn_unissued_later p =
    true≢false (sym (((p (blank_state used) ended).shut 7 refl).value (deck.sheet 7) (walk_at 2) (constant_rows 6 0) 0 0 refl).0.early)

not_refused_tells_later : Power refused_tells → ⊥
unfolding computed ever_withdrew withdrew event_leaves state_after_events
not_refused_tells_later p =
    omega (arith, ap length (((p (blank_state used) ended).shut 7 refl).value (deck.sheet 7) (walk_at 2) (constant_rows 6 0) 0 0 refl).0.silent)

not_ceilings_passed : Demand3 ceilings_passed → ⊥
unfolding computed
not_ceilings_passed d =
    omega (arith, (kept _ _ ((d deck used (opened [])).serves.ruled (value 7 (other_rows (constant_rows 6 300_000_001)) 0 0)).judged 12).default 0 0 (lit≤ tt) (lit≤ tt))

-- ---- what no list from a blank register shows

abbrev pub sheet : Brought
sheet = deck.sheet 7

not_other_length : Rules other_length → ⊥
unfolding computed
not_other_length r = omega (arith, (kept _ _ (r.opening sheet (replicate 8 0xA5) fresh used).judged 2).size)

-- A byte that a cut withdrawal may leave.
abbrev cut : List ℕ
cut = set blank_register 7 0x84

cut_gone : ¬ (Unissued cut 7 ⊎ Live cut 7)
unfolding computed
cut_gone (inl u) = omega (arith, u.byte)
cut_gone (inr u) = omega (arith, u.byte)

not_zero_alone : Rules zero_alone → ⊥
unfolding computed
not_zero_alone r = cut_gone (kept _ _ (r.opening sheet cut fresh used).judged 9)

not_zero_alone_later : Power zero_alone → ⊥
unfolding computed state_after_events
not_zero_alone_later p =
    true≢false (((p (record { register = cut; walk = fresh; rows = used }) []).stays 7 cut_gone).opening sheet fresh used refl).0.refused

not_value_zero_alone : Rules value_zero_alone → ⊥
unfolding computed
not_value_zero_alone r = cut_gone (kept _ _ (r.value sheet cut (walk_at 2) (constant_rows 6 0) 0 0).judged 9)

not_walk_above : Rules walk_above → ⊥
unfolding computed
not_walk_above r = omega (arith, (kept _ _ (r.value sheet live (walk_at 3) (constant_rows 6 0) 0 0).judged 11).position)

-- ---- hedge ratio

not_upside_down : Rules upside_down → ⊥
unfolding computed
not_upside_down r = omega (arith, ap (figure 0) ((r.ratio sheet live (walk_at 0) (elsewhere 0 100_000_000 0 0) 0 0).does refl).said)

not_sign_lost : Rules sign_lost → ⊥
unfolding computed
not_sign_lost r = omega (arith, ap (figure 0) ((r.ratio sheet live (walk_at 0) (elsewhere 0 400_000_000 0 0) 0 0).does refl).said)

not_rest_cut : Rules rest_cut → ⊥
unfolding computed
not_rest_cut r = omega (arith, ap (figure 0) ((r.ratio sheet live (walk_at 0) (elsewhere 299_999_999 298_000_000 0 0) 0 0).does refl).said)

not_half_upwards : Rules half_upwards → ⊥
unfolding computed
not_half_upwards r = omega (arith, ap (figure 0) ((r.ratio sheet live (walk_at 0) (elsewhere 300_000_000 298_000_000 10 0) 0 0).does refl).said)

not_payment_lost : Rules payment_lost → ⊥
unfolding computed
not_payment_lost r = omega (arith, ap (figure 0) ((r.ratio sheet live (walk_at 0) (elsewhere 0 100_000_000 0 0) 0 0).does refl).said)

not_flat_for_scale : Rules flat_for_scale → ⊥
unfolding computed
not_flat_for_scale r = kept _ _ (r.ratio sheet live (walk_at 0) (elsewhere 0 300_000_000 0 0) 0 0).judged 15 refl

not_ratio_answered_later : Power ratio_answered → ⊥
unfolding computed ever_withdrew withdrew event_leaves state_after_events
not_ratio_answered_later p = true≢false (((p (blank_state used) ended).shut 7 refl).ratio sheet (walk_at 2) (constant_rows 6 0) 0 0 refl).0.refused

-- ---- forward

not_step_short : Rules step_short → ⊥
unfolding computed
not_step_short r = omega (arith, ((r.forward sheet live (replicate 3 0) 2).does refl).row 1 (lit≤ tt))

not_in_place : Rules in_place → ⊥
unfolding computed
not_in_place r = omega (arith, ((r.forward sheet live (replicate 3 0) 1).does refl).row 2 (lit≤ tt))

not_refused_writes : Rules refused_writes → ⊥
unfolding computed
not_refused_writes r = omega (arith, ap (λ (q : List ℕ). get_or q 0 0) ((r.forward sheet blank_register (replicate 3 0) 1).leaves refl))

not_forward_answered_later : Power forward_answered → ⊥
unfolding computed ever_withdrew withdrew event_leaves state_after_events
not_forward_answered_later p = true≢false (((p (blank_state used) ended).shut 7 refl).forward sheet (replicate 3 0) 1 refl).0.refused

pub early_numbers : EarlyNumbers
unfolding is_early
early_numbers =
    record {
      value_21 = λ x g w l j k. refl;
      value_25 = λ x g w l j k. refl;
      value_9 = λ x g w l j k. refl;
      value_10 = λ x g w l j k. refl;
      value_11 = λ x g w l j k. refl;
      value_14 = λ x g w l j k. refl;
      forward_21 = λ x g row i. refl;
      forward_25 = λ x g row i. refl;
      forward_13 = λ x g row i. refl;
      withdraw_10 = λ g y. refl;
      issue_17 = λ g y. refl;
      issue_21 = λ g y. refl;
      issue_25 = λ g y. refl;
    }

pub none_keeps : NoneKeeps
none_keeps =
    record {
      always_live_lem = not_always_live;
      issued_again_lem = not_issued_again;
      byte_left_lem = not_byte_left;
      issued_again_later = not_issued_again_later;
      byte_left_later = not_byte_left_later;
      bits_set_later = not_bits_set_later;
      zero_alone_later = not_zero_alone_later;
      withdrawn_unissued_later = not_withdrawn_unissued_later;
      refused_tells_later = not_refused_tells_later;
      ratio_answered_later = not_ratio_answered_later;
      forward_answered_later = not_forward_answered_later;
      bits_set = not_bits_set;
      other_byte_written = not_other_byte_written;
      refused_stores_byte = not_refused_stores_byte;
      refused_stores = not_refused_stores;
      all_refused = not_all_refused;
      exchanged_numbers = not_exchanged_numbers;
      withdrawn_first = not_withdrawn_first;
      not_cleared = not_not_cleared;
      refused_zeroes = not_refused_zeroes;
      refused_closes = not_refused_closes;
      unissued_taken = not_unissued_taken;
      rows_left = not_rows_left;
      one_figure = not_one_figure;
      root_at_once = not_root_at_once;
      one_rounding = not_one_rounding;
      rounded_down = not_rounded_down;
      count_before = not_count_before;
      premium_rounded_down = not_premium_rounded_down;
      index_by_loss = not_index_by_loss;
      position_made_up = not_position_made_up;
      step_early = not_step_early;
      zero_refused = not_zero_refused;
      refused_moves = not_refused_moves;
      closed_at_root = not_closed_at_root;
      one_answer = not_one_answer;
      first_coupon = not_first_coupon;
      net_unsigned = not_net_unsigned;
      value_zeroes = not_value_zeroes;
      withdrawn_answered = not_withdrawn_answered;
      refused_tells = not_refused_tells;
      ceilings_passed = not_ceilings_passed;
      other_length = not_other_length;
      zero_alone = not_zero_alone;
      value_zero_alone = not_value_zero_alone;
      walk_above = not_walk_above;
      upside_down = not_upside_down;
      sign_lost = not_sign_lost;
      rest_cut = not_rest_cut;
      half_upwards = not_half_upwards;
      payment_lost = not_payment_lost;
      flat_for_scale = not_flat_for_scale;
      step_short = not_step_short;
      in_place = not_in_place;
      refused_writes = not_refused_writes;
    }
