-- What the functions of `orders` do for each order, on plain values.
use Rattle.std.proofs.Common.{ℕ, ◌≡◌, refl, sym, ap, ◌∙◌, List, arith, length}
use Rattle.register.specs.Register.{issue_answer, issue_leaves, withdraw_answer, withdraw_leaves}
use Rattle.sheet.specs.Brought.{Brought}
use Rattle.commands.specs.declared.Order.{Order}
use Rattle.commands.specs.declared.Order.TheVariants.{Issue, Withdraw, Open, Back, Value, Delta, Forward}
use Rattle.walk.specs.declared.Walk.{Walk}
use Rattle.rows.specs.Rows.{Rows, rows_of}
use Rattle.walk.specs.Answers.{Said, said_of, said_by}
use Rattle.walk.specs.Calls.{Outcome}
use Rattle.walk.specs.OurEngine.{walk_result}
use Rattle.walk.specs.CallRules.{WalkResult, ForwardResult}
use Rattle.entries.specs.Draft.{Draft}
use Rattle.machine.specs.Machine.{Machine, machine_of, RoomLengths}
use Rattle.machine.specs.Rooms.{open_in_rooms, back_in_rooms, value_in_rooms, ratio_in_rooms, said_beside, distribution_in_row}
use Rattle.machine.specs.Transitions.{Transition, call_transition, transition_of}
use Rattle.machine.specs.OrderCalls.{no_reading, reading_of, call_of}

-- ---- the call of the walk that an order makes

module _ (o : Order) (x : Brought) (register : List ℕ) (w : Walk) (rooms : Rows) {out : Outcome} {said : Said} (says : said ≡ said_of out.answer) where
  -- what a call hands over, said as an order's answer
  result_said : {to : Outcome} → out ≡ to → record { said = said; walk = out.walk; rows = out.rows } ≡ walk_result to
  result_said p = (λ j. record { said = says j; walk = out.walk; rows = out.rows }) ∙ ap walk_result p

  pub value_reads : {j k : ℕ} → o ≡ Value j k → out ≡ value_in_rooms x register w rooms j k
      → record { said = said; walk = out.walk; rows = out.rows } ≡ walk_result (reading_of o x register w rooms)
  unfolding reading_of
  value_reads q p = result_said (p ∙ sym (ap (λ (y : Order). reading_of y x register w rooms) q))

  pub delta_reads : {j k : ℕ} → o ≡ Delta j k → out ≡ ratio_in_rooms x register w rooms j k
      → record { said = said; walk = out.walk; rows = out.rows } ≡ walk_result (reading_of o x register w rooms)
  unfolding reading_of
  delta_reads q p = result_said (p ∙ sym (ap (λ (y : Order). reading_of y x register w rooms) q))

  pub open_calls : o ≡ Open → out ≡ open_in_rooms x register w rooms
      → record { said = said; walk = out.walk; rows = out.rows } ≡ walk_result (call_of o x register w rooms)
  unfolding call_of
  open_calls q p = result_said (p ∙ sym (ap (λ (y : Order). call_of y x register w rooms) q))

  pub back_calls : {c : ℕ} → o ≡ Back c → out ≡ back_in_rooms x register w rooms c
      → record { said = said; walk = out.walk; rows = out.rows } ≡ walk_result (call_of o x register w rooms)
  unfolding call_of
  back_calls q p = result_said (p ∙ sym (ap (λ (y : Order). call_of y x register w rooms) q))

-- the other orders read nothing
pub nothing_read : (o : Order) (x : Brought) (register : List ℕ) (w : Walk) (rooms : Rows) →
    ((j k : ℕ) → o ≡ Value j k → ⊥) → ((j k : ℕ) → o ≡ Delta j k → ⊥) → no_reading w rooms ≡ reading_of o x register w rooms
unfolding reading_of
nothing_read (Issue y) x register w rooms v d = refl
nothing_read (Withdraw y) x register w rooms v d = refl
nothing_read Open x register w rooms v d = refl
nothing_read (Back c) x register w rooms v d = refl
nothing_read (Value j k) x register w rooms v d = absurd (v j k refl)
nothing_read (Delta j k) x register w rooms v d = absurd (d j k refl)
nothing_read (Forward i k) x register w rooms v d = refl

-- what is neither open nor back is a reading
pub reads_call : (o : Order) (x : Brought) (register : List ℕ) (w : Walk) (rooms : Rows) →
    (o ≡ Open → ⊥) → ((c : ℕ) → o ≡ Back c → ⊥) → reading_of o x register w rooms ≡ call_of o x register w rooms
unfolding call_of
reads_call (Issue y) x register w rooms p b = refl
reads_call (Withdraw y) x register w rooms p b = refl
reads_call Open x register w rooms p b = absurd (p refl)
reads_call (Back c) x register w rooms p b = absurd (b c refl)
reads_call (Value j k) x register w rooms p b = refl
reads_call (Delta j k) x register w rooms p b = refl
reads_call (Forward i k) x register w rooms p b = refl

-- an order that calls the walk and lends no row
pub record Called (o : Order) : Type 0 where
  pub issue : (y : ℕ) → o ≡ Issue y → ⊥
  pub withdraw : (y : ℕ) → o ≡ Withdraw y → ⊥
  pub forward : (i k : ℕ) → o ≡ Forward i k → ⊥

-- open, back, value and delta are their call of the walk
call_acted : (o : Order) (s : Machine) → Called o →
    call_transition s (call_of o s.draft.brought s.register s.walk s.rooms) ≡ transition_of o s
unfolding reading_of call_of transition_of
call_acted (Issue y) s t = absurd (t.issue y refl)
call_acted (Withdraw y) s t = absurd (t.withdraw y refl)
call_acted Open s t = refl
call_acted (Back c) s t = refl
call_acted (Value j k) s t = refl
call_acted (Delta j k) s t = refl
call_acted (Forward i k) s t = absurd (t.forward i k refl)

-- ---- the state after an order

abbrev transition_said : Said → Machine → Transition
transition_said said s = record { said = said; next = s }

module _ (o : Order) (e : Draft) (w : Walk) (register ds ps row : List ℕ) where
  abbrev before : Machine
  before = machine_of e register w ds ps row

  -- o is the order that it is
  as_is : {x : Order} → o ≡ x → transition_of x before ≡ transition_of o before
  as_is q = sym (ap (λ (y : Order). transition_of y before) q)

  pub issue_acts : {y : ℕ} {said : Said} {w' : Walk} {register' : List ℕ} → o ≡ Issue y → w' ≡ w → said ≡ said_by (issue_answer register y) →
      register' ≡ issue_leaves register y → transition_said said (machine_of e register' w' ds ps row) ≡ transition_of o before
  unfolding transition_of
  issue_acts q v s l = (λ j. record { said = s j; next = machine_of e (l j) (v j) ds ps row }) ∙ as_is q

  pub withdraw_acts : {y : ℕ} {said : Said} {w' : Walk} {register' : List ℕ} → o ≡ Withdraw y → w' ≡ w → said ≡ said_by (withdraw_answer register y) →
      register' ≡ withdraw_leaves register y → transition_said said (machine_of e register' w' ds ps row) ≡ transition_of o before
  unfolding transition_of
  withdraw_acts q v s l = (λ j. record { said = s j; next = machine_of e (l j) (v j) ds ps row }) ∙ as_is q

  pub call_acts : {said : Said} {w' : Walk} {ds' ps' : List ℕ} → Called o →
      record { said = said; walk = w'; rows = rows_of ds' ps' } ≡ walk_result (call_of o e.brought register w (rows_of ds ps)) →
      transition_said said (machine_of e register w' ds' ps' row) ≡ transition_of o before
  call_acts t p =
      ap (λ (r : WalkResult). transition_said r.said (machine_of e register r.walk r.rows.defaults r.rows.premiums row)) p ∙ call_acted o before t

  pub forward_acts : {i k : ℕ} {said : Said} {row' : List ℕ} → o ≡ Forward i k →
      said_beside said row' ≡ distribution_in_row e.brought register row i k → transition_said said (machine_of e register w ds ps row') ≡ transition_of o before
  unfolding transition_of
  forward_acts q p = ap (λ (t : ForwardResult). record { said = t.said; next = machine_of e register w ds ps t.row }) p ∙ as_is q

-- ---- the rooms keep their lengths

module _ {ds ps row : List ℕ} (p : RoomLengths ds ps row) where
  pub lengths_rooms : {ds' ps' : List ℕ} → length ds' ≡ length ds → length ps' ≡ length ps → RoomLengths ds' ps' row
  lengths_rooms e f = omega (arith, e, f, p)

  pub lengths_row : {row' : List ℕ} → length row' ≡ length row → RoomLengths ds ps row'
  lengths_row e = omega (arith, e, p)
