-- Demand 1's power cuts: a number whose accepted withdrawal has returned is refused by every later call, wherever the power fails.
-- `e` is the engine, `s` a state, `t` the rows lent, `y` a sheet's number; tranche j, count k and step i are document 01's.
use Rattle.std.specs.Prelude.{ℕ, ◌<◌, ◌≡◌, Bool, true, false, cond, ◌||◌, List, [], ◌∷◌, ◌≢◌, ◌⊎◌, length, get_or, set}
use Rattle.register.specs.Rules.{Unissued, Live}
use Rattle.register.specs.Cut.{may_be_left}
use Rattle.sheet.specs.Brought.{Brought}
use Rattle.walk.specs.declared.Walk.{Walk}
use Rattle.rows.specs.Rows.{Rows}
use Rattle.walk.specs.Answers.{accepted}
use Rattle.walk.specs.CallRules.{RegisterResult, WalkResult}
use Rattle.walk.specs.Engine.{Engine}
use Rattle.walk.specs.CallLists.{LentRows, rows_lent, Call, issue, withdraw, opening, back, value, State, CallResult, after_walk_call}
use Rattle.walk.specs.CallLists.{call_result, noted, no_history, Catalogue}
use Rattle.walk.specs.RefusalOrders.{RefusalOrder, issue_order, withdraw_order, open_order, back_order, value_order, ratio_order, forward_order}
use Rattle.walk.specs.Accuracy.{EarlyRefusal}

-- Any of the seven calls: one of demand 3's, a hedge ratio, which is lent rows as value is, or forward, which is lent a row of its own.
pub data Operation : Type 0 where
  call : Call → Operation
  ratio : ℕ → LentRows → ℕ → ℕ → Operation
  forward : ℕ → List ℕ → ℕ → Operation

-- What it answers and leaves: a hedge ratio gives walk and rows back as value does, and forward is given neither.
unfoldable pub operate : Engine → (ℕ → Brought) → State → Operation → CallResult
operate e sheets s (call c) = call_result e sheets s c
operate e sheets s (ratio y t j k) = after_walk_call s t (e.ratio (sheets y) s.register s.walk (rows_lent t s.rows) j k)
operate e sheets s (forward y row i) = record { said = (e.forward (sheets y) s.register row i).said; state = s }

-- A call that returned, with the sheets of that moment; or a call in which the power failed,
-- with the byte then found where it was to write, and the walk and the rows after it.
pub data Event : Type 0 where
  returned : Catalogue → Operation → Event
  cut_in : Operation → ℕ → Walk → Rows → Event

-- The register found after a cut: only an accepted issue or withdraw writes, and only its own byte.
unfoldable pub register_after_cut : Engine → List ℕ → Operation → ℕ → List ℕ
register_after_cut e register (call (issue y)) byte = cond (accepted (e.issue register y).said) (set register y byte) register
register_after_cut e register (call (withdraw y)) byte = cond (accepted (e.withdraw register y).said) (set register y byte) register
register_after_cut e register (call (opening y t)) byte = register
register_after_cut e register (call (back y t c)) byte = register
register_after_cut e register (call (value y t j k)) byte = register
register_after_cut e register (ratio y t j k) byte = register
register_after_cut e register (forward y row i) byte = register

-- The state that an event leaves: after a cut, walk and rows are any.
unfoldable pub event_leaves : Engine → State → Event → State
event_leaves e s (returned catalogue o) = (operate e catalogue.sheet s o).state
event_leaves e s (cut_in o byte walk rows) = record { register = register_after_cut e s.register o byte; walk = walk; rows = rows }

-- Whether an event is a withdraw of the number y that was accepted and returned.
unfoldable pub withdrew : Engine → State → Event → ℕ → Bool
withdrew e s (returned catalogue (call c)) y = (noted no_history c (call_result e catalogue.sheet s c).said).gone y
withdrew e s (returned catalogue (ratio z t j k)) y = false
withdrew e s (returned catalogue (forward z row i)) y = false
withdrew e s (cut_in o byte walk rows) y = false

-- The same of a list of events, and the state that it leaves.
unfoldable pub state_after_events : Engine → State → List Event → State
state_after_events e s [] = s
state_after_events e s (event ∷ l) = state_after_events e (event_leaves e s event) l

unfoldable pub ever_withdrew : Engine → State → List Event → ℕ → Bool
ever_withdrew e s [] y = false
ever_withdrew e s (event ∷ l) y = withdrew e s event y || ever_withdrew e (event_leaves e s event) l y

-- Refused early, with the register left; or with walk and rows left.
abbrev pub ShutWrite : RefusalOrder → List ℕ → RegisterResult → Type 0
ShutWrite order register o = EarlyRefusal order o.said × (o.register ≡ register)

abbrev pub ShutWalk : RefusalOrder → Walk → Rows → WalkResult → Type 0
ShutWalk order walk rows o = EarlyRefusal order o.said × (o.walk ≡ walk) × (o.rows ≡ rows)

-- Every call that brings the number y is refused, by 9 or by what it checks before, and leaves register, walk and rows.
pub record Shut (e : Engine) (register : List ℕ) (y : ℕ) : Type 0 where
  -- It can't be issued again, nor withdrawn.
  pub issue : ShutWrite (issue_order register y) register (e.issue register y)
  pub withdraw : ShutWrite (withdraw_order register y) register (e.withdraw register y)
  -- No sheet under that number is opened, walked or valued, whatever walk and rows the call is given.
  pub opening : (x : Brought) (walk : Walk) (rows : Rows) → x.number ≡ y →
      ShutWalk (open_order x register rows) walk rows (e.opening x register walk rows)
  pub back : (x : Brought) (walk : Walk) (rows : Rows) (c : ℕ) → x.number ≡ y →
      ShutWalk (back_order x register walk rows c) walk rows (e.back x register walk rows c)
  pub value : (x : Brought) (walk : Walk) (rows : Rows) (j k : ℕ) → x.number ≡ y →
      ShutWalk (value_order x register walk rows j k) walk rows (e.value x register walk rows j k)
  pub ratio : (x : Brought) (walk : Walk) (rows : Rows) (j k : ℕ) → x.number ≡ y →
      ShutWalk (ratio_order x register walk rows j k) walk rows (e.ratio x register walk rows j k)
  -- No distribution is told of one either, and the lent row is left.
  pub forward : (x : Brought) (row : List ℕ) (i : ℕ) → x.number ≡ y →
      EarlyRefusal (forward_order x register row i) (e.forward x register row i).said × ((e.forward x register row i).row ≡ row)

-- After any list of events, calls of the seven and power failures in them, from any state.
pub record Forever (e : Engine) (start : State) (l : List Event) : Type 0 where
  -- A number whose accepted withdrawal has returned is shut, whatever came before and after it.
  pub shut : (y : ℕ) → ever_withdrew e start l y ≡ true → Shut e (state_after_events e start l).register y
  -- So is one that the register says withdrawn at the start, by whatever byte: neither FF nor A5.
  pub stays : (y : ℕ) → ¬ (Unissued start.register y ⊎ Live start.register y) → Shut e (state_after_events e start l).register y
  -- The register keeps its length, so that a list of calls can go on from what was found.
  pub whole : length (state_after_events e start l).register ≡ length start.register

-- A write over the byte of y only clears bits. `o` is what the call gave back.
pub record WriteClears (register : List ℕ) (y : ℕ) (o : RegisterResult) : Type 0 where
  -- The byte that an accepted call leaves is one that a cut in it may leave: no bit of it was set.
  pub byte : accepted o.said ≡ true → may_be_left (get_or register y 0) (get_or o.register y 0) (get_or o.register y 0) ≡ true
  -- Every other byte is left as it was.
  pub others : (z : ℕ) → z ≢ y → get_or o.register z 0 ≡ get_or register z 0
  -- A refused call leaves the whole register.
  pub refused : accepted o.said ≡ false → o.register ≡ register

-- What a write clears, and what a cut in one may leave.
pub record Clears (e : Engine) (register : List ℕ) (y : ℕ) : Type 0 where
  -- Issue and withdraw only clear bits.
  pub issue : WriteClears register y (e.issue register y)
  pub withdraw : WriteClears register y (e.withdraw register y)
  -- A cut withdrawal is never found unissued.
  pub withdraw_cut : accepted (e.withdraw register y).said ≡ true → (found : ℕ) → found < 256 →
      may_be_left (get_or register y 0) (get_or (e.withdraw register y).register y 0) found ≡ true → found ≢ 0xFF
