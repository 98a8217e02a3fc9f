-- Lists of calls, and what is known of one from the list and its answers alone (demand 3).
-- `e` is the engine, `s` the state that a call meets, `t` the rows that it is lent, `y` the number that it brings;
-- c steps, tranche j and count k are its operands.
use Rattle.std.specs.Prelude.{ℕ, ◌+◌, ◌≡◌, Bool, true, false, cond, ◌&&◌, ◌||◌, List, [], ◌∷◌, length, eqb}
use Rattle.std.proofs.Math.Option.{Option, none, some}
use Rattle.register.specs.Events.{blank_register}
use Rattle.sheet.specs.Brought.{Brought}
use Rattle.walk.specs.declared.Walk.{Walk}
use Rattle.rows.specs.Rows.{Rows}
use Rattle.walk.specs.Answers.{fresh, Said, accepted}
use Rattle.walk.specs.CallRules.{RegisterResult, WalkResult}
use Rattle.walk.specs.Engine.{Engine}

-- The rows that a call is lent: those that the last accepted open wrote, as the last call left them, or any others.
pub data LentRows : Type 0 where
  own_rows : LentRows
  other_rows : Rows → LentRows

-- What the caller chooses: the operation, the number (which brings its sheet), the rows lent, and the operands.
pub data Call : Type 0 where
  issue : ℕ → Call
  withdraw : ℕ → Call
  opening : ℕ → LentRows → Call
  back : ℕ → LentRows → ℕ → Call
  value : ℕ → LentRows → ℕ → ℕ → Call

-- What lies between two calls: the register, the walk, and the rows that the last accepted open wrote (before one, rows of any content).
pub record State : Type 0 where
  pub register : List ℕ
  pub walk : Walk
  pub rows : Rows

-- What a call answers, and the state that it leaves.
pub record CallResult : Type 0 where
  pub said : Said
  pub state : State

-- The rows that a call gets, where `own` are those of the last accepted open.
abbrev pub rows_lent : LentRows → Rows → Rows
rows_lent own_rows own = own
rows_lent (other_rows lent) own = lent

-- The rows of the last accepted open after a call that left the rows lent to it as `new`.
abbrev pub rows_kept : LentRows → Rows → Rows → Rows
rows_kept own_rows own new = new
rows_kept (other_rows lent) own new = own

-- After issue or withdraw.
unfoldable pub after_write : State → RegisterResult → CallResult
after_write s o = record { said = o.said; state = record { register = o.register; walk = s.walk; rows = s.rows } }

-- After open, whose rows count from then on if it is accepted.
unfoldable pub after_open : State → LentRows → WalkResult → CallResult
after_open s t o =
    record {
      said = o.said;
      state = record { register = s.register; walk = o.walk; rows = cond (accepted o.said) o.rows (rows_kept t s.rows o.rows) };
    }

-- After back, value or a hedge ratio.
unfoldable pub after_walk_call : State → LentRows → WalkResult → CallResult
after_walk_call s t o = record { said = o.said; state = record { register = s.register; walk = o.walk; rows = rows_kept t s.rows o.rows } }

-- Each call gets register and walk as the last one left them, and the sheet of its number.
unfoldable pub call_result : Engine → (ℕ → Brought) → State → Call → CallResult
call_result e sheets s (issue y) = after_write s (e.issue s.register y)
call_result e sheets s (withdraw y) = after_write s (e.withdraw s.register y)
call_result e sheets s (opening y t) = after_open s t (e.opening (sheets y) s.register s.walk (rows_lent t s.rows))
call_result e sheets s (back y t c) = after_walk_call s t (e.back (sheets y) s.register s.walk (rows_lent t s.rows) c)
call_result e sheets s (value y t j k) = after_walk_call s t (e.value (sheets y) s.register s.walk (rows_lent t s.rows) j k)

-- What the list and its answers tell, and no state.
pub record History : Type 0 where
  -- The number of the last accepted open.
  pub opened : Option ℕ
  -- The sum of the c of the back calls accepted since.
  pub walked : ℕ
  -- Whether every back and value since was lent the rows of that open.
  pub own : Bool
  -- The numbers of which a withdraw was accepted.
  pub gone : ℕ → Bool

abbrev pub is_own : LentRows → Bool
is_own own_rows = true
is_own (other_rows lent) = false

-- The history h with one call more and what it was answered.
unfoldable pub noted : History → Call → Said → History
noted h (issue y) said = h
noted h (withdraw y) said = record { opened = h.opened; walked = h.walked; own = h.own; gone = λ z. accepted said && eqb z y || h.gone z }
noted h (opening y t) said = cond (accepted said) (record { opened = some y; walked = 0; own = true; gone = h.gone }) h
noted h (back y t c) said =
    record { opened = h.opened; walked = cond (accepted said) (h.walked + c) h.walked; own = h.own && is_own t; gone = h.gone }
noted h (value y t j k) said = record { opened = h.opened; walked = h.walked; own = h.own && is_own t; gone = h.gone }

-- The state and the history after a list of calls, of which c is the first.
unfoldable pub state_after : Engine → (ℕ → Brought) → State → List Call → State
state_after e sheets s [] = s
state_after e sheets s (c ∷ l) = state_after e sheets (call_result e sheets s c).state l

unfoldable pub history_after : Engine → (ℕ → Brought) → State → History → List Call → History
history_after e sheets s h [] = h
history_after e sheets s h (c ∷ l) = history_after e sheets (call_result e sheets s c).state (noted h c (call_result e sheets s c).said) l

-- The history of no call.
abbrev pub no_history : History
no_history = record { opened = none; walked = 0; own = false; gone = λ number. false }

-- The sheet that each number brings: always the same one, which bears that number.
pub record Catalogue : Type 0 where
  pub sheet : ℕ → Brought
  pub bears : (number : ℕ) → (sheet number).number ≡ number

-- A list of calls, with its sheets and the state that it starts from: a register of 256 bytes, a walk and rows.
pub record Run : Type 0 where
  pub catalogue : Catalogue
  pub start : State
  pub whole : length start.register ≡ 256
  pub calls : List Call

-- A blank register, a fresh walk, and rows of any content.
abbrev pub blank_state : Rows → State
blank_state rows = record { register = blank_register; walk = fresh; rows = rows }

-- The sheet that a number brings.
abbrev pub sheet_in : Run → ℕ → Brought
sheet_in run number = run.catalogue.sheet number

-- The state where the list ends, and its history.
abbrev pub end : Engine → Run → State
end e run = state_after e run.catalogue.sheet run.start run.calls

abbrev pub history : Engine → Run → History
history e run = history_after e run.catalogue.sheet run.start no_history run.calls

-- What a further call is answered where the list ends.
abbrev pub answers : Engine → Run → Call → Said
answers e run call = (call_result e run.catalogue.sheet (end e run) call).said
