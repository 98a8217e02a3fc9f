-- Demand 1, but for the power cuts: where any list of calls ends, each call keeps to its rule, and every good sheet can be walked to its root.
-- `e` is the engine, `s` a state, `t` the rows lent, `y` a sheet's number; h and c are numbers of steps, tranche j and count k are document 01's.
use Rattle.std.specs.Prelude.{ℕ, ◌+◌, ◌≤◌, ◌≡◌, true, false, [], ◌∷◌, ◌++◌, pos}
use Rattle.register.specs.Rules.{Live}
use Rattle.sheet.specs.Brought.{Brought}
use Rattle.sheet.specs.Limits.{Limits}
use Rattle.rows.specs.Rows.{AtEveryNode}
use Rattle.walk.specs.Answers.{accepted}
use Rattle.walk.specs.RefusalOrders.{FullRows}
use Rattle.walk.specs.CallRules.{says, IssueRule, WithdrawRule, OpenRule, BackRule, ValueRule}
use Rattle.walk.specs.Engine.{Engine}
use Rattle.walk.specs.CallLists.{LentRows, own_rows, rows_lent, Call, issue, withdraw, opening, back, value, State, call_result, Run, sheet_in}
use Rattle.walk.specs.CallLists.{end, answers}
use Rattle.walk.specs.Accuracy.{Walked, position_after, held_worth}

-- The list with one call more.
unfoldable pub then : Run → Call → Run
then run call = record { catalogue = run.catalogue; start = run.start; whole = run.whole; calls = run.calls ++ (call ∷ []) }

-- The steps of the sheet that a number brings.
abbrev pub steps_in : Run → ℕ → ℕ
steps_in run number = (sheet_in run number).sheet.steps

-- A sheet that is opened where the list ends, with these rows.
pub record RootReached (e : Engine) (run : Run) (number : ℕ) (rows : LentRows) : Type 0 where
  -- The open is accepted.
  pub taken : answers e run (opening number rows) ≡ says []
  -- Right after it a back by any count up to the sheet's steps is accepted, and answers the position.
  pub goes : (c : ℕ) → c ≤ steps_in run number →
      answers e (then run (opening number rows)) (back number own_rows c) ≡ says (pos (position_after (sheet_in run number).sheet c) ∷ [])
  -- A back by all of them reaches the root.
  pub root : Walked e (then (then run (opening number rows)) (back number own_rows (steps_in run number))) number (steps_in run number)

-- A call keeps to its rule, at the register, walk and rows that it meets.
unfoldable pub CallRule : Engine → (ℕ → Brought) → State → Call → Type 0
CallRule e sheets s (issue y) = IssueRule s.register y (e.issue s.register y)
CallRule e sheets s (withdraw y) = WithdrawRule s.register y (e.withdraw s.register y)
CallRule e sheets s (opening y t) =
    OpenRule (sheets y) s.register s.walk (rows_lent t s.rows) (e.opening (sheets y) s.register s.walk (rows_lent t s.rows))
CallRule e sheets s (back y t c) =
    BackRule (sheets y) s.register s.walk (rows_lent t s.rows) c (e.back (sheets y) s.register s.walk (rows_lent t s.rows) c)
CallRule e sheets s (value y t j k) =
    ValueRule (sheets y) s.register s.walk (rows_lent t s.rows) j k (e.value (sheets y) s.register s.walk (rows_lent t s.rows) j k)

-- Demand 1, of one list of calls and whatever call comes next.
pub record Serves (e : Engine) (run : Run) : Type 0 where
  -- The next call keeps to its rule: it gets the first refusal of its order, or does what document 01 says of it.
  pub ruled : (call : Call) → CallRule e run.catalogue.sheet (end e run) call
  -- If it is refused, register, walk and rows are untouched.
  pub untouched : (call : Call) → accepted (answers e run call) ≡ false → (call_result e run.catalogue.sheet (end e run) call).state ≡ end e run
  -- A sheet within limits whose number is live, with rows of the right length, is taken and can be walked back to its root.
  pub taken : (number : ℕ) (rows : LentRows) → Limits (sheet_in run number) →
      FullRows (sheet_in run number).sheet (rows_lent rows (end e run).rows) → Live (end e run).register number → RootReached e run number rows
  -- No other sheet is opened.
  pub only : (number : ℕ) (rows : LentRows) → accepted (answers e run (opening number rows)) ≡ true →
      Limits (sheet_in run number) × FullRows (sheet_in run number).sheet (rows_lent rows (end e run).rows) × Live (end e run).register number
  -- In the midst of a walk, while its number is live, a back by what is left or less is accepted and answers the position.
  pub goes : (number h c : ℕ) → Walked e run number h → Live (end e run).register number → h + c ≤ steps_in run number →
      answers e run (back number own_rows c) ≡ says (pos (position_after (sheet_in run number).sheet (h + c)) ∷ [])
  -- And the value of every node is told.
  pub tells : (number h : ℕ) → Walked e run number h → Live (end e run).register number →
      AtEveryNode (sheet_in run number).sheet (λ j k. answers e run (value number own_rows j k) ≡ held_worth e run (sheet_in run number) j k)
