-- The whole promise, of any engine: `Keeps`. Its parts stand in CallRules (each call), Accuracy (demand 3), Liveness and Power (demand 1).
use Rattle.std.specs.Prelude.{ℕ, List}
use Rattle.std.proofs.lemmas.List.{length-replicate}
use Rattle.sheet.specs.Brought.{Brought}
use Rattle.walk.specs.declared.Walk.{Walk}
use Rattle.rows.specs.Rows.{Rows}
use Rattle.walk.specs.Engine.{Engine}
use Rattle.walk.specs.CallRules.{IssueRule, WithdrawRule, OpenRule, BackRule, ValueRule, RatioRule, ForwardRule}
use Rattle.walk.specs.CallLists.{Call, State, Catalogue, Run, blank_state}
use Rattle.walk.specs.Accuracy.{Owed}
use Rattle.walk.specs.Liveness.{Serves}
use Rattle.walk.specs.Power.{Event, Forever, Clears}

-- The rule of each call, at any sheet, register, walk and rows:
-- document 01's order of refusals, what an accepted call does, what a refused one leaves.
pub record Rules (e : Engine) : Type 0 where
  -- Issue and withdraw, of a sheet number.
  pub issue : (register : List ℕ) (number : ℕ) → IssueRule register number (e.issue register number)
  pub withdraw : (register : List ℕ) (number : ℕ) → WithdrawRule register number (e.withdraw register number)
  -- Open a walk on a sheet.
  pub opening : (x : Brought) (register : List ℕ) (walk : Walk) (rows : Rows) → OpenRule x register walk rows (e.opening x register walk rows)
  -- Walk c steps back.
  pub back : (x : Brought) (register : List ℕ) (walk : Walk) (rows : Rows) (c : ℕ) → BackRule x register walk rows c (e.back x register walk rows c)
  -- Value and hedge ratio of tranche j at the count k.
  pub value : (x : Brought) (register : List ℕ) (walk : Walk) (rows : Rows) (j k : ℕ) →
      ValueRule x register walk rows j k (e.value x register walk rows j k)
  pub ratio : (x : Brought) (register : List ℕ) (walk : Walk) (rows : Rows) (j k : ℕ) →
      RatioRule x register walk rows j k (e.ratio x register walk rows j k)
  -- The distribution of the default count after i steps.
  pub forward : (x : Brought) (register row : List ℕ) (i : ℕ) → ForwardRule x register row i (e.forward x register row i)

-- Demands 1 and 3 as one statement about a whole list of calls.
pub record Whole (e : Engine) (run : Run) : Type 0 where
  -- Demand 3: the figures of the last walk, and that a withdrawn number shows none.
  pub owed : Owed e run
  -- Demand 1: the next call gets its first refusal or does its work, and good sheets reach their root.
  pub serves : Serves e run

-- A list that starts from a blank register, a fresh walk and any rows.
unfoldable pub blank_run : Catalogue → Rows → List Call → Run
blank_run catalogue rows calls =
    record { catalogue = catalogue; start = blank_state rows; whole = length-replicate {A = ℕ} 256 0xFF; calls = calls }

-- Demand 3: every list of issue, withdraw, open, back and value calls, refused ones included,
-- from a blank register, a fresh walk and rows of any content.
abbrev pub Demand3 : Engine → Type 0
Demand3 e = (catalogue : Catalogue) (rows : Rows) (calls : List Call) → Whole e (blank_run catalogue rows calls)

-- The whole promise.
pub record Keeps (e : Engine) : Type 0 where
  -- Each call keeps to its rule, whatever it is given (demands 1 and 2).
  pub rules : Rules e
  -- Demands 1 and 3 hold of every list of calls, from any register of 256 bytes, walk and rows: a blank register with a fresh walk among them.
  pub lists : (run : Run) → Whole e run
  -- A withdrawn number stays withdrawn through every list of calls in which the power may fail, from any register.
  pub power : (start : State) (l : List Event) → Forever e start l
  -- A write only clears bits, and touches no byte but its own.
  pub clears : (register : List ℕ) (number : ℕ) → Clears e register number
