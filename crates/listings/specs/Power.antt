-- Demand 1's power cuts, runs of decks among them: a number whose withdraw was accepted, in a call that returned or in a run that came so far, is
-- refused by every later call and order, wherever the power fails.
-- `m` is the machine that a command meets, `y` a sheet's number, `byte` what is found where the command that was cut was to write.
use Rattle.std.specs.Prelude.{ℕ, zero, suc, ◌≡◌, Bool, true, false, cond, ◌&&◌, ◌||◌, Result, Ok, Err, List, [], ◌∷◌, ◌≢◌, ◌⊎◌, ltb, eqb, length, get_or, set}
use Rattle.register.specs.Rules.{Unissued, Live}
use Rattle.commands.specs.declared.Command.{Command}
use Rattle.commands.specs.declared.Command.TheVariants.{Enter, Act}
use Rattle.commands.specs.declared.Stop.{Stop}
use Rattle.commands.specs.declared.Order.{Order}
use Rattle.commands.specs.declared.Order.TheVariants.{Issue, Withdraw, Open, Back, Value, Delta, Forward}
use Rattle.commands.specs.Commands.{command_at}
use Rattle.rows.specs.Rows.{Rows}
use Rattle.walk.specs.declared.Walk.{Walk}
use Rattle.walk.specs.Answers.{accepted}
use Rattle.walk.specs.Accuracy.{EarlyRefusal}
use Rattle.walk.specs.CallLists.{State}
use Rattle.walk.specs.OurEngine.{ours}
use Rattle.walk.specs.Power.{Event, event_leaves, withdrew, Shut}
use Rattle.machine.specs.Machine.{Machine, machine_on}
use Rattle.machine.specs.Transitions.{transition_of}
use Rattle.listings.specs.Effects.{stop, go_on, effect_of}
use Rattle.listings.specs.RegisterFrom.{register_from}
use Rattle.listings.specs.Listing.{register_after}
use Rattle.listings.specs.Withdrawals.{brought_by, refusals_of}

-- ---- a cut in a run

-- The register found after a cut in an order: only an accepted issue or withdraw writes, and only its own byte.
unfoldable pub found_in_order : Order → Machine → ℕ → List ℕ
found_in_order (Issue y) m byte = cond (accepted (transition_of (Issue y) m).said) (set m.register y byte) m.register
found_in_order (Withdraw y) m byte = cond (accepted (transition_of (Withdraw y) m).said) (set m.register y byte) m.register
found_in_order Open m byte = m.register
found_in_order (Back c) m byte = m.register
found_in_order (Value j k) m byte = m.register
found_in_order (Delta j k) m byte = m.register
found_in_order (Forward i k) m byte = m.register

-- No other command writes.
unfoldable pub found_in_command : Result Command Stop → Machine → ℕ → List ℕ
found_in_command (Ok (Act o)) m byte = found_in_order o m byte
found_in_command (Ok (Enter e)) m byte = m.register
found_in_command (Err s) m byte = m.register

-- What is found where so many commands are done, from an offset on, and the power fails in the next. A run that has ended before left its register.
unfoldable pub found_from : ℕ → List ℕ → ℕ → Machine → ℕ → List ℕ
found_from zero deck at m byte = elim (ltb at (length deck)) [ true ↦ found_in_command (command_at deck at) m byte | false ↦ m.register ]
found_from (suc done) deck at m byte =
    elim (ltb at (length deck)) [
      | true ↦ elim (effect_of (command_at deck at) at m) [ stop text ↦ m.register | go_on text next t ↦ found_from done deck next t byte ]
      | false ↦ m.register
    ]

-- The same of a run of a deck on a register. An oversized deck does nothing.
unfoldable pub found_after : List ℕ → List ℕ → ℕ → ℕ → List ℕ
found_after register deck done byte =
    elim (ltb 65536 (length deck)) [ true ↦ register | false ↦ found_from done deck 0 (machine_on register) byte ]

-- What a cut in a command finds, byte by byte, between the registers before the command and after it.
pub data CutBetween (found : ℕ → List ℕ) (before after : List ℕ) : Type 0 where
  -- A command that leaves the register has nothing to be cut.
  no_write : after ≡ before → ((byte : ℕ) → found byte ≡ before) → CutBetween found before after
  -- One that changes the byte of y changes no other, and what is found of that byte is open.
  one_byte : (y new : ℕ) → get_or before y 0 ≢ new → after ≡ set before y new → ((byte : ℕ) → found byte ≡ set before y byte) →
      CutBetween found before after

-- ---- what a run has withdrawn

-- Whether an order is a withdraw of the number y that was accepted, by what it said.
unfoldable pub order_withdrew : Order → Machine → ℕ → Bool
order_withdrew (Issue z) m y = false
order_withdrew (Withdraw z) m y = accepted (transition_of (Withdraw z) m).said && eqb y z
order_withdrew Open m y = false
order_withdrew (Back c) m y = false
order_withdrew (Value j k) m y = false
order_withdrew (Delta j k) m y = false
order_withdrew (Forward i k) m y = false

unfoldable pub command_withdrew : Result Command Stop → Machine → ℕ → Bool
command_withdrew (Ok (Act o)) m y = order_withdrew o m y
command_withdrew (Ok (Enter e)) m y = false
command_withdrew (Err s) m y = false

-- One of the first so many commands from an offset on is.
unfoldable pub withdrew_from : ℕ → List ℕ → ℕ → Machine → ℕ → Bool
withdrew_from zero deck at m y = false
withdrew_from (suc done) deck at m y =
    elim (ltb at (length deck)) [
      | true ↦
          command_withdrew (command_at deck at) m y
          || elim (effect_of (command_at deck at) at m) [ stop text ↦ false | go_on text next t ↦ withdrew_from done deck next t y ]
      | false ↦ false
    ]

-- The same of a run of a deck on a register.
unfoldable pub withdrew_after : List ℕ → List ℕ → ℕ → ℕ → Bool
withdrew_after register deck done y = elim (ltb 65536 (length deck)) [ true ↦ false | false ↦ withdrew_from done deck 0 (machine_on register) y ]

-- ---- calls and runs, one after the other

-- A call of the seven, returned or cut; a run of a deck that returned; or a run in which the power failed, with the number of commands done, the
-- byte then found where the next was to write, and the caller's walk and rows after it. A run that finds no room to print is one of the empty deck.
pub data RunEvent : Type 0 where
  called : Event → RunEvent
  ran : List ℕ → RunEvent
  cut_run : List ℕ → ℕ → ℕ → Walk → Rows → RunEvent

-- The state that an event leaves. A run has a walk and rows of its own.
unfoldable pub run_leaves : State → RunEvent → State
run_leaves s (called event) = event_leaves ours s event
run_leaves s (ran deck) = record { register = register_after s.register deck; walk = s.walk; rows = s.rows }
run_leaves s (cut_run deck done byte walk rows) = record { register = found_after s.register deck done byte; walk = walk; rows = rows }

-- Whether a withdraw of the number y was accepted in it and returned, or was done before the cut. No deck has more commands than bytes.
unfoldable pub run_withdrew : State → RunEvent → ℕ → Bool
run_withdrew s (called event) y = withdrew ours s event y
run_withdrew s (ran deck) y = withdrew_after s.register deck (length deck) y
run_withdrew s (cut_run deck done byte walk rows) y = withdrew_after s.register deck done y

-- The same of a list of events, and the state that it leaves.
unfoldable pub state_after_runs : State → List RunEvent → State
state_after_runs s [] = s
state_after_runs s (event ∷ l) = state_after_runs (run_leaves s event) l

unfoldable pub runs_withdrew : State → List RunEvent → ℕ → Bool
runs_withdrew s [] y = false
runs_withdrew s (event ∷ l) y = run_withdrew s event y || runs_withdrew (run_leaves s event) l y

-- Every call that brings the number y is refused, and so is every order of a run that meets this register. (Where a run has written it before its next
-- order, a list that ends with that run, cut there, has the register that the order meets.)
pub record ShutInRuns (register : List ℕ) (y : ℕ) : Type 0 where
  pub calls : Shut ours register y
  pub orders : (o : Order) (m : Machine) → m.register ≡ register → brought_by o m ≡ y → EarlyRefusal (refusals_of o m) (transition_of o m).said

-- After any list of events, calls of the seven, runs of decks and power failures in them, from any state.
pub record RunsForever (start : State) (l : List RunEvent) : Type 0 where
  -- A number whose withdraw was accepted, and has returned or was done before a cut, is shut, whatever came before and after it.
  pub shut : (y : ℕ) → runs_withdrew start l y ≡ true → ShutInRuns (state_after_runs start l).register y
  -- So is one that the register says withdrawn at the start, by whatever byte: neither FF nor A5.
  pub stays : (y : ℕ) → ¬ (Unissued start.register y ⊎ Live start.register y) → ShutInRuns (state_after_runs start l).register y
  -- The register keeps its length, so that calls and runs can go on from what was found.
  pub whole : length (state_after_runs start l).register ≡ length start.register

pub record RunPower : Type 0 where
  -- A cut in a run finds what the commands done left, but for the byte that the next changes.
  pub between : (done : ℕ) (deck : List ℕ) (at : ℕ) (m : Machine) →
      CutBetween (found_from done deck at m) (register_from done deck at m) (register_from (suc done) deck at m)
  pub forever : (start : State) (l : List RunEvent) → RunsForever start l
