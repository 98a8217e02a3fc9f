-- A deck by calls of any manner, and by any reading of its commands: what it prints, and the register that it leaves.
use Rattle.std.specs.Prelude.{ℕ, zero, suc, ◌+◌, true, false, Result, Ok, Err, List, [], ◌++◌, ltb, length, take}
use Rattle.register.specs.Register.{issue_answer, issue_leaves, withdraw_answer, withdraw_leaves}
use Rattle.commands.specs.declared.Command.{Command}
use Rattle.commands.specs.declared.Command.TheVariants.{Enter, Act}
use Rattle.commands.specs.declared.Stop.{Stop}
use Rattle.commands.specs.declared.Order.{Order}
use Rattle.commands.specs.declared.Order.TheVariants.{Issue, Withdraw, Open, Back, Value, Delta, Forward}
use Rattle.commands.specs.Commands.{order_size}
use Rattle.commands.specs.Kinds.{refusal_of}
use Rattle.walk.specs.Manners.{Manner, open_by, back_by, value_by, ratio_by, forward_by}
use Rattle.machine.specs.Machine.{Machine, machine_on}
use Rattle.machine.specs.Rooms.{lent_rows, left_in_rooms, left_in_row, count_in_row}
use Rattle.machine.specs.Transitions.{Transition, register_transition, call_transition, forward_transition}
use Rattle.render.specs.Lines.{order_line, deck_line}
use Rattle.listings.specs.Effects.{Effect, stop, go_on, entry_effect}

-- An order by calls of the manner.
unfoldable pub manner_transition : Manner → Order → Machine → Transition
manner_transition n (Issue y) m = register_transition m (issue_answer m.register y) (issue_leaves m.register y)
manner_transition n (Withdraw y) m = register_transition m (withdraw_answer m.register y) (withdraw_leaves m.register y)
manner_transition n Open m =
    let x = m.draft.brought in
    call_transition m (left_in_rooms x m.rooms (open_by n x m.register m.walk (lent_rows x m.rooms)))
manner_transition n (Back c) m =
    let x = m.draft.brought in
    call_transition m (left_in_rooms x m.rooms (back_by n x m.register m.walk (lent_rows x m.rooms) c))
manner_transition n (Value j k) m =
    let x = m.draft.brought in
    call_transition m (left_in_rooms x m.rooms (value_by n x m.register m.walk (lent_rows x m.rooms) j k))
manner_transition n (Delta j k) m =
    let x = m.draft.brought in
    call_transition m (left_in_rooms x m.rooms (ratio_by n x m.register m.walk (lent_rows x m.rooms) j k))
manner_transition n (Forward i k) m =
    let x = m.draft.brought in
    let o = left_in_row x m.row (forward_by n x m.register (take (x.sheet.names + 1) m.row) i) in
    forward_transition m (count_in_row x m.row o k)

-- A command by them. An entry makes no call.
unfoldable pub manner_effect : Manner → Result Command Stop → ℕ → Machine → Effect
manner_effect n (Err s) at m = stop (deck_line (refusal_of s) at)
manner_effect n (Ok (Enter e)) at m = entry_effect e at m
manner_effect n (Ok (Act o)) at m = go_on (order_line o (manner_transition n o m).said) (at + order_size o) (manner_transition n o m).next

-- What stands at an offset of a deck.
abbrev pub Reading : Type 0
Reading = List ℕ → ℕ → Result Command Stop

-- The listing by them.
unfoldable pub manner_listing_from : Reading → Manner → ℕ → List ℕ → ℕ → Machine → List ℕ
manner_listing_from read n zero deck at m = []
manner_listing_from read n (suc commands) deck at m =
    elim (ltb at (length deck)) [
      | true ↦ elim (manner_effect n (read deck at) at m) [ stop text ↦ text | go_on text next t ↦ text ++ manner_listing_from read n commands deck next t ]
      | false ↦ []
    ]

unfoldable pub manner_listing : Reading → Manner → List ℕ → List ℕ → List ℕ
manner_listing read n register deck =
    elim (ltb 65536 (length deck)) [ true ↦ deck_line 20 65536 | false ↦ manner_listing_from read n (length deck) deck 0 (machine_on register) ]

-- The register by them.
unfoldable pub manner_register_from : Reading → Manner → ℕ → List ℕ → ℕ → Machine → List ℕ
manner_register_from read n zero deck at m = m.register
manner_register_from read n (suc commands) deck at m =
    elim (ltb at (length deck)) [
      | true ↦ elim (manner_effect n (read deck at) at m) [ stop text ↦ m.register | go_on text next t ↦ manner_register_from read n commands deck next t ]
      | false ↦ m.register
    ]

unfoldable pub manner_register : Reading → Manner → List ℕ → List ℕ → List ℕ
manner_register read n register deck =
    elim (ltb 65536 (length deck)) [ true ↦ register | false ↦ manner_register_from read n (length deck) deck 0 (machine_on register) ]
