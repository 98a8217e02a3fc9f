-- What a command prints, and where the run goes on (document 01, 'Deck and printing program').
use Rattle.std.specs.Prelude.{ℕ, ◌+◌, true, false, Result, Ok, Err, List, []}
use Rattle.commands.specs.declared.Command.{Command}
use Rattle.commands.specs.declared.Command.TheVariants.{Enter, Act}
use Rattle.commands.specs.declared.Stop.{Stop}
use Rattle.commands.specs.declared.Entry.{Entry}
use Rattle.commands.specs.declared.Order.{Order}
use Rattle.commands.specs.Commands.{entry_size, order_size}
use Rattle.commands.specs.Kinds.{refusal_of}
use Rattle.entries.specs.Draft.{Draft, has_room, added}
use Rattle.machine.specs.Machine.{Machine}
use Rattle.machine.specs.Transitions.{transition_of}
use Rattle.render.specs.Lines.{order_line, deck_line}

-- A command prints a last line, or it prints some text and the run goes on at an offset, with a machine.
pub data Effect : Type 0 where
  stop : List ℕ → Effect
  go_on : List ℕ → ℕ → Machine → Effect

abbrev pub with_draft : Machine → Draft → Machine
with_draft m g = record { draft = g; register = m.register; walk = m.walk; rooms = m.rooms; row = m.row }

-- An entry prints nothing. 20 where there is no room for it.
unfoldable pub entry_effect : Entry → ℕ → Machine → Effect
entry_effect e at m =
    elim (has_room e m.draft) [ true ↦ go_on [] (at + entry_size e) (with_draft m (added e m.draft)) | false ↦ stop (deck_line 20 at) ]

-- An order prints its word and what it says.
unfoldable pub order_effect : Order → ℕ → Machine → Effect
order_effect o at m = go_on (order_line o (transition_of o m).said) (at + order_size o) (transition_of o m).next

unfoldable pub effect_of : Result Command Stop → ℕ → Machine → Effect
effect_of (Err s) at m = stop (deck_line (refusal_of s) at)
effect_of (Ok (Enter e)) at m = entry_effect e at m
effect_of (Ok (Act o)) at m = order_effect o at m
