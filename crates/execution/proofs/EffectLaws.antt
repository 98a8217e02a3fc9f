-- What a command's execution does, on plain values.
use Rattle.std.proofs.Common.{ℕ, ◌+◌, ◌≤◌, ◌≡◌, sym, ap, true, false, List, [], arith}
use Rattle.std.specs.Prelude.{Result}
use Rattle.lines.specs.Text.{Wrote}
use Rattle.lines.proofs.Laws.{wrote_none}
use Rattle.commands.specs.declared.Entry.{Entry}
use Rattle.commands.specs.declared.Order.{Order}
use Rattle.commands.specs.Commands.{entry_size, order_size}
use Rattle.commands.proofs.Laws.{entry_some, order_some}
use Rattle.answers.specs.declared.OrderRefusal.{OrderRefusal}
use Rattle.answers.specs.declared.Told.{Told}
use Rattle.answers.specs.OrderAnswers.{answer_said}
use Rattle.entries.specs.declared.Layout.{Layout}
use Rattle.entries.specs.Draft.{has_room, added}
use Rattle.entries.specs.Layouts.{draft_in}
use Rattle.machine.specs.Machine.{Machine, machine_of}
use Rattle.machine.specs.Transitions.{Transition, transition_by, transition_of}
use Rattle.render.specs.Lines.{order_line, deck_line, width}
use Rattle.execution.specs.declared.Progress.{Progress}
use Rattle.listings.specs.Effects.{stop, go_on, entry_effect, order_effect}
use Rattle.execution.specs.Executions.{machine_at, GoesOn}
use Rattle.execution.proofs.LineWidths.{line_short}

-- an entry for which there is room
abbrev entered : Progress → Layout → ℕ → Progress
entered from layout next = record { layout = layout; walk = from.walk; at = from.at + next; end = from.end }

pub entry_executed : (e : Entry) (from : Progress) (layout : Layout) (next : ℕ) (numbers after out register ds ps row : List ℕ) →
    has_room e (draft_in from.layout numbers) ≡ true → draft_in layout after ≡ added e (draft_in from.layout numbers) → next ≡ entry_size e →
    GoesOn (entry_effect e from.at (machine_at from numbers register ds ps row)) from out out (entered from layout next)
    (machine_at (entered from layout next) after register ds ps row)
unfolding entry_effect
entry_executed e from layout next numbers after out register ds ps row free is size =
    record {
      text = [];
      wrote = wrote_none out from.end;
      effect_is =
          rw (free, entry_effect)
          (λ j. go_on [] (from.at + sym size j) (machine_of (sym is j) register from.walk ds ps row));
      room = omega arith;
      onward = omega (arith, entry_some e);
      short = omega (arith, entry_some e);
    }

pub full_effect : (e : Entry) (at : ℕ) (m : Machine) → has_room e m.draft ≡ false → entry_effect e at m ≡ stop (deck_line 20 at)
unfolding entry_effect
full_effect e at m free = rw (free, entry_effect)

-- an order
pub order_executed : (o : Order) (from : Progress) (layout : Layout) (next end : ℕ) {before after : List ℕ} (a : Result Told OrderRefusal) (m t : Machine) →
    transition_by a t ≡ transition_of o m → Wrote before from.end (order_line o (answer_said a)) after end →
    end ≤ from.end + 10 + width (answer_said a) → next ≡ order_size o →
    GoesOn (order_effect o from.at m) from before after
    (record { layout = layout; walk = t.walk; at = from.at + next; end = end }) t
unfolding order_effect
order_executed o from layout next end a m t acts wrote short size =
    let same : width (answer_said a) ≡ width (transition_of o m).said = ap (λ (f : Transition). width f.said) acts in
    record {
      text = order_line o (answer_said a);
      wrote = wrote;
      effect_is = (λ j. go_on (order_line o (sym acts j).said) (from.at + sym size j) (sym acts j).next);
      room = omega (arith, (line_short o m).room);
      onward = omega (arith, order_some o);
      short = omega (arith, (line_short o m).short);
    }
