-- An order that is refused leaves the machine as it was.
use Rattle.std.proofs.Common.{ℕ, ◌≡◌, ap, ◌∙◌, Bool, false, cond, List, ◌++◌, take, drop, take-append-drop}
use Rattle.commands.specs.declared.Order.TheVariants.{Issue, Withdraw, Open, Back, Value, Delta, Forward}
use Rattle.rows.specs.Rows.{Rows, rows_of, row_length}
use Rattle.walk.specs.Answers.{Said, said_of, accepted}
use Rattle.walk.specs.CallRules.{RefusalEffect}
use Rattle.walk.specs.Calls.{Outcome, open_call, back_call, value_call, ratio_call}
use Rattle.walk.specs.OurEngine.{walk_result}
use Rattle.walk.proofs.OurEngine.{ours_keeps}
use Rattle.machine.specs.Machine.{Machine}
use Rattle.machine.specs.Rooms.{lent_rows, left_in_rooms, open_in_rooms, back_in_rooms, value_in_rooms, ratio_in_rooms, forward_in_row, count_said, count_in_row}
use Rattle.machine.specs.Rooms.{distribution_in_row}
use Rattle.machine.specs.Transitions.{call_transition, transition_of, RefusedLeaves}

-- a register that a refused write leaves
written : (m : Machine) (register : List ℕ) → register ≡ m.register →
    record { draft = m.draft; register = register; walk = m.walk; rooms = m.rooms; row = m.row } ≡ m
written m register e = λ i. record { draft = m.draft; register = e i; walk = m.walk; rooms = m.rooms; row = m.row }

-- what was lent, before the rest of its room, is the room
back_in_place : (n : ℕ) (part room : List ℕ) → part ≡ take n room → part ++ drop n room ≡ room
back_in_place n part room e = ap (λ (l : List ℕ). l ++ drop n room) e ∙ take-append-drop n room

-- a refused call of the walk leaves the walk and what it was lent
called : (m : Machine) (o : Outcome) →
    let x = m.draft.brought in RefusalEffect m.walk (lent_rows x m.rooms) (walk_result o) → accepted (said_of o.answer) ≡ false →
    (call_transition m (left_in_rooms x m.rooms o)).next ≡ m
called m o leaves e =
    let x = m.draft.brought in
    let n : ℕ = row_length x.sheet in
    let kept = leaves e in
    let ds : o.rows.defaults ++ drop n m.rooms.defaults ≡ m.rooms.defaults = back_in_place n _ _ (ap (λ (r : Rows). r.defaults) kept.1) in
    let ps : o.rows.premiums ++ drop n m.rooms.premiums ≡ m.rooms.premiums = back_in_place n _ _ (ap (λ (r : Rows). r.premiums) kept.1) in
    λ i. record { draft = m.draft; register = m.register; walk = kept.0 i; rooms = rows_of (ds i) (ps i); row = m.row }

-- a forward that is refused, by the call or with 14
counted : (said : Said) (filled row : List ℕ) → accepted said ≡ false → cond (accepted said) filled row ≡ row
counted said filled row e = ap (λ (b : Bool). cond b filled row) e

pub refused_leaves : RefusedLeaves
unfolding transition_of open_in_rooms back_in_rooms value_in_rooms ratio_in_rooms distribution_in_row count_in_row
refused_leaves (Issue y) m e = written m _ ((ours_keeps.rules.issue m.register y).writes.leaves e)
refused_leaves (Withdraw y) m e = written m _ ((ours_keeps.rules.withdraw m.register y).writes.leaves e)
refused_leaves Open m e =
    let x = m.draft.brought in
    let rows = lent_rows x m.rooms in
    called m (open_call x m.register m.walk rows) (ours_keeps.rules.opening x m.register m.walk rows).leaves e
refused_leaves (Back c) m e =
    let x = m.draft.brought in
    let rows = lent_rows x m.rooms in
    called m (back_call x m.register m.walk rows c) (ours_keeps.rules.back x m.register m.walk rows c).leaves e
refused_leaves (Value j k) m e =
    let x = m.draft.brought in
    let rows = lent_rows x m.rooms in
    called m (value_call x m.register m.walk rows j k) (ours_keeps.rules.value x m.register m.walk rows j k).leaves e
refused_leaves (Delta j k) m e =
    let x = m.draft.brought in
    let rows = lent_rows x m.rooms in
    called m (ratio_call x m.register m.walk rows j k) (ours_keeps.rules.ratio x m.register m.walk rows j k).leaves e
refused_leaves (Forward i k) m e =
    let o = forward_in_row m.draft.brought m.register m.row i in
    λ j. record {
      draft = m.draft;
      register = m.register;
      walk = m.walk;
      rooms = m.rooms;
      row = counted (count_said o.answer o.row m.draft.brought.sheet.names k) o.row m.row e j;
    }
