-- Commands 06 to 0C: what each answers, and the machine after it (document 01, 'Deck and printing program').
use Rattle.std.specs.Prelude.{ℕ, ◌≡◌, false, List, Result}
use Rattle.commands.specs.declared.Order.{Order}
use Rattle.commands.specs.declared.Order.TheVariants.{Issue, Withdraw, Open, Back, Value, Delta, Forward}
use Rattle.register.specs.Register.{WriteAnswer, issue_answer, issue_leaves, withdraw_answer, withdraw_leaves}
use Rattle.walk.specs.Answers.{Said, said_of, said_by, accepted}
use Rattle.walk.specs.CallRules.{ForwardResult}
use Rattle.walk.specs.Calls.{Outcome}
use Rattle.answers.specs.declared.OrderRefusal.{OrderRefusal}
use Rattle.answers.specs.declared.Told.{Told}
use Rattle.answers.specs.OrderAnswers.{answer_said}
use Rattle.machine.specs.Machine.{Machine}
use Rattle.machine.specs.Rooms.{open_in_rooms, back_in_rooms, value_in_rooms, ratio_in_rooms, distribution_in_row}

-- What an order says, by document 01's number and values, and the machine that it leaves.
pub record Transition : Type 0 where
  pub said : Said
  pub next : Machine

-- The same by what the code answers.
abbrev pub transition_by : Result Told OrderRefusal → Machine → Transition
transition_by a m = record { said = answer_said a; next = m }

-- Issue and withdraw change the register alone.
abbrev pub register_transition : Machine → WriteAnswer → List ℕ → Transition
register_transition m a register =
    record {
      said = said_by a;
      next = record { draft = m.draft; register = register; walk = m.walk; rooms = m.rooms; row = m.row };
    }

-- A call of the walk leaves a walk and both rooms.
abbrev pub call_transition : Machine → Outcome → Transition
call_transition m o =
    record {
      said = said_of o.answer;
      next = record { draft = m.draft; register = m.register; walk = o.walk; rooms = o.rows; row = m.row };
    }

-- Forward leaves its row.
abbrev pub forward_transition : Machine → ForwardResult → Transition
forward_transition m o =
    record {
      said = o.said;
      next = record { draft = m.draft; register = m.register; walk = m.walk; rooms = m.rooms; row = o.row };
    }

unfoldable pub transition_of : Order → Machine → Transition
transition_of (Issue y) m = register_transition m (issue_answer m.register y) (issue_leaves m.register y)
transition_of (Withdraw y) m = register_transition m (withdraw_answer m.register y) (withdraw_leaves m.register y)
transition_of Open m = call_transition m (open_in_rooms m.draft.brought m.register m.walk m.rooms)
transition_of (Back c) m = call_transition m (back_in_rooms m.draft.brought m.register m.walk m.rooms c)
transition_of (Value j k) m = call_transition m (value_in_rooms m.draft.brought m.register m.walk m.rooms j k)
transition_of (Delta j k) m = call_transition m (ratio_in_rooms m.draft.brought m.register m.walk m.rooms j k)
transition_of (Forward i k) m = forward_transition m (distribution_in_row m.draft.brought m.register m.row i k)

-- 'All refusals change nothing lent': an order that is refused leaves the machine. Proved in proofs/Refused.antt.
abbrev pub RefusedLeaves : Type 0
RefusedLeaves = (o : Order) (m : Machine) → accepted (transition_of o m).said ≡ false → (transition_of o m).next ≡ m
