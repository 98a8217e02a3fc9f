-- Each order keeps to the rule of its call, on the rows that the program lends it: the first refusal of the call's order, what an accepted call does,
-- what a refused one leaves. So nothing that a deck says or leaves is decided elsewhere than by the rules of the calls. Proved in proofs/OrderRules.antt.
use Rattle.std.specs.Prelude.{ℕ, ◌+◌, ◌≤◌, ◌<◌, ◌≡◌, true, false, [], ◌∷◌, ◌++◌, pos, get_or, take, drop}
use Rattle.commands.specs.declared.Order.{Order}
use Rattle.commands.specs.declared.Order.TheVariants.{Issue, Withdraw, Open, Back, Value, Delta, Forward}
use Rattle.rows.specs.Rows.{rows_of, row_length}
use Rattle.walk.specs.Answers.{accepted}
use Rattle.walk.specs.CallRules.{RegisterResult, WalkResult, ForwardResult, says}
use Rattle.walk.specs.CallRules.{IssueRule, WithdrawRule, OpenRule, BackRule, ValueRule, RatioRule, ForwardRule}
use Rattle.machine.specs.Machine.{Machine}
use Rattle.machine.specs.Rooms.{lent_rows}
use Rattle.machine.specs.Transitions.{Transition, transition_of}

-- What a write of the register says and leaves, as a transition of a machine.
abbrev pub written_transition : Machine → RegisterResult → Transition
written_transition m o =
    record {
      said = o.said;
      next = record { draft = m.draft; register = o.register; walk = m.walk; rooms = m.rooms; row = m.row };
    }

-- The same of a call of the walk: its rows stand before what was not lent of each room.
abbrev pub called_transition : Machine → WalkResult → Transition
called_transition m o =
    let n : ℕ = row_length m.draft.brought.sheet in
    record {
      said = o.said;
      next =
          record {
            draft = m.draft;
            register = m.register;
            walk = o.walk;
            rooms = rows_of (o.rows.defaults ++ drop n m.rooms.defaults) (o.rows.premiums ++ drop n m.rooms.premiums);
            row = m.row;
          };
    }

-- An order says and leaves what a result of its call does, and the result keeps to the call's rule.
abbrev pub ByWrite : Machine → (RegisterResult → Type 0) → Transition → Type 0
ByWrite m Rule t = (o : RegisterResult) × Rule o × (t ≡ written_transition m o)

abbrev pub ByCall : Machine → (WalkResult → Type 0) → Transition → Type 0
ByCall m Rule t = (o : WalkResult) × Rule o × (t ≡ called_transition m o)

-- Forward tells one entry of its row. A count above n is 14, after the call's own refusals; then the row is left.
pub record CountRule (m : Machine) (o : ForwardResult) (k : ℕ) (t : Transition) : Type 0 where
  pub refused : accepted o.said ≡ false → t ≡ record { said = o.said; next = m }
  pub off_tree : accepted o.said ≡ true → m.draft.brought.sheet.names < k → t ≡ record { said = record { number = 14; values = [] }; next = m }
  pub told : accepted o.said ≡ true → k ≤ m.draft.brought.sheet.names →
      t ≡ record {
        said = says (pos (get_or o.row k 0) ∷ []);
        next =
            record {
              draft = m.draft;
              register = m.register;
              walk = m.walk;
              rooms = m.rooms;
              row = o.row ++ drop (m.draft.brought.sheet.names + 1) m.row;
            };
      }

abbrev pub OrderRule : Order → Machine → Transition → Type 0
OrderRule (Issue y) m t = ByWrite m (IssueRule m.register y) t
OrderRule (Withdraw y) m t = ByWrite m (WithdrawRule m.register y) t
OrderRule Open m t = let x = m.draft.brought in ByCall m (OpenRule x m.register m.walk (lent_rows x m.rooms)) t
OrderRule (Back c) m t = let x = m.draft.brought in ByCall m (BackRule x m.register m.walk (lent_rows x m.rooms) c) t
OrderRule (Value j k) m t = let x = m.draft.brought in ByCall m (ValueRule x m.register m.walk (lent_rows x m.rooms) j k) t
OrderRule (Delta j k) m t = let x = m.draft.brought in ByCall m (RatioRule x m.register m.walk (lent_rows x m.rooms) j k) t
OrderRule (Forward i k) m t =
    let x = m.draft.brought in
    (o : ForwardResult) × ForwardRule x m.register (take (x.sheet.names + 1) m.row) i o × CountRule m o k t

abbrev pub OrdersByRules : Type 0
OrdersByRules = (o : Order) (m : Machine) → OrderRule o m (transition_of o m)
