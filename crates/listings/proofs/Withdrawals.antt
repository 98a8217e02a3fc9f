-- No deck makes a withdrawn number live or unissued again, or shows a figure of it.
use mathlib.Core.Bool.{false≢true}
use Rattle.register.specs.Register.{Write, issue, withdraw, byte_of, answer_of, is_accepted, leaves_of}
use Rattle.register.specs.Rules.{Unissued, Live, Withdrawn}
use Rattle.register.proofs.Rules.{of_withdrawn}
use Rattle.commands.specs.declared.Command.{Command}
use Rattle.commands.specs.declared.Command.TheVariants.{Enter, Act}
use Rattle.commands.specs.declared.Stop.{Stop}
use Rattle.std.proofs.Common.{ℕ, zero, suc, ◌+◌, ◌≡◌, refl, sym, ap, ◌∙◌, Bool, true, false, cond, List, [], ltb, ◌⊎◌, inl, inr, length, get_or, set}
use Rattle.std.proofs.Common.{take, length-set, get_or-set_other, Result, Ok, Err}
use Rattle.commands.specs.declared.Order.{Order}
use Rattle.commands.specs.declared.Order.TheVariants.{Issue, Withdraw, Open, Back, Value, Delta, Forward}
use Rattle.commands.specs.Commands.{command_at, entry_size, order_size}
use Rattle.entries.specs.Draft.{has_room, added}
use Rattle.render.specs.Lines.{deck_line}
use Rattle.figures.specs.Answer.{Answer, Refused, Done, Position, Worth, Ratio}
use Rattle.walk.specs.Answers.{fresh, said_of}
use Rattle.walk.specs.RefusalOrders.{RefusalOrder}
use Rattle.walk.specs.Accuracy.{EarlyRefusal}
use Rattle.walk.specs.Power.{Shut, state_after_events}
use Rattle.walk.specs.OurEngine.{ours}
use Rattle.walk.proofs.OurEngine.{ours_keeps}
use Rattle.machine.specs.Machine.{Machine, machine_on}
use Rattle.machine.specs.Rooms.{lent_rows, open_in_rooms, back_in_rooms, value_in_rooms, ratio_in_rooms, forward_in_row, count_said, count_in_row, distribution_in_row}
use Rattle.machine.specs.Transitions.{transition_of}
use Rattle.listings.specs.Effects.{Effect, stop, go_on, with_draft, entry_effect, order_effect, effect_of}
use Rattle.listings.specs.RegisterFrom.{register_from}
use Rattle.listings.specs.Listing.{register_after}
use Rattle.listings.specs.Withdrawals.{KeepsWithdrawn, brought_by, refusals_of, DeckWithdrawals}

unchanged : (g : List ℕ) → KeepsWithdrawn g g
unchanged g = record { size = refl; withdrawn = λ x w. w; byte = λ x w. refl }

then : (f g h : List ℕ) → KeepsWithdrawn f g → KeepsWithdrawn g h → KeepsWithdrawn f h
then f g h a b =
    record {
      size = b.size ∙ a.size;
      withdrawn = λ x w. b.withdrawn x (a.withdrawn x w);
      byte = λ x w. b.byte x (a.withdrawn x w) ∙ a.byte x w;
    }

-- no issue or withdraw of a withdrawn number is accepted
never_accepted : (w : Write) (g : List ℕ) (x : ℕ) → Withdrawn g x → is_accepted (answer_of w g x) ≡ true → ⊥
never_accepted issue g x d t = false≢true (sym (ap is_accepted (of_withdrawn issue g x d)) ∙ t)
never_accepted withdraw g x d t = false≢true (sym (ap is_accepted (of_withdrawn withdraw g x d)) ∙ t)

-- so what is written is another number's byte
written : (w : Write) (g : List ℕ) (y : ℕ) → KeepsWithdrawn g (leaves_of w g y)
written w g y = go (is_accepted (answer_of w g y)) refl
  where
    beside : is_accepted (answer_of w g y) ≡ true → (x : ℕ) → Withdrawn g x → get_or (set g y (byte_of w)) x 0 ≡ get_or g x 0
    beside e x d = get_or-set_other g y x (byte_of w) 0 (λ p. never_accepted w g x d (rw p e))

    go : (b : Bool) → is_accepted (answer_of w g y) ≡ b → KeepsWithdrawn g (cond b (set g y (byte_of w)) g)
    go true e =
        record {
          size = length-set g y (byte_of w);
          withdrawn = λ x d.
              record {
                size = length-set g y (byte_of w) ∙ d.size;
                not_unissued = λ p. d.not_unissued (sym (beside e x d) ∙ p);
                not_live = λ p. d.not_live (sym (beside e x d) ∙ p);
              };
          byte = beside e;
        }
    go false e = unchanged g

ordered : (o : Order) (m : Machine) → KeepsWithdrawn m.register (transition_of o m).next.register
unfolding transition_of
ordered (Issue y) m = written issue m.register y
ordered (Withdraw y) m = written withdraw m.register y
ordered Open m = unchanged m.register
ordered (Back c) m = unchanged m.register
ordered (Value j k) m = unchanged m.register
ordered (Delta j k) m = unchanged m.register
ordered (Forward i k) m = unchanged m.register

-- the register behind a command that is read, where `rest` is what the run after it keeps
module _ (n : ℕ) (deck : List ℕ) (at : ℕ) (m : Machine) (rest : (next : ℕ) (t : Machine) → KeepsWithdrawn t.register (register_from n deck next t)) where
  behind : Effect → List ℕ
  behind e = elim e [ stop text ↦ m.register | go_on text next t ↦ register_from n deck next t ]

  entered : (b : Bool) (next : ℕ) (t : Machine) (text : List ℕ) → t.register ≡ m.register →
      KeepsWithdrawn m.register (behind (elim b [ true ↦ go_on [] next t | false ↦ stop text ]))
  unfolding behind
  entered true next t text e = rw (sym e) (rest next t)
  entered false next t text e = unchanged m.register

  commanded : (c : Result Command Stop) → KeepsWithdrawn m.register (behind (effect_of c at m))
  unfolding behind effect_of entry_effect order_effect
  commanded (Err s) = unchanged m.register
  commanded (Ok (Act o)) = then _ _ _ (ordered o m) (rest (at + order_size o) (transition_of o m).next)
  commanded (Ok (Enter y)) = entered (has_room y m.draft) (at + entry_size y) (with_draft m (added y m.draft)) (deck_line 20 at) refl

  commands_keep : (b : Bool) → KeepsWithdrawn m.register (elim b [ true ↦ behind (effect_of (command_at deck at) at m) | false ↦ m.register ])
  commands_keep true = commanded (command_at deck at)
  commands_keep false = unchanged m.register

onwards : (commands : ℕ) (deck : List ℕ) (at : ℕ) (m : Machine) → KeepsWithdrawn m.register (register_from commands deck at m)
unfolding register_from behind
onwards zero deck at m = unchanged m.register
onwards (suc n) deck at m = commands_keep n deck at m (λ next t. onwards n deck next t) (ltb at (length deck))

-- ---- what is said of a withdrawn number

-- a number that a register doesn't say unissued or live is refused by every call
pub shut : (g : List ℕ) (y : ℕ) → ¬ (Unissued g y ⊎ Live g y) → Shut ours g y
unfolding state_after_events
shut g y n = (ours_keeps.power (record { register = g; walk = fresh; rows = (machine_on g).rooms }) []).stays y n

withdrawn_shut : (g : List ℕ) (y : ℕ) → Withdrawn g y → Shut ours g y
withdrawn_shut g y w = shut g y readable
  where
    readable : Unissued g y ⊎ Live g y → ⊥
    readable (inl u) = w.not_unissued u.byte
    readable (inr l) = w.not_live l.byte

-- a refused forward tells no entry of its row
untold : (order : RefusalOrder) (a : Answer) (row : List ℕ) (n k : ℕ) → EarlyRefusal order (said_of a) → EarlyRefusal order (count_said a row n k)
unfolding count_said
untold order (Refused f) row n k e = e
untold order Done row n k e = absurd (false≢true (sym e.refused))
untold order (Position i) row n k e = e
untold order (Worth d a w) row n k e = e
untold order (Ratio z) row n k e = e

pub hidden : (o : Order) (m : Machine) → Shut ours m.register (brought_by o m) → EarlyRefusal (refusals_of o m) (transition_of o m).said
unfolding brought_by refusals_of transition_of open_in_rooms back_in_rooms value_in_rooms ratio_in_rooms forward_in_row count_in_row distribution_in_row
hidden (Issue y) m s = s.issue.0
hidden (Withdraw y) m s = s.withdraw.0
hidden Open m s = let x = m.draft.brought in (s.opening x m.walk (lent_rows x m.rooms) refl).0
hidden (Back c) m s = let x = m.draft.brought in (s.back x m.walk (lent_rows x m.rooms) c refl).0
hidden (Value j k) m s = let x = m.draft.brought in (s.value x m.walk (lent_rows x m.rooms) j k refl).0
hidden (Delta j k) m s = let x = m.draft.brought in (s.ratio x m.walk (lent_rows x m.rooms) j k refl).0
hidden (Forward i k) m s = let x = m.draft.brought in untold _ _ _ _ k (s.forward x (take (x.sheet.names + 1) m.row) i refl).0

pub deck_withdrawals : DeckWithdrawals
unfolding register_after
deck_withdrawals =
    record {
      whole = λ register deck. sized register deck (ltb 65536 (length deck));
      onwards = onwards;
      hidden = λ o m w. hidden o m (withdrawn_shut m.register (brought_by o m) w);
    }
  where
    sized : (register deck : List ℕ) (b : Bool) →
        KeepsWithdrawn register (elim b [ true ↦ register | false ↦ register_from (length deck) deck 0 (machine_on register) ])
    sized register deck true = unchanged register
    sized register deck false = onwards (length deck) deck 0 (machine_on register)
