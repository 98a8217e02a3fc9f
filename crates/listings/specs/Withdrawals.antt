-- Demand 1 of decks: a withdrawn number stays withdrawn and shows no figure.
use Rattle.std.specs.Prelude.{ℕ, ◌+◌, ◌≡◌, List, length, get_or, take}
use Rattle.register.specs.Rules.{Withdrawn}
use Rattle.commands.specs.declared.Order.{Order}
use Rattle.commands.specs.declared.Order.TheVariants.{Issue, Withdraw, Open, Back, Value, Delta, Forward}
use Rattle.walk.specs.RefusalOrders.{RefusalOrder, issue_order, withdraw_order, open_order, back_order, value_order, ratio_order, forward_order}
use Rattle.walk.specs.Accuracy.{EarlyRefusal}
use Rattle.machine.specs.Machine.{Machine}
use Rattle.machine.specs.Rooms.{lent_rows}
use Rattle.machine.specs.Transitions.{transition_of}
use Rattle.listings.specs.RegisterFrom.{register_from}
use Rattle.listings.specs.Listing.{register_after}

-- What a register says withdrawn, by whatever byte, a later one says so too, by the same byte.
pub record KeepsWithdrawn (before after : List ℕ) : Type 0 where
  pub size : length after ≡ length before
  pub withdrawn : (x : ℕ) → Withdrawn before x → Withdrawn after x
  pub byte : (x : ℕ) → Withdrawn before x → get_or after x 0 ≡ get_or before x 0

-- The number that an order brings: its own, or that of the sheet as it is entered.
unfoldable pub brought_by : Order → Machine → ℕ
brought_by (Issue y) m = y
brought_by (Withdraw y) m = y
brought_by Open m = m.draft.brought.number
brought_by (Back c) m = m.draft.brought.number
brought_by (Value j k) m = m.draft.brought.number
brought_by (Delta j k) m = m.draft.brought.number
brought_by (Forward i k) m = m.draft.brought.number

-- The order of refusals of the call that an order makes.
unfoldable pub refusals_of : Order → Machine → RefusalOrder
refusals_of (Issue y) m = issue_order m.register y
refusals_of (Withdraw y) m = withdraw_order m.register y
refusals_of Open m = let x = m.draft.brought in open_order x m.register (lent_rows x m.rooms)
refusals_of (Back c) m = let x = m.draft.brought in back_order x m.register m.walk (lent_rows x m.rooms) c
refusals_of (Value j k) m = let x = m.draft.brought in value_order x m.register m.walk (lent_rows x m.rooms) j k
refusals_of (Delta j k) m = let x = m.draft.brought in ratio_order x m.register m.walk (lent_rows x m.rooms) j k
refusals_of (Forward i k) m = let x = m.draft.brought in forward_order x m.register (take (x.sheet.names + 1) m.row) i

pub record DeckWithdrawals : Type 0 where
  -- What is withdrawn when a deck starts, on any register, is withdrawn when it ends.
  pub whole : (register deck : List ℕ) → KeepsWithdrawn register (register_after register deck)
  -- So is, from any command of it on, what is withdrawn then: what the deck itself withdraws, too.
  pub onwards : (commands : ℕ) (deck : List ℕ) (at : ℕ) (m : Machine) → KeepsWithdrawn m.register (register_from commands deck at m)
  -- An order that brings a withdrawn number says a refusal and no figure.
  pub hidden : (o : Order) (m : Machine) → Withdrawn m.register (brought_by o m) → EarlyRefusal (refusals_of o m) (transition_of o m).said
