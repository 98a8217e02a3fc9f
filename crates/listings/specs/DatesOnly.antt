-- All fractions 0 reproduce the listing before T-01, and the register: in a deck whose commands 0D enter 0, none or m of them before each order that
-- brings a sheet, which a test of its bytes tells; in one without 0D, also by the commands as they were; in any whose orders all meet m zeros.
-- Before T-01 the byte 0D was no command: where a deck has it, it is read as an entry, and a stop tells its offset with it.
use Rattle.std.specs.Prelude.{ℕ, zero, suc, ◌+◌, ◌-◌, ◌≡◌, Bool, true, false, not, ◌&&◌, ◌||◌, Result, Ok, Err, List, [], leb, ltb, eqb, length, get_or}
use Rattle.commands.specs.declared.Command.{Command}
use Rattle.commands.specs.declared.Command.TheVariants.{Enter, Act}
use Rattle.commands.specs.declared.Stop.{Stop}
use Rattle.commands.specs.declared.Stop.TheVariants.{Unknown, CutShort}
use Rattle.commands.specs.declared.Entry.TheVariants.{Pool, Attachment, Hazard, Step, Coupon, Elapsed}
use Rattle.commands.specs.declared.Order.{Order}
use Rattle.commands.specs.declared.Order.TheVariants.{Issue, Withdraw, Open, Back, Value, Delta, Forward}
use Rattle.commands.specs.Commands.{operands, decoded, pick, command_at, entry_size, order_size}
use Rattle.sheet.specs.Terms.{Terms}
use Rattle.entries.specs.Draft.{fractions}
use Rattle.walk.specs.DatesOnly.{dates_only_manner}
use Rattle.machine.specs.Machine.{Machine, machine_on}
use Rattle.listings.specs.Effects.{go_on, effect_of}
use Rattle.listings.specs.Listing.{listing_on, register_after}
use Rattle.listings.specs.Manners.{manner_listing, manner_register}

-- ---- decks whose commands 0D enter zeros: a test of their bytes

-- How many bytes a command has. One that is none has no size: there the run ends.
abbrev pub command_size : Result Command Stop → ℕ
command_size (Ok (Enter e)) = entry_size e
command_size (Ok (Act o)) = order_size o
command_size (Err s) = 0

-- No fraction is entered, or as many as steps.
abbrev pub none_or_all : ℕ → ℕ → Bool
none_or_all steps entered = eqb entered 0 || eqb entered steps

-- A command, and what stands behind it. `steps` are those of the pool read so far, 0 before one, and `entered` is the number of fractions. Each
-- fraction is 0, and before an order that brings a sheet there are none or as many as steps. Where the run ends nothing is asked.
abbrev pub zeros_at : Result Command Stop → (ℕ → ℕ → Bool) → ℕ → ℕ → Bool
zeros_at (Ok (Enter (Pool n m r recovery number))) behind steps entered = behind m entered
zeros_at (Ok (Enter (Attachment a))) behind steps entered = behind steps entered
zeros_at (Ok (Enter (Hazard p))) behind steps entered = behind steps entered
zeros_at (Ok (Enter (Step v d))) behind steps entered = behind steps entered
zeros_at (Ok (Enter (Coupon s))) behind steps entered = behind steps entered
zeros_at (Ok (Enter (Elapsed e))) behind steps entered = eqb e 0 && behind steps (entered + 1)
zeros_at (Ok (Act (Issue y))) behind steps entered = behind steps entered
zeros_at (Ok (Act (Withdraw y))) behind steps entered = behind steps entered
zeros_at (Ok (Act Open)) behind steps entered = none_or_all steps entered && behind steps entered
zeros_at (Ok (Act (Back c))) behind steps entered = none_or_all steps entered && behind steps entered
zeros_at (Ok (Act (Value j k))) behind steps entered = none_or_all steps entered && behind steps entered
zeros_at (Ok (Act (Delta j k))) behind steps entered = none_or_all steps entered && behind steps entered
zeros_at (Ok (Act (Forward i k))) behind steps entered = none_or_all steps entered && behind steps entered
zeros_at (Err s) behind steps entered = true

-- From an offset on, with so many commands at most.
unfoldable pub enters_zeros_from : ℕ → List ℕ → ℕ → ℕ → ℕ → Bool
enters_zeros_from zero deck at steps entered = true
enters_zeros_from (suc commands) deck at steps entered =
    let c = command_at deck at in
    elim (ltb at (length deck)) [
      | true ↦ zeros_at c (enters_zeros_from commands deck (at + command_size c)) steps entered
      | false ↦ true
    ]

-- Of a whole deck. Where a run stops by 20 the test reads on, which only makes it stricter. A pool of more than 3,650 steps passes with no fraction:
-- every order that brings its sheet is refused by 1.
abbrev pub enters_zeros : List ℕ → Bool
enters_zeros deck = enters_zeros_from (length deck) deck 0 0 0

-- ---- decks without 0D

-- What stood at an offset: the bytes 01 to 0C were commands, with the operands that they have.
unfoldable pub earlier_command_at : List ℕ → ℕ → Result Command Stop
earlier_command_at s at =
    let code = get_or s at 0 in
    let rest = length s - (at + 1) in
    pick (leb 1 code && leb code 12) (pick (leb (operands code) rest) (decoded code s (at + 1)) (Err CutShort)) (Err Unknown)

-- No command byte of a deck, read one after the other, is 0D.
unfoldable pub enters_none : ℕ → List ℕ → ℕ → Bool
enters_none zero deck at = true
enters_none (suc commands) deck at =
    elim (ltb at (length deck)) [
      | true ↦ not (eqb (get_or deck at 0) 13) && enters_none commands deck (at + command_size (command_at deck at))
      | false ↦ true
    ]

-- ---- decks whose orders meet m zeros, by the states of a run

-- The fractions are those of a deck that enters none.
abbrev pub HasZeros : Terms → Type 0
HasZeros x = x.elapsed ≡ fractions [] x.steps

-- An order that brings a sheet meets m zeros.
abbrev pub OrderMeets : Order → Machine → Type 0
OrderMeets (Issue y) m = Unit {0}
OrderMeets (Withdraw y) m = Unit {0}
OrderMeets Open m = HasZeros m.draft.brought.sheet
OrderMeets (Back c) m = HasZeros m.draft.brought.sheet
OrderMeets (Value j k) m = HasZeros m.draft.brought.sheet
OrderMeets (Delta j k) m = HasZeros m.draft.brought.sheet
OrderMeets (Forward i k) m = HasZeros m.draft.brought.sheet

abbrev pub MeetsZeros : Result Command Stop → Machine → Type 0
MeetsZeros (Ok (Act o)) m = OrderMeets o m
MeetsZeros (Ok (Enter e)) m = Unit {0}
MeetsZeros (Err s) m = Unit {0}

-- Every order of a run does, from an offset on.
unfoldable pub ZerosFrom : ℕ → List ℕ → ℕ → Machine → Type 0
ZerosFrom zero deck at m = Unit {0}
ZerosFrom (suc commands) deck at m =
    ltb at (length deck) ≡ true →
    MeetsZeros (command_at deck at) m
    × ((text : List ℕ) (next : ℕ) (t : Machine) → effect_of (command_at deck at) at m ≡ go_on text next t → ZerosFrom commands deck next t)

-- ---- of any such deck, on any register

pub record DecksByDates : Type 0 where
  -- By the test of the deck's bytes.
  pub listing_of_zeros : (register deck : List ℕ) → enters_zeros deck ≡ true →
      listing_on register deck ≡ manner_listing command_at dates_only_manner register deck
  pub register_of_zeros : (register deck : List ℕ) → enters_zeros deck ≡ true →
      register_after register deck ≡ manner_register command_at dates_only_manner register deck
  -- Without 0D the listing and the register are the earlier ones, by the earlier commands.
  pub listing_without : (register deck : List ℕ) → enters_none (length deck) deck 0 ≡ true →
      listing_on register deck ≡ manner_listing earlier_command_at dates_only_manner register deck
  pub register_without : (register deck : List ℕ) → enters_none (length deck) deck 0 ≡ true →
      register_after register deck ≡ manner_register earlier_command_at dates_only_manner register deck
  -- By the states of the run, whatever the bytes are that lead there.
  pub listing : (register deck : List ℕ) → ZerosFrom (length deck) deck 0 (machine_on register) →
      listing_on register deck ≡ manner_listing command_at dates_only_manner register deck
  pub register_left : (register deck : List ℕ) → ZerosFrom (length deck) deck 0 (machine_on register) →
      register_after register deck ≡ manner_register command_at dates_only_manner register deck
