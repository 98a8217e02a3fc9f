-- What a run answers, and leaves in out and in the register.
use Rattle.std.specs.Prelude.{ℕ, ◌+◌, ◌*◌, min, true, false, Result, Ok, Err, List, ◌++◌, ltb, length, drop}
use Rattle.register.specs.Events.{blank_register}
use Rattle.listings.specs.Listing.{listing_on, register_after}
use Rattle.deck.specs.declared.NoRoom.{NoRoom}

-- ---- The room that is asked for: 32 bytes for each byte of a deck, and 96 for the last line

unfoldable pub room : ℕ → ℕ
room bytes = 32 * min bytes 65536 + 96

-- What a run answers and leaves in out: as many bytes as the listing has, which stand at its start, before the rest of what stood there.
pub record Printout : Type 0 where
  pub answer : Result ℕ NoRoom
  pub out : List ℕ

abbrev pub printout : Result ℕ NoRoom → List ℕ → Printout
printout r out = record { answer = r; out = out }

-- With no room nothing is written.
abbrev pub none : Result ℕ NoRoom
none = Err (record {})

unfoldable pub printing_on : List ℕ → List ℕ → List ℕ → Printout
printing_on register deck out =
    elim (ltb (length out) (room (length deck))) [
      | true ↦ printout none out
      | false ↦
          printout (Ok (length (listing_on register deck))) (listing_on register deck ++ drop (length (listing_on register deck)) out)
    ]

abbrev pub printing : List ℕ → List ℕ → Printout
printing deck out = printing_on blank_register deck out

-- Nor is the register changed then.
unfoldable pub register_left : List ℕ → List ℕ → List ℕ → List ℕ
register_left register deck out = elim (ltb (length out) (room (length deck))) [ true ↦ register | false ↦ register_after register deck ]
