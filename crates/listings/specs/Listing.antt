-- What a deck prints, and the register that it leaves (document 01, 'Deck and printing program').
use Rattle.std.specs.Prelude.{ℕ, true, false, List, ltb, length}
use Rattle.register.specs.Events.{blank_register}
use Rattle.machine.specs.Machine.{machine_on}
use Rattle.render.specs.Lines.{deck_line}
use Rattle.listings.specs.ListingFrom.{listing_from}
use Rattle.listings.specs.RegisterFrom.{register_from}

-- The whole listing of a run on a register. Each command has a byte at least, so there are no more commands than bytes. An oversized deck prints
-- only one line.
unfoldable pub listing_on : List ℕ → List ℕ → List ℕ
listing_on register deck =
    elim (ltb 65536 (length deck)) [ true ↦ deck_line 20 65536 | false ↦ listing_from (length deck) deck 0 (machine_on register) ]

-- The program starts with a blank register.
abbrev pub listing : List ℕ → List ℕ
listing deck = listing_on blank_register deck

-- The register that a run leaves. An oversized deck does nothing.
unfoldable pub register_after : List ℕ → List ℕ → List ℕ
register_after register deck =
    elim (ltb 65536 (length deck)) [ true ↦ register | false ↦ register_from (length deck) deck 0 (machine_on register) ]
