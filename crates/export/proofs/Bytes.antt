-- The number for no room.
use Rattle.std.proofs.Common.{ℕ, ◌<◌, ◌≡◌, List, length, arith, Result, Ok, Err}
use Rattle.deck.specs.declared.NoRoom.{NoRoom}
use Rattle.deck.specs.Printing.{room, none, printout, printing_on}
use Rattle.deck.proofs.Printing.{printed_within, no_room_only}
use Rattle.export.specs.Bytes.{bytes_in}

-- No listing has as many bytes.
pub told_apart : (register deck out after : List ℕ) (a : Result ℕ NoRoom) → printout a after ≡ printing_on register deck out → length after < bytes_in none →
    bytes_in a ≡ bytes_in none → length out < room (length deck)
told_apart register deck out after (Ok r) e h q = absurd (omega (arith, printed_within register deck out after r e))
told_apart register deck out after (Err x) e h q = no_room_only register deck out after e
