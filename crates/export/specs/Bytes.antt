-- What a run of a deck answers, as a number.
use Rattle.std.specs.Prelude.{ℕ, Result}
use Rattle.std.specs.Result.{result_unwrap_or}
use Rattle.deck.specs.declared.NoRoom.{NoRoom}

-- The bytes that a deck printed. No listing has as many as the number for no room.
abbrev pub bytes_in : Result ℕ NoRoom → ℕ
bytes_in r = result_unwrap_or r 0xFFFF_FFFF_FFFF_FFFF
