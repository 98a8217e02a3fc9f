-- The calls of the walk that the orders make, as the code tells them apart.
use Rattle.std.specs.Prelude.{ℕ, List}
use Rattle.commands.specs.declared.Order.{Order}
use Rattle.commands.specs.declared.Order.TheVariants.{Issue, Withdraw, Open, Back, Value, Delta, Forward}
use Rattle.sheet.specs.Brought.{Brought}
use Rattle.rows.specs.Rows.{Rows}
use Rattle.figures.specs.Answer.{Done}
use Rattle.walk.specs.declared.Walk.{Walk}
use Rattle.walk.specs.Calls.{Outcome}
use Rattle.machine.specs.Rooms.{open_in_rooms, back_in_rooms, value_in_rooms, ratio_in_rooms}

-- Value and delta only read the rooms. The other orders read nothing there: the walk is handed back, and the rooms keep.
abbrev pub no_reading : Walk → Rows → Outcome
no_reading w rooms = record { answer = Done; walk = w; rows = rooms }

unfoldable pub reading_of : Order → Brought → List ℕ → Walk → Rows → Outcome
reading_of (Issue y) x register w rooms = no_reading w rooms
reading_of (Withdraw y) x register w rooms = no_reading w rooms
reading_of Open x register w rooms = no_reading w rooms
reading_of (Back c) x register w rooms = no_reading w rooms
reading_of (Value j k) x register w rooms = value_in_rooms x register w rooms j k
reading_of (Delta j k) x register w rooms = ratio_in_rooms x register w rooms j k
reading_of (Forward i k) x register w rooms = no_reading w rooms

-- The call of the walk that an order makes: open and back, and what is read.
unfoldable pub call_of : Order → Brought → List ℕ → Walk → Rows → Outcome
call_of (Issue y) x register w rooms = reading_of (Issue y) x register w rooms
call_of (Withdraw y) x register w rooms = reading_of (Withdraw y) x register w rooms
call_of Open x register w rooms = open_in_rooms x register w rooms
call_of (Back c) x register w rooms = back_in_rooms x register w rooms c
call_of (Value j k) x register w rooms = reading_of (Value j k) x register w rooms
call_of (Delta j k) x register w rooms = reading_of (Delta j k) x register w rooms
call_of (Forward i k) x register w rooms = reading_of (Forward i k) x register w rooms
