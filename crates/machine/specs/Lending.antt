-- 'The program lends rows of the right length' (document 01, 'Deck and printing program').
use Rattle.std.specs.Prelude.{◌+◌, ◌≡◌, length, take}
use Rattle.walk.specs.RefusalOrders.{FullRows}
use Rattle.machine.specs.Machine.{Machine}
use Rattle.machine.specs.Rooms.{lent_rows}

-- What a call is lent on a machine is as long as its sheet asks: both rows, and the row of forward.
pub record LentFull (m : Machine) : Type 0 where
  pub rows : FullRows m.draft.brought.sheet (lent_rows m.draft.brought m.rooms)
  pub row : length (take (m.draft.brought.sheet.names + 1) m.row) ≡ m.draft.brought.sheet.names + 1
