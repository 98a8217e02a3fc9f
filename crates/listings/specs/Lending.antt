-- 'The program lends rows of the right length': in any run, at any command, on any register. Proved in proofs/Lending.antt.
use Rattle.std.specs.Prelude.{ℕ, zero, suc, ◌≡◌, List, length}
use Rattle.sheet.specs.Limits.{PoolInside}
use Rattle.commands.specs.Commands.{command_at}
use Rattle.machine.specs.Machine.{Machine, machine_on}
use Rattle.machine.specs.Lending.{LentFull}
use Rattle.listings.specs.Effects.{go_on, effect_of}

-- From an offset on, by so many commands at most: where the pool is inside its limits, an order is lent rows, and forward its row, of the length that
-- the pool asks. So none is refused with 2 for them.
unfoldable pub LendsFrom : ℕ → List ℕ → ℕ → Machine → Type 0
LendsFrom zero deck at m = Unit {0}
LendsFrom (suc commands) deck at m =
    (PoolInside m.draft.brought.sheet → LentFull m)
    × ((text : List ℕ) (next : ℕ) (t : Machine) → effect_of (command_at deck at) at m ≡ go_on text next t → LendsFrom commands deck next t)

abbrev pub RowsLent : Type 0
RowsLent = (register deck : List ℕ) → LendsFrom (length deck) deck 0 (machine_on register)
