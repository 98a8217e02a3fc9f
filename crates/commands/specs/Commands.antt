-- The commands of a deck, as document 01, 'Deck and printing program', lists them.
use Rattle.std.specs.Prelude.{ℕ, zero, suc, ◌+◌, ◌-◌, ◌*◌, Bool, true, false, ◌&&◌, Result, Ok, Err, List, [], ◌∷◌, leb, length, get_or}
use Rattle.commands.specs.declared.Command.{Command}
use Rattle.commands.specs.declared.Command.TheVariants.{Enter, Act}
use Rattle.commands.specs.declared.Stop.{Stop}
use Rattle.commands.specs.declared.Stop.TheVariants.{Unknown, CutShort}
use Rattle.commands.specs.declared.Entry.{Entry}
use Rattle.commands.specs.declared.Entry.TheVariants.{Pool, Attachment, Hazard, Step, Coupon, Elapsed}
use Rattle.commands.specs.declared.Order.{Order}
use Rattle.commands.specs.declared.Order.TheVariants.{Issue, Withdraw, Open, Back, Value, Delta, Forward}

-- the unsigned number in the width bytes of s from at on, low byte first
unfoldable pub low_first : ℕ → List ℕ → ℕ → ℕ
low_first zero s at = 0
low_first (suc width) s at = get_or s at 0 + 256 * low_first width s (at + 1)

-- the widths of the operands of 00, 01 pool, 02 cut, 03 hazard, 04 step, 05 coupon, 06 issue, 07 withdraw, 08 open,
-- 09 back, 0A value, 0B delta, 0C forward, 0D elapsed (T-01); 00 is no command
abbrev pub widths : List ℕ
widths = 0 ∷ (1 + 2 + 1 + 4 + 1) ∷ 4 ∷ 4 ∷ (4 + 4) ∷ 4 ∷ 1 ∷ 1 ∷ 0 ∷ 2 ∷ (1 + 1) ∷ (1 + 1) ∷ (2 + 1) ∷ 4 ∷ []

-- how many bytes of operands a command byte has
unfoldable pub operands : ℕ → ℕ
operands code = get_or widths code 0

-- the commands of the bytes 00, 01, .. 0D, with their operands in s from b on; document 01 calls an attachment point a cut,
-- a tranche a slice, and a count k
unfoldable pub commands : List ℕ → ℕ → List (Result Command Stop)
commands s b =
    Err Unknown
    ∷ Ok (Enter (Pool (low_first 1 s b) (low_first 2 s (b + 1)) (low_first 1 s (b + 3)) (low_first 4 s (b + 4)) (low_first 1 s (b + 8))))
    ∷ Ok (Enter (Attachment (low_first 4 s b)))
    ∷ Ok (Enter (Hazard (low_first 4 s b)))
    ∷ Ok (Enter (Step (low_first 4 s b) (low_first 4 s (b + 4))))
    ∷ Ok (Enter (Coupon (low_first 4 s b)))
    ∷ Ok (Act (Issue (low_first 1 s b)))
    ∷ Ok (Act (Withdraw (low_first 1 s b)))
    ∷ Ok (Act Open)
    ∷ Ok (Act (Back (low_first 2 s b)))
    ∷ Ok (Act (Value (low_first 1 s b) (low_first 1 s (b + 1))))
    ∷ Ok (Act (Delta (low_first 1 s b) (low_first 1 s (b + 1))))
    ∷ Ok (Act (Forward (low_first 2 s b) (low_first 1 s (b + 2))))
    ∷ Ok (Enter (Elapsed (low_first 4 s b)))
    ∷ []

-- the command of a command byte
abbrev pub decoded : ℕ → List ℕ → ℕ → Result Command Stop
decoded code s b = get_or (commands s b) code (Err Unknown)

abbrev pub pick : Bool → Result Command Stop → Result Command Stop → Result Command Stop
pick true a b = a
pick false a b = b

-- the bytes 01 to 0D are commands
abbrev pub is_command : ℕ → Bool
is_command code = leb 1 code && leb code 13

-- what stands at an offset: 18 for a byte that is no command, then 19 for operands that run past the end, else the command
unfoldable pub command_at : List ℕ → ℕ → Result Command Stop
command_at s at =
    let code = get_or s at 0 in
    let rest = length s - (at + 1) in
    pick (is_command code) (pick (leb (operands code) rest) (decoded code s (at + 1)) (Err CutShort)) (Err Unknown)

-- how many bytes a command has, with its command byte
unfoldable pub entry_size : Entry → ℕ
entry_size (Pool names steps tranches recovery number) = 10
entry_size (Attachment x) = 5
entry_size (Hazard p) = 5
entry_size (Step discount accrual) = 9
entry_size (Coupon x) = 5
entry_size (Elapsed e) = 5

unfoldable pub order_size : Order → ℕ
order_size (Issue number) = 2
order_size (Withdraw number) = 2
order_size Open = 1
order_size (Back steps) = 3
order_size (Value tranche count) = 3
order_size (Delta tranche count) = 3
order_size (Forward step count) = 4
