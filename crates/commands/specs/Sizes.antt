-- How large the operands of a command can be: less than 256 to the power of their width.
use Rattle.std.specs.Prelude.{ℕ, ◌^◌, ◌≤◌, ◌<◌, Result, Ok, Err, List, get_or}
use Rattle.commands.specs.declared.Command.{Command}
use Rattle.commands.specs.declared.Command.TheVariants.{Enter, Act}
use Rattle.commands.specs.declared.Stop.{Stop}
use Rattle.commands.specs.declared.Entry.{Entry}
use Rattle.commands.specs.declared.Entry.TheVariants.{Pool, Attachment, Hazard, Step, Coupon, Elapsed}
use Rattle.commands.specs.declared.Order.{Order}
use Rattle.commands.specs.declared.Order.TheVariants.{Issue, Withdraw, Open, Back, Value, Delta, Forward}

-- s is a list of bytes
abbrev pub Bytes : List ℕ → Type 0
Bytes s = (i : ℕ) → get_or s i 0 < 256

abbrev pub EntrySized : Entry → Type 0
EntrySized (Pool names steps tranches recovery number) =
    (names ≤ 255) × (steps ≤ 65535) × (tranches ≤ 255) × (recovery < 2 ^ 32) × (number ≤ 255)
EntrySized (Attachment x) = x < 2 ^ 32
EntrySized (Hazard p) = p < 2 ^ 32
EntrySized (Step discount accrual) = (discount < 2 ^ 32) × (accrual < 2 ^ 32)
EntrySized (Coupon x) = x < 2 ^ 32
EntrySized (Elapsed e) = e < 2 ^ 32

abbrev pub OrderSized : Order → Type 0
OrderSized (Issue number) = number ≤ 255
OrderSized (Withdraw number) = number ≤ 255
OrderSized Open = Unit {0}
OrderSized (Back steps) = steps ≤ 65535
OrderSized (Value tranche count) = (tranche ≤ 255) × (count ≤ 255)
OrderSized (Delta tranche count) = (tranche ≤ 255) × (count ≤ 255)
OrderSized (Forward step count) = (step ≤ 65535) × (count ≤ 255)

abbrev pub Sized : Result Command Stop → Type 0
Sized (Ok (Enter e)) = EntrySized e
Sized (Ok (Act o)) = OrderSized o
Sized (Err stop) = Unit {0}
