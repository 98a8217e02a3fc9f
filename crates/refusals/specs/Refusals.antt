-- Document 01's number of each refusal ('Refusals in order'), and those of T-01 and T-06.
use Rattle.std.specs.Prelude.{ℕ}
use Rattle.refusals.specs.declared.Refusal.{Refusal}
use Rattle.refusals.specs.declared.Refusal.TheVariants.{Pool, Length, Recovery, Attachments, Hazard, Discount, Accrual, Coupon, Withdrawn}
use Rattle.refusals.specs.declared.Refusal.TheVariants.{Unissued, NoWalk, OverCeiling, OutOfSteps, OffTree, FlatHedge, OffScale}
use Rattle.refusals.specs.declared.Refusal.TheVariants.{Elapsed, Periods}

abbrev pub refusal_number : Refusal → ℕ
refusal_number Pool = 1
refusal_number Length = 2
refusal_number Recovery = 3
refusal_number Attachments = 4
refusal_number Hazard = 5
refusal_number Discount = 6
refusal_number Accrual = 7
refusal_number Coupon = 8
refusal_number Withdrawn = 9
refusal_number Unissued = 10
refusal_number NoWalk = 11
refusal_number OverCeiling = 12
refusal_number OutOfSteps = 13
refusal_number OffTree = 14
refusal_number FlatHedge = 15
refusal_number OffScale = 16
refusal_number Elapsed = 21
refusal_number Periods = 25
