-- `hedges::net_value` meets its contract: the difference of its two products fits.
use Rattle.std.proofs.Common.{lit<, pos, ◌*ℤ◌, w64, to_z}
use Rattle.cash.specs.Units.{B}
use Rattle.hedges.proofs.Meant.{Is, lit, nat, sub, mul, fits, read}
use Rattle.hedges.proofs.net_value.Goals as goal

default-side : (c : goal.Start) → Is (pos 10_000_000 *ℤ to_z w64 c.args.d) (pos 10_000_000 *ℤ pos c.args.d) 10_000_000_000_000_000
unfolding B
default-side c = mul (lit 10_000_000) (nat c.args.d c.requires.0 (lit< tt))

premium-side : (c : goal.Start) → Is (to_z w64 c.args.coupon *ℤ to_z w64 c.args.a) (pos c.args.coupon *ℤ pos c.args.a) 180_000_000_000_000_000
unfolding B
premium-side c = mul (nat c.args.coupon c.requires.1 (lit< tt)) (nat c.args.a c.requires.2 (lit< tt))

pub overflow_sub-result : goal.overflow_sub-result
overflow_sub-result c = fits (sub (read (default-side c) (lit< tt)) (read (premium-side c) (lit< tt))) (lit< tt)
