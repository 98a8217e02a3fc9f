-- `hedges::jump` meets its contract: each change is as meant, and so is what the jump makes of them.
use Rattle.std.proofs.Common.{◌*◌, lit<, pos, ◌+ℤ◌, ◌*ℤ◌, w64, to_z, of_z}
use Rattle.cash.specs.Units.{B}
use Rattle.hedges.specs.Hedges.{change_of, jump_of}
use Rattle.hedges.proofs.Meant.{Is, lit, nat, add, sub, mul, fits, read}
use Rattle.hedges.proofs.Jumps.{changed}
use Rattle.hedges.proofs.jump.Goals as goal

-- what a default brings: loss and default leg together
brought : (c : goal.After-change-2) →
    let a = c.args in
    Is (to_z w64 (of_z w64 c.change.result) +ℤ to_z w64 (of_z w64 c.change-2.result))
    (change_of a.here.loss a.next.loss +ℤ change_of a.here.default a.next.default) 2_000_000_000
unfolding B
brought c =
    add
    (read (changed _ _ B c.requires.1.loss c.requires.2.loss c.change.ensures) (lit< tt))
    (read (changed _ _ B c.requires.1.default c.requires.2.default c.change-2.ensures) (lit< tt))

-- what it takes: coupon × the change of the premium leg
taken : (c : goal.After-change-3) →
    let a = c.args in
    Is (to_z w64 a.coupon *ℤ to_z w64 (of_z w64 c.change-3.result))
    (pos a.coupon *ℤ change_of a.here.premium a.next.premium) 180_000_000_000_000_000
unfolding B
taken c =
    mul (nat c.args.coupon c.requires.0 (lit< tt)) (read (changed _ _ (18 * B) c.requires.1.premium c.requires.2.premium c.change-3.ensures) (lit< tt))

pub overflow_add-result : goal.overflow_add-result
overflow_add-result c = fits (brought c) (lit< tt)

pub overflow_mul-result : goal.overflow_mul-result
overflow_mul-result c = fits (mul (lit 10_000_000) (read (brought c) (lit< tt))) (lit< tt)

pub overflow_mul-result-2 : goal.overflow_mul-result-2
overflow_mul-result-2 c = fits (taken c) (lit< tt)

pub overflow_sub-result : goal.overflow_sub-result
overflow_sub-result c = fits (sub (read (mul (lit 10_000_000) (read (brought c.before) (lit< tt))) (lit< tt)) (read (taken c) (lit< tt))) (lit< tt)

pub returns : goal.returns
unfolding jump_of
returns c = (read (sub (read (mul (lit 10_000_000) (read (brought c.before) (lit< tt))) (lit< tt)) (read (taken c) (lit< tt))) (lit< tt)).is
