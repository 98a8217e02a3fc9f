-- How large changes and jumps are.
use Rattle.std.proofs.Common.{◌≡◌, refl, ℕ, ◌*◌, ◌≤◌, ℤ, pos, nat_abs}
use Rattle.cash.specs.Units.{B}
use Rattle.hedges.specs.declared.Node.{Node}
use Rattle.hedges.specs.Hedges.{change_of, jump_of, Figures}
use Rattle.hedges.proofs.Signs.{size_change}
use Rattle.hedges.proofs.Meant.{Is, meant, lit, add, sub, mul}

-- a change between figures of at most n, known by an equation
pub changed : {z : ℤ} (before after n : ℕ) → before ≤ n → after ≤ n → z ≡ change_of before after → Is z (change_of before after) n
changed before after n h k e = meant n e (unfold change_of in size_change after before n k h)

-- A jump is at most 10,000,000 × 20 × B in size, so that ten times it fits 64 bits.
pub jump_size : (coupon : ℕ) (here next : Node) → coupon ≤ 10_000_000 → Figures here → Figures next → nat_abs (jump_of coupon here next) ≤ 200_000_000_000_000_000
unfolding jump_of B
jump_size coupon here next few h n =
    let losses = changed here.loss next.loss B h.loss n.loss refl in
    let defaults = changed here.default next.default B h.default n.default refl in
    let premiums = changed here.premium next.premium (18 * B) h.premium n.premium refl in
    (sub (mul (lit 10_000_000) (add losses defaults)) (mul (meant {z = pos coupon} 10_000_000 refl few) premiums)).within
