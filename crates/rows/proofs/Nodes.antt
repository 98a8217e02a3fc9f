-- Laws of one node's step back.
use Rattle.std.proofs.Common.{ℕ, ◌+◌, ◌-◌, ◌*◌, ◌≤◌, ◌≡◌, mul-le-mul, mul-le-mul_left, add-mul, add-sub_of_le, zero-mul, mul-zero, arith}
use Rattle.cash.specs.Units.{B, half}
use Rattle.cash.specs.Losses.{premium_payment}
use Rattle.cash.proofs.Rounding.{half_most, half_whole}
use Rattle.tree.specs.Backward.{roll_node}

-- a mean of two figures is at most what both are at most
pub mean_most : (hazard defaulted survived most : ℕ) → hazard ≤ B → defaulted ≤ most → survived ≤ most → hazard * defaulted + (B - hazard) * survived ≤ most * B
mean_most hazard defaulted survived most h u s =
    let a : hazard * defaulted ≤ hazard * most = mul-le-mul_left hazard u in
    let b : (B - hazard) * survived ≤ (B - hazard) * most = mul-le-mul_left (B - hazard) s in
    let e : (hazard + (B - hazard)) * most ≡ hazard * most + (B - hazard) * most = add-mul hazard (B - hazard) most in
    let f : hazard + (B - hazard) ≡ B = add-sub_of_le h in
    let g : B * most ≡ hazard * most + (B - hazard) * most = rw f at e in
    omega arith

pub mean_half_most : (hazard defaulted survived most : ℕ) → hazard ≤ B → defaulted ≤ most → survived ≤ most → half (hazard * defaulted + (B - hazard) * survived) ≤ most
mean_half_most hazard defaulted survived most h u s = half_most _ most (mean_most hazard defaulted survived most h u s)

pub discounted_most : (discount y most : ℕ) → discount ≤ B → y ≤ most → discount * y ≤ most * B
discounted_most discount y most d h =
    let a : discount * y ≤ B * most = mul-le-mul d h in
    omega arith

-- a node stays below what both nodes after it stay below
pub node_most : (hazard discount defaulted survived most : ℕ) → hazard ≤ B → discount ≤ B → defaulted ≤ most → survived ≤ most → roll_node hazard discount defaulted survived ≤ most
unfolding roll_node
node_most hazard discount defaulted survived most h d u s =
    half_most _ most (discounted_most discount _ most d (mean_half_most hazard defaulted survived most h u s))

-- where no default can come, what it would lead to does not count
pub node_last : (discount defaulted defaulted' survived : ℕ) → roll_node 0 discount defaulted survived ≡ roll_node 0 discount defaulted' survived
unfolding roll_node
node_last discount defaulted defaulted' survived = rw (zero-mul defaulted, zero-mul defaulted')

-- no accrual pays nothing
pub payment_none : (accrual outstanding : ℕ) → accrual ≡ 0 → premium_payment accrual outstanding ≡ 0
unfolding premium_payment
payment_none accrual outstanding e =
    let z : half (B * 0) ≡ 0 = half_whole 0 in
    rw (e, zero-mul outstanding) (rw (mul-zero B) at z)
