-- Where each tranche of some rows starts and ends.
use Rattle.std.proofs.Common.{ℕ, ◌+◌, ◌*◌, ◌≤◌, ◌<◌, ◌≡◌, mul-le-mul_right, add-mul, one-mul, arith}

-- tranche j of w counts ends within r tranches
pub room : (j r w : ℕ) → j < r → j * w + w ≤ r * w
room j r w h =
    let a : (j + 1) * w ≤ r * w = mul-le-mul_right w (omega arith) in
    omega (arith, add-mul j 1 w, one-mul w)

-- tranche j + 1 starts where tranche j ends
pub next_tranche : (j w : ℕ) → (j + 1) * w ≡ j * w + w
next_tranche j w = omega (arith, add-mul j 1 w, one-mul w)
