-- A signed number that the machine reads, the number that is meant, and a bound on its size. A chain of operations is built as the code builds it: `fits` answers an operation's need, and `read` takes its result to the next.
-- `Is` is a record, so that its three arguments are inferred from what a chain is built of.
use Rattle.std.proofs.Common.{◌≡◌, refl, sym, subst, ℕ, ◌+◌, ◌*◌, ◌≤◌, ◌<◌, ◌^◌, le_refl, mul-le-mul, arith, ℤ, pos, nat_abs, ◌+ℤ◌, ◌-ℤ◌, ◌*ℤ◌, w64}
use Rattle.std.proofs.Common.{SFits, to_z, of_z}
use Rattle.std.proofs.lemmas.Int.{unsigned_abs-mul}
use Rattle.hedges.proofs.Machine.{fits_of, back, two, from_nat}
use Rattle.hedges.proofs.Signs.{size_plus, size_minus}

pub record Is (z z' : ℤ) (n : ℕ) : Type 0 where
  pub is : z ≡ z'
  pub within : nat_abs z' ≤ n

-- a number that is what it is meant to be
pub meant : {z z' : ℤ} (n : ℕ) → z ≡ z' → nat_abs z' ≤ n → Is z z' n
meant n e h = record { is = e; within = h }

pub lit : (n : ℕ) → Is (pos n) (pos n) n
lit n = record { is = refl; within = le_refl n }

-- a number cast from an unsigned one that is at most m
pub nat : (n : ℕ) {m : ℕ} → n ≤ m → m < 2 ^ 63 → Is (to_z w64 n) (pos n) m
nat n h k = record { is = from_nat n (omega arith); within = h }

module _ {x x' y y' : ℤ} {m n : ℕ} (p : Is x x' m) (q : Is y y' n) where
  pub add : Is (x +ℤ y) (x' +ℤ y') (m + n)
  add = record { is = two ◌+ℤ◌ p.is q.is; within = omega (arith, size_plus x' y') }

  pub sub : Is (x -ℤ y) (x' -ℤ y') (m + n)
  sub = record { is = two ◌-ℤ◌ p.is q.is; within = omega (arith, size_minus x' y') }

  pub mul : Is (x *ℤ y) (x' *ℤ y') (m * n)
  mul = record { is = two ◌*ℤ◌ p.is q.is; within = subst (λ (t : ℕ). t ≤ m * n) (sym (unsigned_abs-mul x' y')) (mul-le-mul p.within q.within) }

module _ {z z' : ℤ} {n : ℕ} (p : Is z z' n) (h : n < 2 ^ 63) where
  pub fits : SFits w64 z
  fits = fits_of p.is (omega arith)

  pub read : Is (to_z w64 (of_z w64 z)) z' n
  read = record { is = back p.is (omega arith); within = p.within }
