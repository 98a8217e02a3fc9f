-- Numbers of either sign by sign and size: what the machine's operations do to each.
use Rattle.std.proofs.Common.{◌≡◌, refl, sym, ap, Bool, true, false, cond, ℕ, zero, suc, ◌+◌, ◌-◌, ◌*◌, ◌/◌, ◌%◌, ◌<◌, ◌≤◌, zero-mul, ltb-true, ltb}
use Rattle.std.proofs.Common.{arith, ℤ, pos, negsuc, nat_abs, neg_ℤ, ◌+ℤ◌, ◌-ℤ◌, ◌*ℤ◌}
use native.Mathlib.Nat.{zero-div, zero-mod}
use lib.IntN.{sub_ℕ, neg_ℤ-+ℤ}
use lib.Signed.{quot_z, rem_z}
use Rattle.hedges.specs.Hedges.{negative, unlike, with_sign}

pub signed_of : (z : ℤ) → z ≡ with_sign (negative z) (nat_abs z)
unfolding with_sign
signed_of (pos n) = refl
signed_of (negsuc n) = refl

pub size_of : (s : Bool) (n : ℕ) → nat_abs (with_sign s n) ≡ n
unfolding with_sign
size_of true zero = refl
size_of true (suc n) = refl
size_of false n = refl

pub zero_of : (z : ℤ) → nat_abs z ≡ 0 → z ≡ pos 0
zero_of (pos n) e = ap pos e
zero_of (negsuc n) e = let f : ⊥ = omega arith in absurd f

pub plus : (s : Bool) (a b : ℕ) → with_sign s a +ℤ with_sign s b ≡ with_sign s (a + b)
unfolding with_sign
plus true a b = sym (neg_ℤ-+ℤ (pos a) (pos b))
plus false a b = refl

pub times : (s : Bool) (a b : ℕ) → with_sign s a *ℤ pos b ≡ with_sign s (a * b)
unfolding with_sign
times true zero b = simp zero-mul
times true (suc a) b = refl
times false a b = refl

pub quot : (s t : Bool) (a b : ℕ) → zero < b → quot_z (with_sign s a) (with_sign t b) ≡ with_sign (unlike s t) (a / b)
unfolding with_sign
quot s t a zero h = let f : ⊥ = omega arith in absurd f
quot true true zero (suc b) h = simp zero-div
quot true true (suc a) (suc b) h = refl
quot true false zero (suc b) h = simp zero-div
quot true false (suc a) (suc b) h = refl
quot false true a (suc b) h = refl
quot false false a (suc b) h = refl

pub rem : (s t : Bool) (a b : ℕ) → rem_z (with_sign s a) (with_sign t b) ≡ with_sign s (a % b)
unfolding with_sign
rem true t zero b = simp (size_of t b, zero-mod)
rem true t (suc a) b = simp (size_of t b)
rem false t a b = simp (size_of t b)

-- ---- sizes

-- the difference of two numbers is no larger than a bound of both
size_between : (a b n : ℕ) → a ≤ n → b ≤ n → nat_abs (sub_ℕ a b) ≤ n
size_between a b n h k = go (ltb a b) refl
  where
    go : (t : Bool) → ltb a b ≡ t → nat_abs (cond t (negsuc (b - suc a)) (pos (a - b))) ≤ n
    go true e = omega (arith, ltb-true a b e)
    go false e = omega arith

pub size_change : (a b n : ℕ) → a ≤ n → b ≤ n → nat_abs (pos a -ℤ pos b) ≤ n
size_change a zero n h k = omega arith
size_change a (suc b) n h k = size_between a (suc b) n h k

size_sub : (a b : ℕ) → nat_abs (sub_ℕ a b) ≤ a + b
size_sub a b = go (ltb a b) refl
  where
    go : (t : Bool) → ltb a b ≡ t → nat_abs (cond t (negsuc (b - suc a)) (pos (a - b))) ≤ a + b
    go true e = omega (arith, ltb-true a b e)
    go false e = omega arith

pub size_plus : (x y : ℤ) → nat_abs (x +ℤ y) ≤ nat_abs x + nat_abs y
size_plus (pos a) (pos b) = omega arith
size_plus (pos a) (negsuc b) = size_sub a (suc b)
size_plus (negsuc a) (pos b) = omega (arith, size_sub b (suc a))
size_plus (negsuc a) (negsuc b) = omega arith

size_neg : (x : ℤ) → nat_abs (neg_ℤ x) ≡ nat_abs x
size_neg (pos zero) = refl
size_neg (pos (suc n)) = refl
size_neg (negsuc n) = refl

pub size_minus : (x y : ℤ) → nat_abs (x -ℤ y) ≤ nat_abs x + nat_abs y
size_minus x y = omega (arith, size_plus x (neg_ℤ y), size_neg y)
