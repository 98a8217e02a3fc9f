-- A product of two signed numbers by sign and size, and its size in billions and units.
use Rattle.std.proofs.Common.{ℕ, zero, suc, ◌+◌, ◌*◌, ◌/◌, ◌%◌, ◌≤◌, ◌≡◌, refl, sym, ap, ◌∙◌, Bool, true, false, div-add-mod', mul-add, mul_assoc}
use Rattle.std.proofs.Common.{mul-le-mul, arith, ℤ, pos, negsuc, nat_abs, ◌*ℤ◌}
use lib.IntN.{pos-*ℤ-pos, pos-*ℤ-negsuc, negsuc-*ℤ-pos, negsuc-*ℤ-negsuc}
use Rattle.hedges.specs.Hedges.{negative, unlike, with_sign}
use Rattle.amounts.specs.declared.Amount.{Amount}
use Rattle.totals.specs.Totals.{gain_of, loss_of}
use Rattle.totals.specs.Sums.{Grown}

-- ---- sign and size

pub product_is : (n w : ℤ) → n *ℤ w ≡ with_sign (unlike (negative n) (negative w)) (nat_abs n * nat_abs w)
unfolding with_sign
product_is (pos n) (pos w) = pos-*ℤ-pos n w
product_is (pos n) (negsuc w) = pos-*ℤ-negsuc n w
product_is (negsuc n) (pos w) = negsuc-*ℤ-pos n w
product_is (negsuc n) (negsuc w) = negsuc-*ℤ-negsuc n w

-- What is gained by a number of either sign, and what is lost.
gained : (k : ℕ) → nat_abs (gain_of (with_sign false k)) ≡ k
unfolding with_sign
gained k = refl

not_lost : (k : ℕ) → nat_abs (loss_of (with_sign false k)) ≡ 0
unfolding with_sign
not_lost k = refl

lost : (k : ℕ) → nat_abs (loss_of (with_sign true k)) ≡ k
unfolding with_sign
lost zero = refl
lost (suc k) = refl

not_gained : (k : ℕ) → nat_abs (gain_of (with_sign true k)) ≡ 0
unfolding with_sign
not_gained zero = refl
not_gained (suc k) = refl

module _ (n w : ℤ) where
  by_sign : {t : Bool} → unlike (negative n) (negative w) ≡ t → n *ℤ w ≡ with_sign t (nat_abs n * nat_abs w)
  by_sign e = product_is n w ∙ ap (λ (t : Bool). with_sign t (nat_abs n * nat_abs w)) e

  pub gain_alike : unlike (negative n) (negative w) ≡ false → nat_abs (gain_of (n *ℤ w)) ≡ nat_abs n * nat_abs w
  gain_alike e = ap (λ (z : ℤ). nat_abs (gain_of z)) (by_sign e) ∙ gained (nat_abs n * nat_abs w)

  pub loss_alike : unlike (negative n) (negative w) ≡ false → nat_abs (loss_of (n *ℤ w)) ≡ 0
  loss_alike e = ap (λ (z : ℤ). nat_abs (loss_of z)) (by_sign e) ∙ not_lost (nat_abs n * nat_abs w)

  pub gain_unlike : unlike (negative n) (negative w) ≡ true → nat_abs (gain_of (n *ℤ w)) ≡ 0
  gain_unlike e = ap (λ (z : ℤ). nat_abs (gain_of z)) (by_sign e) ∙ not_gained (nat_abs n * nat_abs w)

  pub loss_unlike : unlike (negative n) (negative w) ≡ true → nat_abs (loss_of (n *ℤ w)) ≡ nat_abs n * nat_abs w
  loss_unlike e = ap (λ (z : ℤ). nat_abs (loss_of z)) (by_sign e) ∙ lost (nat_abs n * nat_abs w)

-- ---- billions and units

halves : (m v : ℕ) → m * (v / 1_000_000_000) * 1_000_000_000 + m * (v % 1_000_000_000) ≡ m * v
halves m v =
    ap (λ (x : ℕ). x + m * (v % 1_000_000_000)) (mul_assoc m (v / 1_000_000_000) 1_000_000_000)
    ∙ sym (mul-add m (v / 1_000_000_000 * 1_000_000_000) (v % 1_000_000_000)) ∙ ap (λ (x : ℕ). m * x) (div-add-mod' v 1_000_000_000)

pub high_fits : (m v : ℕ) → m ≤ 1_000_000 → v ≤ 200_000_000_000_000_000 → m * (v / 1_000_000_000) ≤ 200_000_000_000_000
high_fits m v hm hv =
    let q : v / 1_000_000_000 ≤ 200_000_000 = omega arith in
    let z = mul-le-mul hm q in
    omega (arith, z)

pub low_fits : (m v : ℕ) → m ≤ 1_000_000 → m * (v % 1_000_000_000) ≤ 1_000_000_000_000_000
low_fits m v hm =
    let q : v % 1_000_000_000 ≤ 1_000_000_000 = omega arith in
    let z = mul-le-mul hm q in
    omega (arith, z)

pub grown : (a : Amount) (m v : ℕ) → m ≤ 1_000_000 → v ≤ 200_000_000_000_000_000 →
    Grown a (m * v) (record { billions = a.billions + m * (v / 1_000_000_000); units = a.units + m * (v % 1_000_000_000) })
grown a m v hm hv =
    record {
      size = omega (arith, halves m v);
      billions_grow = omega (arith, high_fits m v hm hv);
      units_grow = omega (arith, low_fits m v hm);
    }

-- Nothing more.
pub as_it_was : (a : Amount) (k : ℕ) → k ≡ 0 → Grown a k a
as_it_was a k e = record { size = omega (arith, e); billions_grow = omega arith; units_grow = omega arith }
