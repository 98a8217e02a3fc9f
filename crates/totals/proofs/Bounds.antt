-- How large a total can be: fewer than 28 digits.
use Rattle.std.proofs.Common.{ℕ, suc, ◌+◌, ◌*◌, ◌-◌, ◌^◌, ◌≤◌, ◌<◌, ◌≡◌, refl, ap, ◌∙◌, Bool, true, false, cond, List, [], ◌∷◌, mul-le-mul, arith}
use Rattle.std.proofs.Common.{ltb-true, ltb-false, ltb, ℤ, pos, negsuc, nat_abs, ◌+ℤ◌, ◌*ℤ◌, length}
use lib.IntN.{sub_ℕ}
use Rattle.hedges.specs.Hedges.{negative, unlike}
use Rattle.hedges.proofs.Signs.{size_of}
use Rattle.totals.specs.Totals.{gain_of, loss_of, Within, Taken, total_of, total, gains, losses}
use Rattle.totals.proofs.Products.{product_is}

less_size : (a b : ℕ) → nat_abs (sub_ℕ a b) ≤ a + b
less_size a b = by_test (ltb a b) refl
  where
    by_test : (t : Bool) → ltb a b ≡ t → nat_abs (cond t (negsuc (b - suc a)) (pos (a - b))) ≤ a + b
    by_test true e = omega (arith, ltb-true a b e)
    by_test false e = omega (arith, ltb-false a b e)

sum_size : (x y : ℤ) → nat_abs (x +ℤ y) ≤ nat_abs x + nat_abs y
sum_size (pos a) (pos b) = omega arith
sum_size (pos a) (negsuc b) = less_size a (suc b)
sum_size (negsuc a) (pos b) = omega (arith, less_size b (suc a))
sum_size (negsuc a) (negsuc b) = omega arith

product_size : (n w : ℤ) → nat_abs n ≤ 1_000_000 → nat_abs w ≤ 200_000_000_000_000_000 → nat_abs (n *ℤ w) ≤ 200_000_000_000_000_000_000_000
product_size n w hn hw =
    let z = mul-le-mul hn hw in
    omega (arith, z, ap nat_abs (product_is n w) ∙ size_of (unlike (negative n) (negative w)) (nat_abs n * nat_abs w))

-- Of each product no more than its size, over at most 4,096 positions.
module _ (part : ℤ → ℤ) (smaller : (z : ℤ) → nat_abs (part z) ≤ nat_abs z) where
  each_small : (ns ws : List ℤ) → Within 1_000_000 ns → Within 200_000_000_000_000_000 ws →
      nat_abs (total_of part ns ws) ≤ length ns * 200_000_000_000_000_000_000_000
  unfolding total_of
  each_small [] ws hn hw = omega arith
  each_small (n ∷ ns) [] hn hw = omega arith
  each_small (n ∷ ns) (w ∷ ws) hn hw =
      let first = product_size n w (hn 0 (omega arith)) (hw 0 (omega arith)) in
      let rest = each_small ns ws (λ i h. hn (suc i) (omega (arith, h))) (λ i h. hw (suc i) (omega (arith, h))) in
      omega (arith, sum_size (part (n *ℤ w)) (total_of part ns ws), smaller (n *ℤ w), first, rest)

  small : (ns ws : List ℤ) → Taken ns ws → nat_abs (total_of part ns ws) < 10 ^ 27
  small ns ws t = omega (arith, each_small ns ws t.nominals_within t.values_within, t.few)

gain_smaller : (z : ℤ) → nat_abs (gain_of z) ≤ nat_abs z
gain_smaller (pos k) = omega arith
gain_smaller (negsuc k) = omega arith

loss_smaller : (z : ℤ) → nat_abs (loss_of z) ≤ nat_abs z
loss_smaller (pos k) = omega arith
loss_smaller (negsuc k) = omega arith

pub total_small : (ns ws : List ℤ) → Taken ns ws → nat_abs (total ns ws) < 10 ^ 27
total_small = small (λ z. z) (λ z. omega arith)

pub gains_small : (ns ws : List ℤ) → Taken ns ws → nat_abs (gains ns ws) < 10 ^ 27
gains_small = small gain_of gain_smaller

pub losses_small : (ns ws : List ℤ) → Taken ns ws → nat_abs (losses ns ws) < 10 ^ 27
losses_small = small loss_of loss_smaller
