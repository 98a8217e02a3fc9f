-- Laws of sums.
use Rattle.std.proofs.Common.{ℕ, zero, suc, ◌+◌, ◌-◌, ◌*◌, ◌≤◌, ◌<◌, ◌≡◌, refl, ap, ap₂, ◌⊎◌, inl, inr, le_refl, le_of_lt, le_trans, le_of_eq}
use Rattle.std.proofs.Common.{eq-or-lt_of_le, arith}
use native.Mathlib.Nat.{le_step}
use Rattle.cash.specs.Near.{Near}
use Rattle.cash.specs.Sums.{sum_to, Rising}
use Rattle.cash.proofs.Nearness.{near_refl, near_add}

pub sum_cong : (r : ℕ) (f g : ℕ → ℕ) → ((j : ℕ) → j < r → f j ≡ g j) → sum_to r f ≡ sum_to r g
unfolding sum_to
sum_cong zero f g h = refl
sum_cong (suc r) f g h = ap₂ (λ x y. x + y) (sum_cong r f g (λ j l. h j (le_step l))) (h r (le_refl (suc r)))

pub sum_add : (r : ℕ) (f g : ℕ → ℕ) → sum_to r (λ j. f j + g j) ≡ sum_to r f + sum_to r g
unfolding sum_to
sum_add zero f g = refl
sum_add (suc r) f g = omega (arith, sum_add r f g)

pub sum_times : (c r : ℕ) (f : ℕ → ℕ) → sum_to r (λ j. c * f j) ≡ c * sum_to r f
unfolding sum_to
sum_times c zero f = omega arith
sum_times c (suc r) f = omega (arith, sum_times c r f)

pub sum_const : (c r : ℕ) → sum_to r (λ j. c) ≡ r * c
unfolding sum_to
sum_const c zero = omega arith
sum_const c (suc r) = omega (arith, sum_const c r)

pub sum_le : (r : ℕ) (f g : ℕ → ℕ) → ((j : ℕ) → j < r → f j ≤ g j) → sum_to r f ≤ sum_to r g
unfolding sum_to
sum_le zero f g h = omega arith
sum_le (suc r) f g h = omega (arith, sum_le r f g (λ j l. h j (le_step l)), h r (le_refl (suc r)))

-- a sum of differences
pub sum_sub : (r : ℕ) (f g : ℕ → ℕ) → ((j : ℕ) → j < r → g j ≤ f j) → sum_to r (λ j. f j - g j) ≡ sum_to r f - sum_to r g
unfolding sum_to
sum_sub zero f g h = refl
sum_sub (suc r) f g h = omega (arith, sum_sub r f g (λ j l. h j (le_step l)), h r (le_refl (suc r)), sum_le r g f (λ j l. h j (le_step l)))

pub near_sum : (r : ℕ) (d f g : ℕ → ℕ) → ((j : ℕ) → j < r → Near (d j) (f j) (g j)) → Near (sum_to r d) (sum_to r f) (sum_to r g)
unfolding sum_to
near_sum zero d f g h = near_refl _ _
near_sum (suc r) d f g h = near_add (near_sum r d f g (λ j l. h j (le_step l))) (h r (le_refl (suc r)))

-- figures that rise from each place to the next rise from the first to the last
pub rises : (r : ℕ) (c : ℕ → ℕ) → Rising r c → c 0 ≤ c r
rises zero c h = le_refl _
rises (suc r) c h = omega (arith, rises r c (λ j l. h j (le_step l)), h r (le_refl (suc r)))

-- figures at rising points rise from any of them to the last
pub up_to : (r : ℕ) (c : ℕ → ℕ) → Rising r c → (j : ℕ) → j ≤ r → c j ≤ c r
up_to zero c h j l = le_of_eq (ap c (omega arith))
up_to (suc r) c h j l = go (up_to r c (λ i p. h i (le_step p)) j) (eq-or-lt_of_le l)
  where
    go : (j ≤ r → c j ≤ c r) → (j ≡ suc r) ⊎ (j < suc r) → c j ≤ c (suc r)
    go f (inl e) = le_of_eq (ap c e)
    go f (inr g) = le_trans (f (omega arith)) (le_of_lt (h r (le_refl (suc r))))

-- the rises of a figure from point to point add to its whole rise
pub steps_add : (r : ℕ) (c : ℕ → ℕ) (f : ℕ → ℕ) → Rising r c → ((x y : ℕ) → x ≤ y → f x ≤ f y) → sum_to r (λ j. f (c (suc j)) - f (c j)) ≡ f (c r) - f (c 0)
unfolding sum_to
steps_add zero c f h up = omega arith
steps_add (suc r) c f h up =
    let lower : Rising r c = λ j l. h j (le_step l) in
    omega (arith, steps_add r c f lower up, up (c 0) (c r) (rises r c lower), up (c r) (c (suc r)) (le_of_lt (h r (le_refl (suc r)))))
