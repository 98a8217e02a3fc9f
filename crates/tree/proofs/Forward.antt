-- The distribution of the default count: its total, and its errors against the exact probabilities.
use Rattle.std.proofs.Common.{ℕ, zero, suc, ◌+◌, ◌-◌, ◌*◌, ◌^◌, ◌≤◌, zero-le, mul-le-mul_left, mul-le-mul_right, mul-zero, add-zero, zero-add}
use Rattle.std.proofs.Common.{mul-one, pow-suc, suc-add, add-suc, sub-le, sub-add_cancel, ◌≡◌, refl, sym, ◌∙◌, ap, ap₂, Bool, true, false, cond}
use Rattle.std.proofs.Common.{arith, eqb, eqb→eq, T}
use native.Mathlib.Nat.{pow-zero}
use mathlib.Core.Path.{fun_ext}
use lib.Dec.{eqb-suc-suc, eqb-suc-zero, eqb-zero-suc}
use Rattle.cash.specs.Units.{B, half}
use Rattle.cash.specs.Near.{Near}
use Rattle.cash.specs.Sums.{sum_to}
use Rattle.cash.proofs.Nearness.{near_as, near_add, near_times}
use Rattle.cash.proofs.Rounding.{half_near, half_most}
use Rattle.cash.proofs.Sums.{sum_cong, sum_add, sum_times, sum_const, sum_le}
use Rattle.tree.specs.Paths.{Tree, Fair, path_sum}
use Rattle.tree.specs.Forward.{same, outflow, from_below, pushed, distribution, lands, probability, apart, errors}
use Rattle.tree.proofs.PathSums.{default_eq, path_sum_step, path_sum_zero, path_sum_add, path_sum_times, mixed}

-- ---- the exact probabilities by the last move

-- a sum over the counts that the lists end at
on_last : Tree → (ℕ → ℕ) → ℕ → ℕ → ℕ → ℕ
on_last t f h i k = path_sum t (λ ms. f (lands k ms)) h i k

-- f of the count after step s, averaged from the count before it
before : Tree → ℕ → (ℕ → ℕ) → ℕ → ℕ
before t s f x = t.hazard s x * f (suc x) + (B - t.hazard s x) * f x

on_last_step : (t : Tree) → Fair t → (f : ℕ → ℕ) (h i k : ℕ) → k ≤ t.names →
    on_last t f (suc h) i k ≡ t.hazard (suc i) k * on_last t f h (suc i) (suc k) + (B - t.hazard (suc i) k) * on_last t f h (suc i) k
unfolding on_last lands
on_last_step t fair f h i k l = path_sum_step t fair (λ ms. f (lands k ms)) h i k l

on_last_zero : (t : Tree) (f : ℕ → ℕ) (i k : ℕ) → on_last t f 0 i k ≡ f k
unfolding on_last lands
on_last_zero t f i k = path_sum_zero t (λ ms. f (lands k ms)) i k

last_move : (t : Tree) → Fair t → (f : ℕ → ℕ) (h i k : ℕ) → k ≤ t.names → on_last t f (suc h) i k ≡ on_last t (before t (suc (i + h)) f) h i k
unfolding before
last_move t fair f zero i k l = on_last_step t fair f zero i k l ∙ simp (on_last_zero, add-zero)
last_move t fair f (suc h) i k l =
    on_last_step t fair f (suc h) i k l
    ∙ ap₂ (λ x y. x + y)
    (default_eq t fair (suc i) k l _ _ (λ g. last_move t fair f h (suc i) (suc k) g))
    (ap (λ x. (B - t.hazard (suc i) k) * x) (last_move t fair f h (suc i) k l))
    ∙ sym (on_last_step t fair (before t (suc (suc i + h)) f) h i k l)
    ∙ ap (λ s. on_last t (before t (suc s) f) (suc h) i k) (suc-add i h ∙ sym (add-suc i h))

-- a figure at a count that is the same as another
pin : (g : ℕ → ℕ) (y x : ℕ) → g y * same y x ≡ g x * same y x
unfolding same
pin g y x = go (eqb y x) (eqb→eq y x)
  where
    go : (b : Bool) → (T b → y ≡ x) → g y * cond b 1 0 ≡ g x * cond b 1 0
    go true e = ap (λ z. g z * 1) (e tt)
    go false e = mul-zero (g y) ∙ sym (mul-zero (g x))

same_suc_zero : (y : ℕ) → same (suc y) 0 ≡ 0
unfolding same
same_suc_zero y = rw eqb-suc-zero

same_suc_suc : (y z : ℕ) → same (suc y) (suc z) ≡ same y z
unfolding same
same_suc_suc y z = rw eqb-suc-suc

aim_zero : (t : Tree) (s y : ℕ) → before t s (λ x. same x 0) y ≡ (B - t.hazard s 0) * same y 0
unfolding before
aim_zero t s y = rw same_suc_zero (omega (arith, pin (λ x. B - t.hazard s x) y 0))

aim_suc : (t : Tree) (s z y : ℕ) → before t s (λ x. same x (suc z)) y ≡ (B - t.hazard s (suc z)) * same y (suc z) + t.hazard s z * same y z
unfolding before
aim_suc t s z y = rw same_suc_suc (omega (arith, pin (λ x. B - t.hazard s x) y (suc z), pin (t.hazard s) y z))

probability_step : (t : Tree) → Fair t → (h x : ℕ) →
    probability t (suc h) x ≡ (B - t.hazard (suc h) x) * probability t h x + from_below (λ z. t.hazard (suc h) z * probability t h z) x
unfolding probability from_below on_last
probability_step t fair h zero =
    last_move t fair (λ y. same y 0) h 0 0 zero-le
    ∙ ap (λ s. on_last t (before t (suc s) (λ y. same y 0)) h 0 0) (zero-add h)
    ∙ ap (λ F. path_sum t F h 0 0) (fun_ext (λ ms. aim_zero t (suc h) (lands 0 ms)))
    ∙ path_sum_times t (B - t.hazard (suc h) 0) (λ ms. same (lands 0 ms) 0) h 0 0
    ∙ sym (add-zero _)
probability_step t fair h (suc z) =
    last_move t fair (λ y. same y (suc z)) h 0 0 zero-le
    ∙ ap (λ s. on_last t (before t (suc s) (λ y. same y (suc z))) h 0 0) (zero-add h)
    ∙ ap (λ F. path_sum t F h 0 0) (fun_ext (λ ms. aim_suc t (suc h) z (lands 0 ms)))
    ∙ path_sum_add t (λ ms. (B - t.hazard (suc h) (suc z)) * same (lands 0 ms) (suc z)) (λ ms. t.hazard (suc h) z * same (lands 0 ms) z) h 0 0
    ∙ ap₂ (λ x y. x + y)
    (path_sum_times t (B - t.hazard (suc h) (suc z)) (λ ms. same (lands 0 ms) (suc z)) h 0 0)
    (path_sum_times t (t.hazard (suc h) z) (λ ms. same (lands 0 ms) z) h 0 0)

-- ---- the total

pub moved_le : (t : Tree) → Fair t → (s : ℕ) (q : ℕ → ℕ) (k : ℕ) → outflow t s q k ≤ q k
unfolding outflow
moved_le t fair s q k = half_most _ _ (mul-le-mul_left (q k) (fair.sure s k))

moved_last : (t : Tree) → Fair t → (s : ℕ) (q : ℕ → ℕ) → outflow t s q t.names ≡ 0
unfolding outflow half B
moved_last t fair s q = rw (fair.last s) (omega arith)

sum_from_below : (n : ℕ) (f : ℕ → ℕ) → sum_to (suc n) (from_below f) ≡ sum_to n f
unfolding sum_to from_below
sum_from_below zero f = refl
sum_from_below (suc n) f = ap (λ x. x + f n) (sum_from_below n f)

-- a step keeps the total of any row
pub pushed_total : (t : Tree) → Fair t → (s : ℕ) (q : ℕ → ℕ) → sum_to (suc t.names) (pushed t s q) ≡ sum_to (suc t.names) q
unfolding pushed sum_to
pushed_total t fair s q =
    sum_add (suc n) (λ k. q k - outflow t s q k) (from_below (outflow t s q))
    ∙ ap (λ x. sum_to (suc n) (λ k. q k - outflow t s q k) + x) (sum_from_below n (outflow t s q))
    ∙ omega (
      arith,
      sum_add (suc n) (λ k. q k - outflow t s q k) (outflow t s q),
      sum_cong (suc n) (λ k. q k - outflow t s q k + outflow t s q k) q (λ k l. sub-add_cancel (moved_le t fair s q k)),
      moved_last t fair s q,
    )
  where
    n : ℕ
    n = t.names

same_total : (n : ℕ) → sum_to (suc n) (λ k. same 0 k) ≡ 1
unfolding sum_to same
same_total zero = refl
same_total (suc n) = rw eqb-zero-suc (omega (arith, same_total n))

pub distribution_total : (t : Tree) → Fair t → (h : ℕ) → sum_to (suc t.names) (distribution t h) ≡ B
unfolding distribution
distribution_total t fair zero = sum_times B (suc t.names) (λ k. same 0 k) ∙ ap (λ x. B * x) (same_total t.names) ∙ mul-one B
distribution_total t fair (suc h) = pushed_total t fair (suc h) (distribution t h) ∙ distribution_total t fair h

-- ---- the errors

apart_near : (x y : ℕ) → Near (apart x y) x y
unfolding apart
apart_near x y = omega arith

near_apart : {d x y : ℕ} → Near d x y → apart x y ≤ d
unfolding apart
near_apart h = omega arith

-- A count that holds q of the row and has the probability p, on a grid of S to the unit, moves m of the row, where exactly q h would go.
module _ (q m p h S : ℕ) where
  error_row : Near (apart (q * S) (p * B)) (q * S) (p * B)
  error_row = apart_near (q * S) (p * B)

  error_round : Near (apart (m * B) (q * h)) (m * B) (q * h)
  error_round = apart_near (m * B) (q * h)

  goes : Near (h * apart (q * S) (p * B) + S * apart (m * B) (q * h)) (m * (S * B)) (h * p * B)
  goes = omega (arith, near_times h error_row, near_times S error_round)

  remains : m ≤ q → h ≤ B → Near ((B - h) * apart (q * S) (p * B) + S * apart (m * B) (q * h)) ((q - m) * (S * B)) ((B - h) * p * B)
  remains l b =
      omega (arith, near_times (B - h) error_row, near_times S error_round, ap (λ x. x * (S * B)) (sub-add_cancel l), ap (λ x. x * (q * S)) (sub-add_cancel b))

error : Tree → ℕ → ℕ → ℕ
error t h k = apart (distribution t h k * B ^ h) (probability t h k * B)

slip : Tree → ℕ → ℕ → ℕ
slip t h k = apart (outflow t (suc h) (distribution t h) k * B) (distribution t h k * t.hazard (suc h) k)

kept_error : Tree → ℕ → ℕ → ℕ
kept_error t h k = (B - t.hazard (suc h) k) * error t h k + B ^ h * slip t h k

gone_error : Tree → ℕ → ℕ → ℕ
gone_error t h k = t.hazard (suc h) k * error t h k + B ^ h * slip t h k

kept_near : (t : Tree) → Fair t → (h k : ℕ) →
    Near (kept_error t h k) ((distribution t h k - outflow t (suc h) (distribution t h) k) * (B ^ h * B)) ((B - t.hazard (suc h) k) * probability t h k * B)
unfolding kept_error error slip
kept_near t fair h k =
    remains (distribution t h k) (outflow t (suc h) (distribution t h) k) (probability t h k) (t.hazard (suc h) k) (B ^ h)
    (moved_le t fair (suc h) (distribution t h) k) (fair.sure (suc h) k)

gone_near : (t : Tree) (h k : ℕ) →
    Near (gone_error t h k) (outflow t (suc h) (distribution t h) k * (B ^ h * B)) (t.hazard (suc h) k * probability t h k * B)
unfolding gone_error error slip
gone_near t h k = goes (distribution t h k) (outflow t (suc h) (distribution t h) k) (probability t h k) (t.hazard (suc h) k) (B ^ h)

error_step : (t : Tree) → Fair t → (h k : ℕ) → error t (suc h) k ≤ kept_error t h k + from_below (gone_error t h) k
unfolding error distribution pushed from_below
error_step t fair h zero =
    near_apart (near_as (kept_near t fair h 0)
    (omega arith) (rw pow-suc (omega arith)) (rw (probability_step t fair h 0) (unfold from_below in omega arith)))
error_step t fair h (suc k) =
    near_apart (near_as (near_add (kept_near t fair h (suc k)) (gone_near t h k))
    (omega arith) (rw pow-suc (omega arith)) (rw (probability_step t fair h (suc k)) (unfold from_below in omega arith)))

slip_half : (t : Tree) (h k : ℕ) → 2 * slip t h k ≤ B
unfolding slip outflow apart
slip_half t h k = omega (arith, half_near (distribution t h k * t.hazard (suc h) k))

slip_last : (t : Tree) → Fair t → (h : ℕ) → slip t h t.names ≡ 0
unfolding slip
slip_last t fair h = rw (moved_last t fair (suc h) (distribution t h), fair.last (suc h)) (unfold apart in omega arith)

both_errors : (t : Tree) → Fair t → (h k : ℕ) → kept_error t h k + gone_error t h k ≤ B * error t h k + B ^ h * B
unfolding kept_error gone_error
both_errors t fair h k = omega (arith, mixed (t.hazard (suc h) k) (error t h k) (fair.sure (suc h) k), mul-le-mul_left (B ^ h) (slip_half t h k))

last_error : (t : Tree) → Fair t → (h : ℕ) → kept_error t h t.names ≤ B * error t h t.names
unfolding kept_error
last_error t fair h = rw (slip_last t fair h) (omega (arith, mul-le-mul_right (error t h t.names) (sub-le B (t.hazard (suc h) t.names))))

-- a step carries the errors on, and rounds what each count below the last moves
errors_step : (t : Tree) → Fair t → (h : ℕ) → errors t (suc h) ≤ B * errors t h + t.names * (B ^ h * B)
unfolding errors error sum_to
errors_step t fair h =
    omega (
      arith,
      sum_le (suc n) (error t (suc h)) (λ k. kept_error t h k + from_below (gone_error t h) k) (λ k l. error_step t fair h k),
      sum_add (suc n) (kept_error t h) (from_below (gone_error t h)),
      sum_from_below n (gone_error t h),
      sum_add n (kept_error t h) (gone_error t h),
      sum_le n (λ k. kept_error t h k + gone_error t h k) (λ k. B * error t h k + B ^ h * B) (λ k l. both_errors t fair h k),
      sum_add n (λ k. B * error t h k) (λ k. B ^ h * B),
      sum_times B n (error t h),
      sum_const (B ^ h * B) n,
      last_error t fair h,
    )
  where
    n : ℕ
    n = t.names

start_error : (t : Tree) (k : ℕ) → error t 0 k ≡ 0
unfolding error distribution probability lands apart
start_error t k = rw (path_sum_zero t (λ ms. same (lands 0 ms) k) 0 0, pow-zero) (omega arith)

start_errors : (t : Tree) → errors t 0 ≡ 0
unfolding errors error
start_errors t = sum_cong (suc t.names) (error t 0) (λ k. 0) (λ k l. start_error t k) ∙ sum_const 0 (suc t.names) ∙ mul-zero _

pub distribution_errors : (t : Tree) → Fair t → (h : ℕ) → errors t h ≤ t.names * h * B ^ h
distribution_errors t fair zero = rw start_errors zero-le
distribution_errors t fair (suc h) = rw pow-suc (omega (arith, errors_step t fair h, mul-le-mul_left B (distribution_errors t fair h)))
