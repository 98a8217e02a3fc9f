-- Ceilings of walked rows, from any row that keeps to its own.
use Rattle.std.proofs.Common.{ℕ, zero, suc, ◌+◌, ◌-◌, ◌*◌, ◌/◌, ◌≤◌, ◌<◌, zero-le, add-zero, mul-le-mul_right, sub-add_cancel, ◌≡◌, refl, sym, ◌∙◌}
use Rattle.std.proofs.Common.{ap, arith}
use Rattle.cash.specs.Units.{B, half}
use Rattle.cash.specs.Losses.{default_payment, premium_payment, elapsed_payment}
use Rattle.cash.proofs.Losses.{premium_payment_most}
use Rattle.tree.specs.Paths.{survive, default, Cash, Tree, Fair}
use Rattle.tree.specs.Backward.{back_from, over}
use Rattle.tree.specs.Legs.{default_cash, premium_cash, elapsed_cash, date_leg, premium_leg}
use Rattle.tree.proofs.PathSums.{default_le}
use Rattle.tree.proofs.Rolling.{roll_most, over_step}

-- A bound F that no move of a walk to step m raises, with the cash of the move, bounds every value of the walk, if it bounds the row it starts from.
pub ceiling : (t : Tree) → Fair t → (m : ℕ) (r : Cash) (q : ℕ → ℕ) (F : ℕ → ℕ → ℕ → ℕ) →
    ((k : ℕ) → k ≤ t.names → q k ≤ F 0 m k) →
    ((h i k : ℕ) → i + suc h ≡ m → k < t.names → F h (suc i) (suc k) + r (suc i) k default ≤ F (suc h) i k) →
    ((h i k : ℕ) → i + suc h ≡ m → k ≤ t.names → F h (suc i) k + r (suc i) k survive ≤ F (suc h) i k) →
    (h i k : ℕ) → i + h ≡ m → k ≤ t.names → back_from t r q h i k ≤ F h i k
unfolding back_from
ceiling t fair m r q F starts defaults survives zero i k e l = rw (ap (λ x. F 0 x k) (sym (add-zero i) ∙ e)) (starts k l)
ceiling t fair m r q F starts defaults survives (suc h) i k e l =
    roll_most (t.hazard (suc i) k) (t.discount (suc i)) _ _ _ (fair.sure (suc i) k) (fair.shrinks (suc i))
    (default_le t fair (suc i) k l _ _ (λ g. omega (arith, ceiling t fair m r q F starts defaults survives h (suc i) (suc k) (omega arith) g, defaults h i k e g)))
    (omega (arith, ceiling t fair m r q F starts defaults survives h (suc i) k (omega arith) l, survives h i k e l))

-- The default leg keeps to what is left to lose.
pub default_ceiling : (t : Tree) → Fair t → (M q : ℕ → ℕ) (width : ℕ) → ((k : ℕ) → M k ≤ M (suc k)) → ((k : ℕ) → k ≤ t.names → M k ≤ width) →
    ((k : ℕ) → k ≤ t.names → q k ≤ width - M k) →
    (h i k : ℕ) → k ≤ t.names → back_from t (default_cash M) q h i k ≤ width - M k
default_ceiling t fair M q width rises most starts h i k l =
    ceiling t fair (i + h) (default_cash M) q (λ h i k. width - M k) starts
    (λ h i k e g. unfold default_cash default_payment in omega (arith, rises k, most (suc k) g))
    (λ h i k e g. unfold default_cash in omega arith) h i k refl l

-- ---- the premium leg

-- Each elapsed fraction is at most the accruals of its step and of those to come, up to step m.
abbrev pub Earned : ℕ → (ℕ → ℕ) → (ℕ → ℕ) → Type 0
Earned m a e = (h i : ℕ) → i + suc h ≡ m → e (suc i) ≤ over a (suc h) i

-- Products that stay within another stay within it after each is rounded, and a unit more for each beyond the first.
defaulted_most : (x y z w : ℕ) → x + y + z ≤ w → x / B + half y + half z ≤ w / B + 1
unfolding half B
defaulted_most x y z w h = omega arith

survived_most : (x y w : ℕ) → x + y ≤ w → x / B + half y ≤ w / B + 1
unfolding half B
survived_most x y w h = omega arith

part_most : (x y : ℕ) → x ≤ B → x * y / B ≤ y
part_most x y h = unfold B in omega (arith, mul-le-mul_right y (unfold B in h))

module _ (t : Tree) (fair : Fair t) (m : ℕ) (a e O : ℕ → ℕ) (earned : Earned m a e) (falls : (k : ℕ) → O (suc k) ≤ O k) where
  -- what a default pays of all accruals to come is on nominal that earns none of them
  fallen : (h i k : ℕ) → i + suc h ≡ m →
      O (suc k) * over a h (suc i) + a (suc i) * O (suc k) + e (suc i) * (O k - O (suc k)) ≤ O k * over a (suc h) i
  fallen h i k q =
      omega (
        arith,
        ap (λ x. O (suc k) * x) (over_step a h i),
        mul-le-mul_right (O k - O (suc k)) (earned h i q),
        ap (λ x. x * over a (suc h) i) (sub-add_cancel (falls k)),
      )

  -- What is outstanding times the accruals to come, a unit for each name that is left and one for each step to come.
  -- This bound is closed under a step back, which the ceiling is not.
  premium_sharp : (h i k : ℕ) → i + h ≡ m → k ≤ t.names →
      back_from t (premium_leg a e O).rounded (λ k. 0) h i k ≤ O k * over a h i / B + (t.names - k) + h
  premium_sharp =
      ceiling t fair m (premium_leg a e O).rounded (λ k. 0) (λ h i k. O k * over a h i / B + (t.names - k) + h) (λ k l. zero-le)
      (λ h i k q g. unfold premium_cash premium_payment elapsed_cash elapsed_payment in
      omega (arith, defaulted_most (O (suc k) * over a h (suc i)) (a (suc i) * O (suc k)) (e (suc i) * (O k - O (suc k))) (O k * over a (suc h) i) (fallen h i k q)))
      (λ h i k q g. unfold premium_cash premium_payment elapsed_cash in
      omega (arith, survived_most (O k * over a h (suc i)) (a (suc i) * O k) (O k * over a (suc h) i) (omega (arith, ap (λ x. O k * x) (over_step a h i)))))

  -- So it keeps to the accruals to come, a unit for each name that is left and two for each step to come.
  pub premium_ceiling : ((k : ℕ) → O k ≤ B) → (h i k : ℕ) → i + h ≡ m → k ≤ t.names →
      back_from t (premium_leg a e O).rounded (λ k. 0) h i k ≤ over a h i + (t.names - k) + 2 * h
  premium_ceiling most h i k q l = omega (arith, premium_sharp h i k q l, part_most (O k) (over a h i) (most k))

-- Of premium dates alone, from any row that a bound keeps to: that bound and the accruals since.
pub date_ceiling : (t : Tree) → Fair t → (a O q : ℕ → ℕ) (c : ℕ) → ((k : ℕ) → k ≤ t.names → O k ≤ B) →
    ((k : ℕ) → k ≤ t.names → q k ≤ c) →
    (h i k : ℕ) → k ≤ t.names → back_from t (date_leg a O).rounded q h i k ≤ over a h i + c
date_ceiling t fair a O q c most starts h i k l =
    ceiling t fair (i + h) (premium_cash a O) q (λ h i k. over a h i + c) (λ k l. omega (arith, starts k l))
    (λ h i k e g. unfold premium_cash in omega (arith, over_step a h i, premium_payment_most (a (suc i)) (O (suc k)) (most (suc k) g)))
    (λ h i k e g. unfold premium_cash in omega (arith, over_step a h i, premium_payment_most (a (suc i)) (O k) (most k g))) h i k refl l
