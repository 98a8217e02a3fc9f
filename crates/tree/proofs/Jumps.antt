-- What one default more does to walked rows.
use Rattle.std.proofs.Common.{ℕ, zero, suc, ◌+◌, ◌*◌, ◌≤◌, ◌<◌, le_refl, le_trans, mul-le-mul_left, arith}
use Rattle.cash.specs.Units.{half}
use Rattle.cash.specs.Losses.{default_payment, premium_payment}
use Rattle.cash.proofs.Rounding.{half_rises}
use Rattle.tree.specs.Paths.{Tree, Fair}
use Rattle.tree.specs.Backward.{back_from}
use Rattle.tree.specs.Legs.{default_cash, premium_cash}
use Rattle.tree.proofs.PathSums.{default_le}
use Rattle.tree.proofs.Rolling.{roll_above, roll_below, half_plus}

-- The default leg falls with a default by at most what the default pays.
-- Both nodes compare with the figure z after the default: the lower count is worth at most z and the payment brought back, the higher at least z brought back.
pub default_jump : (t : Tree) → Fair t → (M q : ℕ → ℕ) →
    ((k : ℕ) → k < t.names → q k ≤ default_payment (M k) (M (suc k)) + q (suc k)) →
    (h i k : ℕ) → k < t.names → back_from t (default_cash M) q h i k ≤ default_payment (M k) (M (suc k)) + back_from t (default_cash M) q h i (suc k)
unfolding back_from default_cash
default_jump t fair M q starts zero i k l = starts k l
default_jump t fair M q starts (suc h) i k l =
    omega (
      arith,
      lower (default_jump t fair M q starts h (suc i) k l),
      higher (default_jump t fair M q starts h (suc i) (suc k)),
      half_plus (t.discount (suc i)) z (pay k) (fair.shrinks (suc i)),
    )
  where
    X : ℕ → ℕ
    X = back_from t (default_cash M) q h (suc i)

    pay : ℕ → ℕ
    pay c = default_payment (M c) (M (suc c))

    z : ℕ
    z = X (suc k)

    lower : X k ≤ pay k + z → back_from t (default_cash M) q (suc h) i k ≤ half (t.discount (suc i) * (z + pay k))
    lower g = roll_above (t.hazard (suc i) k) (t.discount (suc i)) _ _ (z + pay k) (fair.sure (suc i) k) (le_refl _) (omega arith)

    higher : (suc k < t.names → z ≤ pay (suc k) + X (suc (suc k))) → half (t.discount (suc i) * z) ≤ back_from t (default_cash M) q (suc h) i (suc k)
    higher g =
        roll_below (t.hazard (suc i) (suc k)) (t.discount (suc i)) _ _ z (fair.sure (suc i) (suc k))
        (default_le t fair (suc i) (suc k) l _ _ (λ below. omega (arith, g below))) (omega arith)

-- The premium leg never rises with a default. Both nodes compare with the figure z after the default, premium paid.
pub premium_jump : (t : Tree) → Fair t → (a O q : ℕ → ℕ) → ((k : ℕ) → O (suc k) ≤ O k) →
    ((k : ℕ) → k < t.names → q (suc k) ≤ q k) →
    (h i k : ℕ) → k < t.names → back_from t (premium_cash a O) q h i (suc k) ≤ back_from t (premium_cash a O) q h i k
unfolding back_from premium_cash
premium_jump t fair a O q falls starts zero i k l = starts k l
premium_jump t fair a O q falls starts (suc h) i k l =
    le_trans
    (higher (premium_jump t fair a O q falls starts h (suc i) (suc k)))
    (lower (premium_jump t fair a O q falls starts h (suc i) k l))
  where
    X : ℕ → ℕ
    X = back_from t (premium_cash a O) q h (suc i)

    pay : ℕ → ℕ
    pay c = premium_payment (a (suc i)) (O c)

    pays_less : (c : ℕ) → pay (suc c) ≤ pay c
    pays_less c = unfold premium_payment in half_rises _ _ (mul-le-mul_left (a (suc i)) (falls c))

    z : ℕ
    z = X (suc k) + pay (suc k)

    lower : X (suc k) ≤ X k → half (t.discount (suc i) * z) ≤ back_from t (premium_cash a O) q (suc h) i k
    lower g =
        roll_below (t.hazard (suc i) k) (t.discount (suc i)) _ _ z (fair.sure (suc i) k)
        (le_refl _) (omega (arith, pays_less k))

    higher : (suc k < t.names → X (suc (suc k)) ≤ X (suc k)) → back_from t (premium_cash a O) q (suc h) i (suc k) ≤ half (t.discount (suc i) * z)
    higher g =
        roll_above (t.hazard (suc i) (suc k)) (t.discount (suc i)) _ _ z (fair.sure (suc i) (suc k))
        (default_le t fair (suc i) (suc k) l _ _ (λ below. omega (arith, g below, pays_less (suc k)))) (le_refl _)
