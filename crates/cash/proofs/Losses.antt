-- Laws of losses and outstanding nominal.
use Rattle.std.proofs.Common.{ℕ, zero, suc, ◌+◌, ◌-◌, ◌/◌, ◌≤◌, ◌<◌, min, ◌≡◌, refl, Bool, true, false, cond, not, T, leb, leb→le, le_refl, le_of_lt}
use Rattle.std.proofs.Common.{◌∙◌, ap, le_trans, mul-le-mul_left, mul-le-mul_right, le-div_iff_mul-le, div-mul-le_self, arith}
use lib.Dec.{nleb→lt}
use native.Mathlib.Nat.{le_step, div-le_of_le-mul, zero-mul, zero-div}
use Rattle.cash.specs.Units.{B}
use Rattle.cash.specs.Sums.{sum_to, Rising}
use Rattle.cash.specs.Losses.{pool_loss, tranche_loss, clamped_loss, CasesClamp, premium_payment, elapsed_payment}
use Rattle.cash.proofs.Rounding.{half_most}
use Rattle.cash.proofs.Sums.{rises}

-- ---- the pool

-- a share of more is more
pub share_rises : (d x y : ℕ) → 0 < d → x ≤ y → x / d ≤ y / d
share_rises d x y p h = (le-div_iff_mul-le p).1 (le_trans (div-mul-le_self x d) h)

pub pool_loss_rises : (names recovery k : ℕ) → 0 < names → pool_loss names recovery k ≤ pool_loss names recovery (suc k)
unfolding pool_loss
pool_loss_rises names recovery k p = share_rises names _ _ p (omega arith)

pub pool_loss_most : (names recovery k : ℕ) → k ≤ names → pool_loss names recovery k ≤ B - recovery
unfolding pool_loss
pool_loss_most names recovery k l = div-le_of_le-mul names (mul-le-mul_right (B - recovery) l)

pub pool_loss_none : (names recovery : ℕ) → pool_loss names recovery 0 ≡ 0
unfolding pool_loss
pool_loss_none names recovery = ap (λ y. y / names) (zero-mul (B - recovery)) ∙ zero-div names

-- ---- a tranche

-- a tranche from 30 to 60: below up to 30, inside up to 60, above beyond
record LossCases : Type 0 where
  nothing : tranche_loss 30 60 0 ≡ 0
  lower_point : tranche_loss 30 60 30 ≡ 0
  above_lower : tranche_loss 30 60 31 ≡ 1
  upper_point : tranche_loss 30 60 60 ≡ 30
  above_upper : tranche_loss 30 60 61 ≡ 30
  pool : tranche_loss 30 60 1_000_000_000 ≡ 30

loss_cases : LossCases
unfolding tranche_loss
loss_cases =
    record {
      nothing = refl;
      lower_point = refl;
      above_lower = refl;
      upper_point = refl;
      above_upper = refl;
      pool = refl;
    }

-- the three cases give the clamped figure; the laws below go by that
pub cases_clamp : CasesClamp
unfolding tranche_loss clamped_loss
cases_clamp lower upper loss =
    go (leb loss lower) (leb loss upper) (leb→le loss lower) (nleb→lt loss lower) (leb→le loss upper) (nleb→lt loss upper)
  where
    go : (low high : Bool) → (T low → loss ≤ lower) → (T (not low) → lower < loss) → (T high → loss ≤ upper) → (T (not high) → upper < loss)
        → cond low 0 (cond high (loss - lower) (upper - lower)) ≡ min (loss - lower) (upper - lower)
    go true high below p q r = omega (arith, below tt)
    go false true p from inside q = omega (arith, from tt, inside tt)
    go false false p from q above = omega (arith, from tt, above tt)

pub tranche_loss_rises : (lower upper x y : ℕ) → x ≤ y → tranche_loss lower upper x ≤ tranche_loss lower upper y
unfolding clamped_loss
tranche_loss_rises lower upper x y h = omega (arith, cases_clamp lower upper x, cases_clamp lower upper y)

pub tranche_loss_most : (lower upper x : ℕ) → tranche_loss lower upper x ≤ upper - lower
unfolding clamped_loss
tranche_loss_most lower upper x = omega (arith, cases_clamp lower upper x)

pub tranche_loss_none : (lower upper : ℕ) → tranche_loss lower upper 0 ≡ 0
unfolding clamped_loss
tranche_loss_none lower upper = omega (arith, cases_clamp lower upper 0)

-- a tranche from 0 on that reaches as far as the loss loses all of it
pub tranche_loss_whole : (upper x : ℕ) → x ≤ upper → tranche_loss 0 upper x ≡ x
unfolding clamped_loss
tranche_loss_whole upper x h = omega (arith, cases_clamp 0 upper x)

-- the loss below the upper point is the tranche's and the loss below the lower one
loss_between : (lower upper x : ℕ) → lower ≤ upper → tranche_loss lower upper x + min x lower ≡ min x upper
unfolding clamped_loss
loss_between lower upper x h = omega (arith, cases_clamp lower upper x)

-- tranches side by side lose what the tranche spanning them loses
pub losses_add : (r : ℕ) (c : ℕ → ℕ) → Rising r c → (x : ℕ) → sum_to r (λ j. tranche_loss (c j) (c (suc j)) x) ≡ tranche_loss (c 0) (c r) x
unfolding sum_to
losses_add zero c h x = omega (arith, loss_between (c 0) (c 0) x (le_refl _))
losses_add (suc r) c h x =
    omega (arith, losses_add r c (λ j l. h j (le_step l)) x, loss_between (c 0) (c r) x (rises r c (λ j l. h j (le_step l))), loss_between (c r) (c (suc r)) x (le_of_lt (h r (le_refl (suc r)))), loss_between (c 0) (c (suc r)) x (rises (suc r) c h))

-- ---- payments

pub premium_payment_most : (accrual outstanding : ℕ) → outstanding ≤ B → premium_payment accrual outstanding ≤ accrual
unfolding premium_payment
premium_payment_most accrual outstanding h = half_most _ _ (mul-le-mul_left accrual h)

-- an elapsed payment is at most the nominal that the default takes off
pub elapsed_payment_most : (fraction before after : ℕ) → fraction ≤ B → elapsed_payment fraction before after ≤ before - after
unfolding elapsed_payment
elapsed_payment_most fraction before after h = half_most _ _ (omega (arith, mul-le-mul_right (before - after) h))
