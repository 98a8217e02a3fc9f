-- Laws of what is recovered, and of what it leaves outstanding.
use Rattle.std.proofs.Common.{ℕ, suc, ◌+◌, ◌-◌, ◌*◌, ◌≤◌, ◌<◌, min, ◌≡◌, refl, sym, ◌∙◌, ap, ap₂, le_of_lt, le_trans, add-sub_of_le, mul-le-mul_right}
use Rattle.std.proofs.Common.{arith}
use native.Mathlib.Nat.{div-le_of_le-mul}
use native.Mathlib.Decide.{dec_le}
use Rattle.cash.specs.Units.{B}
use Rattle.cash.specs.Sums.{sum_to, Rising}
use Rattle.cash.specs.Losses.{pool_loss, pool_recovery, tranche_loss, clamped_loss, tranche_recovery, left_to_lose, tranche_outstanding, index_outstanding, NominalKept}
use Rattle.cash.proofs.Sums.{sum_cong, rises, up_to, steps_add}
use Rattle.cash.proofs.Losses.{cases_clamp, share_rises, pool_loss_most, tranche_loss_most, tranche_loss_rises}

-- a third of a recovery of 35 %; a tranche from 30 to 60 % below 40 % of the pool; what is left of the index, and of a tranche from 30 % on
record RecoveryFigures : Type 0 where
  third : pool_recovery 3 350_000_000 1 ≡ 116_666_666
  above_it : tranche_recovery 300_000_000 600_000_000 400_000_000 ≡ 0
  first_unit : tranche_recovery 300_000_000 600_000_000 400_000_001 ≡ 1
  all_of_it : tranche_recovery 300_000_000 600_000_000 700_000_001 ≡ 300_000_000
  index : index_outstanding 216_666_666 116_666_666 ≡ 666_666_668
  top : tranche_outstanding 300_000_000 1_000_000_000 433_333_333 233_333_333 ≡ 333_333_334

recovery_figures : RecoveryFigures
unfolding B pool_recovery tranche_loss tranche_recovery tranche_outstanding index_outstanding
recovery_figures = record { third = refl; above_it = refl; first_unit = refl; all_of_it = refl; index = refl; top = refl }

-- ---- the pool

pub pool_recovery_rises : (names recovery k : ℕ) → 0 < names → pool_recovery names recovery k ≤ pool_recovery names recovery (suc k)
unfolding pool_recovery
pool_recovery_rises names recovery k p = share_rises names (k * recovery) (suc k * recovery) p (omega arith)

pool_recovery_most : (names recovery k : ℕ) → k ≤ names → pool_recovery names recovery k ≤ recovery
unfolding pool_recovery
pool_recovery_most names recovery k l = div-le_of_le-mul names (mul-le-mul_right recovery l)

pub pool_shares : (names recovery k : ℕ) → recovery ≤ B → k ≤ names → pool_loss names recovery k + pool_recovery names recovery k ≤ B
pool_shares names recovery k h l = omega (arith, pool_loss_most names recovery k l, pool_recovery_most names recovery k l)

-- ---- a tranche: seen from the top of the pool, a recovery is a loss

pub recovery_mirrored : (lower upper recovered : ℕ) → lower ≤ upper → upper ≤ B → tranche_loss (B - upper) (B - lower) recovered ≡ tranche_recovery lower upper recovered
unfolding clamped_loss tranche_recovery
recovery_mirrored lower upper recovered h b = cases_clamp (B - upper) (B - lower) recovered ∙ ap (λ y. min (recovered - (B - upper)) y) (omega arith)

-- ---- by what lies below a point

-- What is outstanding below x of a pool that has lost its first `lost` units and all from `from` on.
unfoldable nominal_below : ℕ → ℕ → ℕ → ℕ
nominal_below lost from x = min x from - lost

left_by_lem : (lower width loss : ℕ) → width - min (loss - lower) width ≡ (lower + width - loss) - (lower - loss)
left_by_lem lower width loss = omega arith

left_over : (lower upper loss : ℕ) → lower ≤ upper → left_to_lose lower upper loss ≡ (upper - loss) - (lower - loss)
unfolding left_to_lose clamped_loss
left_over lower upper loss h =
    ap (λ m. (upper - lower) - m) (cases_clamp lower upper loss)
    ∙ left_by_lem lower (upper - lower) loss
    ∙ ap (λ x. x - loss - (lower - loss)) (add-sub_of_le h)

above : (u x recovered : ℕ) → x + u ≡ B → x - (B - recovered) ≡ min recovered B - u
above u x recovered e = omega arith

top_cap : (recovered u width : ℕ) → u + width ≤ B → min (recovered - u) width ≡ min (min recovered B - u) width
top_cap recovered u width h = omega arith

top_by : (recovered u width : ℕ) → min (recovered - u) width ≡ (recovered - u) - (recovered - (u + width))
top_by recovered u width = omega arith

recovery_over : (lower upper recovered : ℕ) → lower ≤ upper → upper ≤ B →
    tranche_recovery lower upper recovered ≡ (upper - (B - recovered)) - (lower - (B - recovered))
unfolding tranche_recovery
recovery_over lower upper recovered h b =
    top_cap recovered (B - upper) (upper - lower) (omega arith)
    ∙ top_by (min recovered B) (B - upper) (upper - lower)
    ∙ ap₂ (λ x y. x - y) (sym (above (B - upper) upper recovered (omega arith))) (sym (above (B - upper + (upper - lower)) lower recovered (omega arith)))

thin : (lower upper lost from : ℕ) → lower ≤ upper → from ≤ lost → (upper - lost) - (lower - lost) ≤ (upper - from) - (lower - from)
thin lower upper lost from h g = omega arith

pub recovery_fits : (lower upper loss recovered : ℕ) → lower ≤ upper → upper ≤ B → loss + recovered ≤ B →
    tranche_recovery lower upper recovered ≤ left_to_lose lower upper loss
recovery_fits lower upper loss recovered h b s =
    rw (left_over lower upper loss h, recovery_over lower upper recovered h b) (thin lower upper (B - recovered) loss h (omega arith))

split : (lost from x : ℕ) → lost ≤ from → x - lost ≡ (x - from) + nominal_below lost from x
unfolding nominal_below
split lost from x h = omega arith

below_rises : (lost from x y : ℕ) → x ≤ y → nominal_below lost from x ≤ nominal_below lost from y
unfolding nominal_below
below_rises lost from x y h = omega arith

sub_rises : (from x y : ℕ) → x ≤ y → x - from ≤ y - from
sub_rises from x y h = omega arith

below_none : (lost from x : ℕ) → from ≤ lost → nominal_below lost from x ≡ 0
unfolding nominal_below
below_none lost from x h = omega arith

regroup : (u g v f : ℕ) → u ≤ v → g ≤ f → (v + f) - (u + g) - (v - u) ≡ f - g
regroup u g v f h k = omega arith

-- What is outstanding of a tranche is what is outstanding below its upper point less what is so below its lower one.
outstanding_between : (lower upper loss recovered : ℕ) → lower ≤ upper → upper ≤ B →
    tranche_outstanding lower upper loss recovered ≡ nominal_below loss (B - recovered) upper - nominal_below loss (B - recovered) lower
unfolding tranche_outstanding left_to_lose
outstanding_between lower upper loss recovered h b =
    ap₂ (λ x y. x - y) (left_over lower upper loss h) (recovery_over lower upper recovered h b) ∙ go (dec_le loss (B - recovered))
  where
    go : Dec (loss ≤ B - recovered) → (upper - loss) - (lower - loss) - ((upper - (B - recovered)) - (lower - (B - recovered)))
        ≡ nominal_below loss (B - recovered) upper - nominal_below loss (B - recovered) lower
    go (yes g) =
        ap₂ (λ x y. x - y - ((upper - (B - recovered)) - (lower - (B - recovered)))) (split loss (B - recovered) upper g) (split loss (B - recovered) lower g)
        ∙ regroup _ _ _ _ (sub_rises (B - recovered) lower upper h) (below_rises loss (B - recovered) lower upper h)
    go (no g) =
        none (thin lower upper loss (B - recovered) h (omega arith))
        ∙ sym (ap₂ (λ x y. x - y) (below_none loss (B - recovered) upper (omega arith)) (below_none loss (B - recovered) lower (omega arith)))
      where
        none : {x y : ℕ} → x ≤ y → x - y ≡ 0
        none l = omega arith

-- ---- every unit is outstanding, lost or recovered

tranche_kept : (lower upper loss recovered : ℕ) → lower ≤ upper → upper ≤ B → loss + recovered ≤ B →
    tranche_outstanding lower upper loss recovered + tranche_loss lower upper loss + tranche_recovery lower upper recovered ≡ upper - lower
unfolding tranche_outstanding
tranche_kept lower upper loss recovered h b s =
    let fits : tranche_recovery lower upper recovered ≤ upper - lower - tranche_loss lower upper loss =
    unfold left_to_lose in recovery_fits lower upper loss recovered h b s in
    omega (arith, tranche_loss_most lower upper loss)

index_kept : (loss recovered : ℕ) → loss + recovered ≤ B → index_outstanding loss recovered + loss + recovered ≡ B
unfolding index_outstanding
index_kept loss recovered h = omega arith

pub nominal_kept : NominalKept
nominal_kept = record { pool = pool_shares; tranche = tranche_kept; index = index_kept }

-- ---- outstanding nominal falls, and is at most the pool

tranche_recovery_rises : (lower upper x y : ℕ) → x ≤ y → tranche_recovery lower upper x ≤ tranche_recovery lower upper y
unfolding tranche_recovery
tranche_recovery_rises lower upper x y h = omega arith

pub outstanding_falls : (lower upper x y u v : ℕ) → x ≤ y → u ≤ v → tranche_outstanding lower upper y v ≤ tranche_outstanding lower upper x u
unfolding tranche_outstanding
outstanding_falls lower upper x y u v h g = omega (arith, tranche_loss_rises lower upper x y h, tranche_recovery_rises lower upper u v g)

pub outstanding_most : (lower upper loss recovered : ℕ) → upper ≤ B → tranche_outstanding lower upper loss recovered ≤ B
unfolding tranche_outstanding
outstanding_most lower upper loss recovered h = omega arith

pub index_outstanding_falls : (x y u v : ℕ) → x ≤ y → u ≤ v → index_outstanding y v ≤ index_outstanding x u
unfolding index_outstanding
index_outstanding_falls x y u v h g = omega arith

pub index_outstanding_most : (loss recovered : ℕ) → index_outstanding loss recovered ≤ B
unfolding index_outstanding
index_outstanding_most loss recovered = omega arith

-- ---- tranches side by side

-- as much is outstanding of tranches side by side as of the tranche spanning them
pub outstandings_add : (r : ℕ) (c : ℕ → ℕ) → Rising r c → c r ≤ B → (loss recovered : ℕ) →
    sum_to r (λ j. tranche_outstanding (c j) (c (suc j)) loss recovered) ≡ tranche_outstanding (c 0) (c r) loss recovered
outstandings_add r c h b loss recovered =
    sum_cong r _ _ (λ j l. outstanding_between (c j) (c (suc j)) loss recovered (le_of_lt (h j l)) (le_trans (up_to r c h (suc j) l) b))
    ∙ steps_add r c (nominal_below loss (B - recovered)) h (below_rises loss (B - recovered))
    ∙ sym (outstanding_between (c 0) (c r) loss recovered (rises r c h) b)

-- as much is outstanding of the tranche from 0 to B as of the index
pub outstanding_whole : (loss recovered : ℕ) → tranche_outstanding 0 B loss recovered ≡ index_outstanding loss recovered
unfolding tranche_outstanding index_outstanding
outstanding_whole loss recovered = ap₂ (λ x y. x - y) left got ∙ rest
  where
    left : B - 0 - tranche_loss 0 B loss ≡ B - loss
    left = unfold clamped_loss in omega (arith, cases_clamp 0 B loss)

    got : tranche_recovery 0 B recovered ≡ min recovered B
    got = unfold tranche_recovery in omega arith

    rest : B - loss - min recovered B ≡ B - loss - recovered
    rest = omega arith
