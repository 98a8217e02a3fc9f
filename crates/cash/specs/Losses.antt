-- Losses, outstanding nominal and payments (document 01, 'Arithmetic and cash'). `-` stops at 0 and `/` rounds down.
use Rattle.std.specs.Prelude.{ℕ, ◌+◌, ◌-◌, ◌*◌, ◌/◌, ◌≤◌, min, cond, ◌≡◌, leb}
use Rattle.cash.specs.Units.{B, half}

-- Pool loss L(k): what k defaults among the names take from the pool.
unfoldable pub pool_loss : ℕ → ℕ → ℕ → ℕ
pool_loss names recovery k = k * (B - recovery) / names

-- Tranche loss M: the part of a pool loss that falls between two attachment points. (Document 01 says slice and cuts.)
-- Three cases: the loss ends below the tranche, inside it, or above it.
unfoldable pub tranche_loss : ℕ → ℕ → ℕ → ℕ
tranche_loss lower upper loss =
    cond (leb loss lower) 0
    (cond (leb loss upper) (loss - lower)
    (upper - lower))

-- The same figure clamped: the loss less the lower point, at least 0 and at most the width.
unfoldable pub clamped_loss : ℕ → ℕ → ℕ → ℕ
clamped_loss lower upper loss = min (loss - lower) (upper - lower)

-- Both agree at every loss, and at any two points, rising or not.
abbrev pub CasesClamp : Type 0
CasesClamp = (lower upper loss : ℕ) → tranche_loss lower upper loss ≡ clamped_loss lower upper loss

-- What a tranche has left to lose: its width less its loss.
unfoldable pub left_to_lose : ℕ → ℕ → ℕ → ℕ
left_to_lose lower upper loss = (upper - lower) - tranche_loss lower upper loss

-- Recovered nominal Z(k): what is got back of k defaults among the names. (T-12, as all down to the index)
unfoldable pub pool_recovery : ℕ → ℕ → ℕ → ℕ
pool_recovery names recovery k = k * recovery / names

-- What a recovery takes off a tranche. It starts at the top of the pool: what lies above the upper point goes first, then the tranche.
unfoldable pub tranche_recovery : ℕ → ℕ → ℕ → ℕ
tranche_recovery lower upper recovered = min (recovered - (B - upper)) (upper - lower)

-- Outstanding O of the tranche: its width less its loss, from below, and less what a recovery takes off it, from above.
unfoldable pub tranche_outstanding : ℕ → ℕ → ℕ → ℕ → ℕ
tranche_outstanding lower upper loss recovered = (upper - lower) - tranche_loss lower upper loss - tranche_recovery lower upper recovered

-- Outstanding O of the index: the pool less what is lost and what is recovered.
unfoldable pub index_outstanding : ℕ → ℕ → ℕ
index_outstanding loss recovered = B - loss - recovered

-- Every unit is outstanding, lost or recovered, so neither O stops at 0.
pub record NominalKept : Type 0 where
  pub pool : (names recovery k : ℕ) → recovery ≤ B → k ≤ names → pool_loss names recovery k + pool_recovery names recovery k ≤ B
  pub tranche : (lower upper loss recovered : ℕ) → lower ≤ upper → upper ≤ B → loss + recovered ≤ B →
      tranche_outstanding lower upper loss recovered + tranche_loss lower upper loss + tranche_recovery lower upper recovered ≡ upper - lower
  pub index : (loss recovered : ℕ) → loss + recovered ≤ B → index_outstanding loss recovered + loss + recovered ≡ B

-- What a default pays that takes a loss from M(k) to M(k + 1).
unfoldable pub default_payment : ℕ → ℕ → ℕ
default_payment before after = after - before

-- What a premium date pays: the accrual on the outstanding nominal.
unfoldable pub premium_payment : ℕ → ℕ → ℕ
premium_payment accrual outstanding = half (accrual * outstanding)

-- What a default pays of the premium earned since the last date: the elapsed fraction of a year on what the default takes off the outstanding
-- nominal, from O(k) to O(k + 1). (T-01)
unfoldable pub elapsed_payment : ℕ → ℕ → ℕ → ℕ
elapsed_payment fraction before after = half (fraction * (before - after))
