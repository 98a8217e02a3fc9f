-- Worked figures of the definitions, by computation: document 01's starred entries on losses and halves.
use Rattle.std.proofs.Common.{◌≡◌, refl, ℕ}
use Rattle.cash.specs.Units.{B, half}
use Rattle.cash.specs.Losses.{pool_loss, pool_recovery, tranche_loss, tranche_recovery, tranche_outstanding, index_outstanding}

-- what is left of a tranche of a pool of 125 with a recovery of 40 %
left : ℕ → ℕ → ℕ → ℕ
left lower upper k = tranche_outstanding lower upper (pool_loss 125 400_000_000 k) (pool_recovery 125 400_000_000 k)

record Amortisation : Type 0 where
  equity_6 : left 0 30_000_000 6 ≡ 1_200_000
  equity_7 : left 0 30_000_000 7 ≡ 0
  next_6 : left 30_000_000 60_000_000 6 ≡ 30_000_000
  next_7 : left 30_000_000 60_000_000 7 ≡ 26_400_000
  next_12 : left 30_000_000 60_000_000 12 ≡ 2_400_000
  next_13 : left 30_000_000 60_000_000 13 ≡ 0

amortisation : Amortisation
unfolding left tranche_outstanding tranche_loss tranche_recovery pool_loss pool_recovery B
amortisation = record { equity_6 = refl; equity_7 = refl; next_6 = refl; next_7 = refl; next_12 = refl; next_13 = refl }

record Halves : Type 0 where
  below_half : half 499_999_999 ≡ 0
  at_half : half 500_000_000 ≡ 1
  below_next : half 1_499_999_999 ≡ 1
  at_next : half 1_500_000_000 ≡ 2

halves : Halves
unfolding half B
halves = record { below_half = refl; at_half = refl; below_next = refl; at_next = refl }

-- three names show what two hide: the shares of one name are rounded down
record Thirds : Type 0 where
  loss : pool_loss 3 0 1 ≡ 333_333_333
  index : index_outstanding (pool_loss 3 350_000_000 1) (pool_recovery 3 350_000_000 1) ≡ 666_666_668

thirds : Thirds
unfolding pool_loss pool_recovery index_outstanding B
thirds = record { loss = refl; index = refl }
