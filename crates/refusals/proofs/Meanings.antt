-- Each of the tests of a sheet is false just where the sheet keeps to its limit.
use Rattle.std.proofs.Common.{suc, pred, ◌+◌, ◌*◌, ◌≡◌, Bool, false, ◌||◌, ◌↔◌, arith, length, get_or, drop}
use mathlib.Core.Logic.Iff
use Rattle.cash.specs.Units.{B}
use Rattle.sheet.specs.Terms.{Terms, sum_of}
use Rattle.sheet.specs.Dates.{next_accrual}
use Rattle.sheet.specs.Brought.{Brought}
use Rattle.sheet.specs.Limits.{PoolInside, ListsFit, RecoveryInside, AttachmentsRise, StartsRise, HazardsInside, DiscountsInside, AccrualsInside, ElapsedInside, CouponsInside}
use Rattle.refusals.specs.Tests.{pool_bad, periods_bad, lists_bad, recovery_bad, attachments_bad, starts_bad, hazards_bad, discounts_bad, accruals_bad, elapsed_bad, coupons_bad}
use Rattle.refusals.proofs.Judged.{or_fine, most_fine, rise_fine, outside_fine, differs_fine, some_fine, any_fine}

module _ (x : Terms) where
  pub pool_fine : (pool_bad x ≡ false) ↔ PoolInside x
  unfolding pool_bad
  pool_fine =
      Iff.trans (or_fine (or_fine (outside_fine 1 125 x.names) (outside_fine 1 3650 x.steps)) (outside_fine 1 8 x.tranches))
      (λ m. record { names = m.0.0; steps = m.0.1; tranches = m.1 }, λ p. ((p.names, p.steps), p.tranches))

  pub recovery_fine : (recovery_bad x ≡ false) ↔ RecoveryInside x
  unfolding recovery_bad
  recovery_fine = most_fine B x.recovery

  pub attachments_fine : (attachments_bad x ≡ false) ↔ AttachmentsRise x
  unfolding attachments_bad
  attachments_fine =
      Iff.trans (or_fine (any_fine x.tranches (λ j. rise_fine (get_or x.attachments (suc j) 0) (get_or x.attachments j 0))) (any_fine (x.tranches + 1) (λ j. most_fine B (get_or x.attachments j 0))))
      (λ m. record { rise = m.0; most = m.1 }, λ p. (p.rise, p.most))

  pub starts_fine : (starts_bad x ≡ false) ↔ StartsRise x
  unfolding starts_bad
  starts_fine =
      Iff.trans (or_fine (or_fine (differs_fine (get_or x.starts 0 0) 1) (any_fine (pred (length x.starts)) (λ j. rise_fine (get_or x.starts (suc j) 0) (get_or x.starts j 0)))) (any_fine (length x.starts) (λ j. most_fine x.steps (get_or x.starts j 0))))
      (λ m. record { first = m.0.0; rise = λ j h. m.0.1 j (omega arith); most = m.1 }, λ p. ((p.first, λ j h. p.rise j (omega arith)), p.most))

  pub hazards_fine : (hazards_bad x ≡ false) ↔ HazardsInside x
  unfolding hazards_bad
  hazards_fine = any_fine (length x.hazards) (λ k. most_fine B (get_or x.hazards k 0))

  pub discounts_fine : (discounts_bad x ≡ false) ↔ DiscountsInside x
  unfolding discounts_bad
  discounts_fine = any_fine x.steps (λ i. outside_fine 1 B (get_or x.discounts i 0))

  pub accruals_fine : (accruals_bad x ≡ false) ↔ AccrualsInside x
  unfolding accruals_bad
  accruals_fine =
      Iff.trans (or_fine (or_fine (any_fine x.steps (λ i. most_fine B (get_or x.accruals i 0))) (most_fine (10 * B) (sum_of x.accruals))) (some_fine (get_or x.accruals (pred x.steps) 0)))
      (λ m. record { most = m.0.0; total = m.0.1; last = m.1 }, λ p. ((p.most, p.total), p.last))

  pub elapsed_fine : (elapsed_bad x ≡ false) ↔ ElapsedInside x
  unfolding elapsed_bad
  elapsed_fine = any_fine x.steps (λ i. most_fine (next_accrual (drop i x.accruals)) (get_or x.elapsed i 0))

module _ (x : Brought) where
  pub lists_fine : (lists_bad x ≡ false) ↔ ListsFit x
  unfolding lists_bad periods_bad
  lists_fine =
      Iff.trans
      (or_fine (or_fine (or_fine (or_fine (or_fine
      (differs_fine (length x.sheet.attachments) (x.sheet.tranches + 1))
      (or_fine (outside_fine 1 16 (length x.sheet.starts)) (differs_fine (length x.sheet.hazards) (length x.sheet.starts * x.sheet.names))))
      (differs_fine (length x.sheet.discounts) x.sheet.steps))
      (differs_fine (length x.sheet.accruals) x.sheet.steps))
      (differs_fine (length x.sheet.elapsed) x.sheet.steps))
      (differs_fine (length x.coupons) (x.sheet.tranches + 1))) (
        λ m. (
          m.0.0.0.0.0,
          record {
            starts = m.0.0.0.0.1.0;
            hazards = m.0.0.0.0.1.1;
            discounts = m.0.0.0.1;
            accruals = m.0.0.1;
            elapsed = m.0.1;
          },
          m.1,
        ),
        λ p. (((((p.0, (p.1.starts, p.1.hazards)), p.1.discounts), p.1.accruals), p.1.elapsed), p.2),
      )

  -- The same with the lists lent beside the sheet's own, where K says that they fit.
  pub lengths_fine : {lent : Bool} {K : Type 0} → (lent ≡ false) ↔ K → ((lists_bad x || lent) ≡ false) ↔ (ListsFit x × K)
  lengths_fine m = or_fine lists_fine m

  pub coupons_fine : (coupons_bad x ≡ false) ↔ CouponsInside x
  unfolding coupons_bad
  coupons_fine = any_fine (x.sheet.tranches + 1) (λ j. most_fine 10_000_000 (get_or x.coupons j 0))
