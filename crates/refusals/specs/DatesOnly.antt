-- With all fractions 0 a sheet gets the earlier refusals (T-01): those of the tests as they were.
use Rattle.std.specs.Prelude.{◌+◌, ◌≡◌, Bool, ◌||◌, List, ◌∷◌, length, replicate}
use Rattle.sheet.specs.Brought.{Brought}
use Rattle.refusals.specs.declared.Refusal.TheVariants.{Pool, Length, Hazard, Discount, Accrual, Coupon, Periods}
use Rattle.refusals.specs.Tests.{differs, pool_bad, periods_bad, starts_bad, hazards_bad, discounts_bad, accruals_bad, coupons_bad}
use Rattle.refusals.specs.Tests.{Test, first, tranche_tests, sheet_tests}

unfoldable pub dates_only_lists_bad : Brought → Bool
dates_only_lists_bad x =
    differs (length x.sheet.attachments) (x.sheet.tranches + 1) || periods_bad x.sheet
    || differs (length x.sheet.discounts) x.sheet.steps || differs (length x.sheet.accruals) x.sheet.steps
    || differs (length x.coupons) (x.sheet.tranches + 1)

unfoldable pub dates_only_tests : Brought → Bool → List Test → List Test
dates_only_tests x lent more =
    (pool_bad x.sheet, Pool) ∷ (dates_only_lists_bad x || lent, Length)
    ∷ tranche_tests x.sheet ((starts_bad x.sheet, Periods) ∷ (hazards_bad x.sheet, Hazard) ∷ (discounts_bad x.sheet, Discount)
    ∷ (accruals_bad x.sheet, Accrual) ∷ (coupons_bad x, Coupon) ∷ more)

abbrev pub RefusalsByDates : Type 0
RefusalsByDates = (x : Brought) → x.sheet.elapsed ≡ replicate x.sheet.steps 0 → (lent : Bool) (more : List Test) →
    first (sheet_tests x lent more) ≡ first (dates_only_tests x lent more)
