-- With the one start 1 a sheet gets the earlier refusals (T-06): those of the tests as they were.
use Rattle.std.specs.Prelude.{◌+◌, ◌≡◌, Bool, ◌||◌, List, [], ◌∷◌, length, get_or, ltb}
use Rattle.cash.specs.Units.{B}
use Rattle.sheet.specs.Terms.{Terms}
use Rattle.sheet.specs.Brought.{Brought}
use Rattle.rows.specs.Tables.{any}
use Rattle.refusals.specs.declared.Refusal.TheVariants.{Pool, Length, Hazard, Discount, Accrual, Coupon, Elapsed}
use Rattle.refusals.specs.Tests.{differs, pool_bad, discounts_bad, accruals_bad, elapsed_bad, coupons_bad, Test, first, tranche_tests, sheet_tests}

unfoldable pub steady_lists_bad : Brought → Bool
steady_lists_bad x =
    differs (length x.sheet.attachments) (x.sheet.tranches + 1) || differs (length x.sheet.hazards) x.sheet.names
    || differs (length x.sheet.discounts) x.sheet.steps || differs (length x.sheet.accruals) x.sheet.steps
    || differs (length x.sheet.elapsed) x.sheet.steps || differs (length x.coupons) (x.sheet.tranches + 1)

unfoldable pub steady_hazards_bad : Terms → Bool
steady_hazards_bad x = any x.names (λ k. ltb B (get_or x.hazards k 0))

unfoldable pub steady_tests : Brought → Bool → List Test → List Test
steady_tests x lent more =
    (pool_bad x.sheet, Pool) ∷ (steady_lists_bad x || lent, Length)
    ∷ tranche_tests x.sheet ((steady_hazards_bad x.sheet, Hazard) ∷ (discounts_bad x.sheet, Discount)
    ∷ (accruals_bad x.sheet, Accrual) ∷ (elapsed_bad x.sheet, Elapsed) ∷ (coupons_bad x, Coupon) ∷ more)

abbrev pub RefusalsSteady : Type 0
RefusalsSteady = (x : Brought) → x.sheet.starts ≡ 1 ∷ [] → (lent : Bool) (more : List Test) →
    first (sheet_tests x lent more) ≡ first (steady_tests x lent more)
