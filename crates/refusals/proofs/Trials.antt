-- The edges of the limits, by computation: at each limit a sheet passes, and one past it meets that refusal.
use Rattle.std.proofs.Common.{ℕ, ◌≡◌, refl, false, List, [], ◌∷◌, replicate}
use Rattle.refusals.specs.declared.Refusal.{Refusal}
use Rattle.std.specs.Prelude.{Result, Ok, Err, ⊤}
use Rattle.cash.specs.Units.{B}
use Rattle.sheet.specs.Terms.{sum_of}
use Rattle.sheet.specs.Dates.{next_accrual}
use Rattle.rows.specs.Tables.{any}
use Rattle.refusals.specs.declared.Refusal.TheVariants.{Pool, Length, Recovery, Attachments, Hazard, Discount, Accrual, Coupon, Elapsed, Periods}
use Rattle.refusals.specs.Tests.{pool_bad, periods_bad, lists_bad, recovery_bad, attachments_bad, starts_bad, hazards_bad, discounts_bad, accruals_bad, elapsed_bad, coupons_bad, first, sheet_tests}

-- What checks 1 to 8, 21 and 25 find of a sheet with these lists.
found : ℕ → ℕ → List ℕ → List ℕ → List ℕ → List ℕ → List ℕ → List ℕ → List ℕ → Result ⊤ Refusal
found names recovery attachments starts hazards discounts accruals elapsed coupons =
    first (sheet_tests (record {
      sheet =
          record {
            names = names;
            steps = 2;
            tranches = 1;
            recovery = recovery;
            attachments = attachments;
            starts = starts;
            hazards = hazards;
            discounts = discounts;
            accruals = accruals;
            elapsed = elapsed;
          };
      number = 7;
      coupons = coupons;
    }) false [])

-- The worked deck's lists.
points : List ℕ
points = 0 ∷ 300_000_000 ∷ []

starts : List ℕ
starts = 1 ∷ []

hazards : List ℕ
hazards = 100_000_000 ∷ 200_000_000 ∷ []

discounts : List ℕ
discounts = 1_000_000_000 ∷ 900_000_000 ∷ []

accruals : List ℕ
accruals = 0 ∷ 1_000_000_000 ∷ []

elapsed : List ℕ
elapsed = 0 ∷ 0 ∷ []

coupons : List ℕ
coupons = 1_000_000 ∷ 500_000 ∷ []

record Edges : Type 0 where
  deck : found 2 400_000_000 points starts hazards discounts accruals elapsed coupons ≡ Ok tt
  -- each number at its limit
  limits : found 2 1_000_000_000 (0 ∷ 1_000_000_000 ∷ []) starts (0 ∷ 1_000_000_000 ∷ []) (1 ∷ 1_000_000_000 ∷ []) (0 ∷ 1 ∷ []) (1 ∷ 1 ∷ []) (0 ∷ 10_000_000 ∷ []) ≡ Ok tt
  -- and one past it
  no_names : found 0 400_000_000 points starts hazards discounts accruals elapsed coupons ≡ Err Pool
  many_names : found 126 400_000_000 points starts hazards discounts accruals elapsed coupons ≡ Err Pool
  few_hazards : found 125 400_000_000 points starts hazards discounts accruals elapsed coupons ≡ Err Length
  few_coupons : found 2 400_000_000 points starts hazards discounts accruals elapsed (500_000 ∷ []) ≡ Err Length
  recovery : found 2 1_000_000_001 points starts hazards discounts accruals elapsed coupons ≡ Err Recovery
  points_equal : found 2 400_000_000 (5 ∷ 5 ∷ []) starts hazards discounts accruals elapsed coupons ≡ Err Attachments
  points_high : found 2 400_000_000 (0 ∷ 1_000_000_001 ∷ []) starts hazards discounts accruals elapsed coupons ≡ Err Attachments
  -- two periods, as far apart as two steps let them; then none, too few hazards for them, and starts that are not from 1, equal, beyond the last step
  two_periods : found 2 400_000_000 points (1 ∷ 2 ∷ []) (0 ∷ 1 ∷ 2 ∷ 3 ∷ []) discounts accruals elapsed coupons ≡ Ok tt
  no_periods : found 2 400_000_000 points [] [] discounts accruals elapsed coupons ≡ Err Length
  seventeen : found 2 400_000_000 points (replicate 17 1) (replicate 34 0) discounts accruals elapsed coupons ≡ Err Length
  names_alone : found 2 400_000_000 points (1 ∷ 2 ∷ []) hazards discounts accruals elapsed coupons ≡ Err Length
  from_2 : found 2 400_000_000 points (2 ∷ []) hazards discounts accruals elapsed coupons ≡ Err Periods
  from_0 : found 2 400_000_000 points (0 ∷ []) hazards discounts accruals elapsed coupons ≡ Err Periods
  starts_equal : found 2 400_000_000 points (1 ∷ 1 ∷ []) (0 ∷ 1 ∷ 2 ∷ 3 ∷ []) discounts accruals elapsed coupons ≡ Err Periods
  start_beyond : found 2 400_000_000 points (1 ∷ 3 ∷ []) (0 ∷ 1 ∷ 2 ∷ 3 ∷ []) discounts accruals elapsed coupons ≡ Err Periods
  -- periods before hazards, of which the last period's count too
  periods_first : found 2 400_000_000 points (2 ∷ []) (0 ∷ 1_000_000_001 ∷ []) discounts accruals elapsed coupons ≡ Err Periods
  later_hazard : found 2 400_000_000 points (1 ∷ 2 ∷ []) (0 ∷ 1 ∷ 2 ∷ 1_000_000_001 ∷ []) discounts accruals elapsed coupons ≡ Err Hazard
  hazard : found 2 400_000_000 points starts (0 ∷ 1_000_000_001 ∷ []) discounts accruals elapsed coupons ≡ Err Hazard
  discount_0 : found 2 400_000_000 points starts hazards (0 ∷ 1 ∷ []) accruals elapsed coupons ≡ Err Discount
  discount_high : found 2 400_000_000 points starts hazards (1 ∷ 1_000_000_001 ∷ []) accruals elapsed coupons ≡ Err Discount
  accrual : found 2 400_000_000 points starts hazards discounts (1_000_000_001 ∷ 1 ∷ []) elapsed coupons ≡ Err Accrual
  last_0 : found 2 400_000_000 points starts hazards discounts (1 ∷ 0 ∷ []) elapsed coupons ≡ Err Accrual
  -- each fraction by the next date at its step or after it, not by the date before it or a later one
  next_dates : found 2 400_000_000 points starts hazards discounts (9 ∷ 5 ∷ []) (9 ∷ 5 ∷ []) coupons ≡ Ok tt
  date_before : found 2 400_000_000 points starts hazards discounts (9 ∷ 5 ∷ []) (0 ∷ 6 ∷ []) coupons ≡ Err Elapsed
  later_date : found 2 400_000_000 points starts hazards discounts (5 ∷ 9 ∷ []) (6 ∷ 0 ∷ []) coupons ≡ Err Elapsed
  between_dates : found 2 400_000_000 points starts hazards discounts (0 ∷ 1 ∷ []) (2 ∷ 1 ∷ []) coupons ≡ Err Elapsed
  few_elapsed : found 2 400_000_000 points starts hazards discounts accruals (0 ∷ []) coupons ≡ Err Length
  -- after the accruals and before the coupons
  accrual_first : found 2 400_000_000 points starts hazards discounts (1 ∷ 0 ∷ []) (2 ∷ 1 ∷ []) coupons ≡ Err Accrual
  elapsed_first : found 2 400_000_000 points starts hazards discounts (0 ∷ 1 ∷ []) (2 ∷ 1 ∷ []) (0 ∷ 10_000_001 ∷ []) ≡ Err Elapsed
  coupon : found 2 400_000_000 points starts hazards discounts accruals elapsed (0 ∷ 10_000_001 ∷ []) ≡ Err Coupon

edges : Edges
unfolding found points starts hazards discounts accruals elapsed coupons first sheet_tests pool_bad periods_bad lists_bad recovery_bad attachments_bad starts_bad hazards_bad discounts_bad accruals_bad elapsed_bad coupons_bad any sum_of next_accrual B
edges =
    record {
      deck = refl;
      limits = refl;
      no_names = refl;
      many_names = refl;
      few_hazards = refl;
      few_coupons = refl;
      recovery = refl;
      points_equal = refl;
      points_high = refl;
      two_periods = refl;
      no_periods = refl;
      seventeen = refl;
      names_alone = refl;
      from_2 = refl;
      from_0 = refl;
      starts_equal = refl;
      start_beyond = refl;
      periods_first = refl;
      later_hazard = refl;
      hazard = refl;
      discount_0 = refl;
      discount_high = refl;
      accrual = refl;
      last_0 = refl;
      next_dates = refl;
      date_before = refl;
      later_date = refl;
      between_dates = refl;
      few_elapsed = refl;
      accrual_first = refl;
      elapsed_first = refl;
      coupon = refl;
    }
