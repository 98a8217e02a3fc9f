-- The same as tests, in document 01's order, each with its refusal: what the code runs.
use Rattle.std.specs.Prelude.{ℕ, suc, pred, ◌+◌, ◌*◌, Bool, not, cond, ◌||◌, List, [], ◌∷◌, length, get_or, drop, leb, ltb, eqb, Result, Ok, Err, ⊤}
use Rattle.cash.specs.Units.{B}
use Rattle.sheet.specs.Terms.{Terms, sum_of}
use Rattle.sheet.specs.Dates.{next_accrual}
use Rattle.rows.specs.Tables.{any}
use Rattle.lists.specs.Outside.{outside}
use Rattle.sheet.specs.Brought.{Brought}
use Rattle.refusals.specs.declared.Refusal.{Refusal}
use Rattle.refusals.specs.declared.Refusal.TheVariants.{Pool, Length, Recovery, Attachments, Hazard, Discount, Accrual, Coupon}
use Rattle.refusals.specs.declared.Refusal.TheVariants.{Elapsed, Periods}

abbrev pub differs : ℕ → ℕ → Bool
differs a b = not (eqb a b)

unfoldable pub pool_bad : Terms → Bool
pool_bad x = outside 1 125 x.names || outside 1 3650 x.steps || outside 1 8 x.tranches

-- No periods or more than 16, or another number of hazards than n for each of them. (T-06)
unfoldable pub periods_bad : Terms → Bool
periods_bad x = outside 1 16 (length x.starts) || differs (length x.hazards) (length x.starts * x.names)

unfoldable pub lists_bad : Brought → Bool
lists_bad x =
    differs (length x.sheet.attachments) (x.sheet.tranches + 1) || periods_bad x.sheet
    || differs (length x.sheet.discounts) x.sheet.steps || differs (length x.sheet.accruals) x.sheet.steps
    || differs (length x.sheet.elapsed) x.sheet.steps || differs (length x.coupons) (x.sheet.tranches + 1)

unfoldable pub recovery_bad : Terms → Bool
recovery_bad x = ltb B x.recovery

unfoldable pub attachments_bad : Terms → Bool
attachments_bad x =
    any x.tranches (λ j. leb (get_or x.attachments (suc j) 0) (get_or x.attachments j 0))
    || any (x.tranches + 1) (λ j. ltb B (get_or x.attachments j 0))

-- 25, of T-06: the starts rise from 1 on and stay within the steps.
unfoldable pub starts_bad : Terms → Bool
starts_bad x =
    differs (get_or x.starts 0 0) 1 || any (pred (length x.starts)) (λ j. leb (get_or x.starts (suc j) 0) (get_or x.starts j 0))
    || any (length x.starts) (λ j. ltb x.steps (get_or x.starts j 0))

unfoldable pub hazards_bad : Terms → Bool
hazards_bad x = any (length x.hazards) (λ k. ltb B (get_or x.hazards k 0))

unfoldable pub discounts_bad : Terms → Bool
discounts_bad x = any x.steps (λ i. outside 1 B (get_or x.discounts i 0))

unfoldable pub accruals_bad : Terms → Bool
accruals_bad x =
    any x.steps (λ i. ltb B (get_or x.accruals i 0)) || ltb (10 * B) (sum_of x.accruals) || eqb (get_or x.accruals (pred x.steps) 0) 0

-- 21, of T-01: an elapsed fraction above the accrual of the next premium date at or after its step.
unfoldable pub elapsed_bad : Terms → Bool
elapsed_bad x = any x.steps (λ i. ltb (next_accrual (drop i x.accruals)) (get_or x.elapsed i 0))

unfoldable pub coupons_bad : Brought → Bool
coupons_bad x = any (x.sheet.tranches + 1) (λ j. ltb 10_000_000 (get_or x.coupons j 0))

-- A test, and the refusal of a call that meets it.
abbrev pub Test : Type 0
Test = Bool × Refusal

-- The first refusal met, in the order of the list.
unfoldable pub first : List Test → Result ⊤ Refusal
first [] = Ok tt
first (t ∷ l) = cond t.0 (Err t.1) (first l)

-- Checks 3 and 4, what the tranches rest on; 25, 5 to 7 and 21, what the tree rests on; all of these and 8; and then more.
abbrev pub tranche_tests : Terms → List Test → List Test
tranche_tests x more = (recovery_bad x, Recovery) ∷ (attachments_bad x, Attachments) ∷ more

abbrev pub tree_tests : Terms → List Test → List Test
tree_tests x more =
    (starts_bad x, Periods) ∷ (hazards_bad x, Hazard) ∷ (discounts_bad x, Discount) ∷ (accruals_bad x, Accrual) ∷ (elapsed_bad x, Elapsed) ∷ more

abbrev pub figure_tests : Brought → List Test → List Test
figure_tests x more = tranche_tests x.sheet (tree_tests x.sheet ((coupons_bad x, Coupon) ∷ more))

-- Checks 1 to 8, 25 before 5 and 21 after 7, and then more. `lent` tells whether a list lent beside the sheet's own has another length.
unfoldable pub sheet_tests : Brought → Bool → List Test → List Test
sheet_tests x lent more = (pool_bad x.sheet, Pool) ∷ (lists_bad x || lent, Length) ∷ figure_tests x more
