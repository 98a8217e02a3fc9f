-- What document 01 asks of a sheet, as plain propositions ('Sheet and units' and rows 1 to 8 of the table of refusals, T-06 and T-01).
use Rattle.std.specs.Prelude.{ℕ, suc, pred, ◌+◌, ◌*◌, ◌≤◌, ◌<◌, ◌≡◌, length, get_or, drop}
use Rattle.cash.specs.Units.{B}
use Rattle.sheet.specs.Terms.{Terms, sum_of}
use Rattle.sheet.specs.Brought.{Brought}
use Rattle.sheet.specs.Dates.{next_accrual}

-- 1: n, m and r
pub record PoolInside (x : Terms) : Type 0 where
  pub names : (1 ≤ x.names) × (x.names ≤ 125)
  pub steps : (1 ≤ x.steps) × (x.steps ≤ 3650)
  pub tranches : (1 ≤ x.tranches) × (x.tranches ≤ 8)

-- 2: the lengths of the sheet's own lists
abbrev pub PointsFit : Terms → Type 0
PointsFit x = length x.attachments ≡ x.tranches + 1

pub record CurvesFit (x : Terms) : Type 0 where
  pub starts : (1 ≤ length x.starts) × (length x.starts ≤ 16)
  pub hazards : length x.hazards ≡ length x.starts * x.names
  pub discounts : length x.discounts ≡ x.steps
  pub accruals : length x.accruals ≡ x.steps
  pub elapsed : length x.elapsed ≡ x.steps

abbrev pub ListsFit : Brought → Type 0
ListsFit x = PointsFit x.sheet × CurvesFit x.sheet × (length x.coupons ≡ x.sheet.tranches + 1)

-- 3
abbrev pub RecoveryInside : Terms → Type 0
RecoveryInside x = x.recovery ≤ B

-- 4
pub record AttachmentsRise (x : Terms) : Type 0 where
  pub rise : (j : ℕ) → j < x.tranches → get_or x.attachments j 0 < get_or x.attachments (suc j) 0
  pub most : (j : ℕ) → j < x.tranches + 1 → get_or x.attachments j 0 ≤ B

-- 25, before 5: the periods start at step 1, rise and begin within the steps (T-06)
pub record StartsRise (x : Terms) : Type 0 where
  pub first : get_or x.starts 0 0 ≡ 1
  pub rise : (j : ℕ) → suc j < length x.starts → get_or x.starts j 0 < get_or x.starts (suc j) 0
  pub most : (j : ℕ) → j < length x.starts → get_or x.starts j 0 ≤ x.steps

-- 5, of every period
abbrev pub HazardsInside : Terms → Type 0
HazardsInside x = (k : ℕ) → k < length x.hazards → get_or x.hazards k 0 ≤ B

-- 6
abbrev pub DiscountsInside : Terms → Type 0
DiscountsInside x = (i : ℕ) → i < x.steps → (1 ≤ get_or x.discounts i 0) × (get_or x.discounts i 0 ≤ B)

-- 7
pub record AccrualsInside (x : Terms) : Type 0 where
  pub most : (i : ℕ) → i < x.steps → get_or x.accruals i 0 ≤ B
  pub total : sum_of x.accruals ≤ 10 * B
  pub last : 1 ≤ get_or x.accruals (pred x.steps) 0

-- 21, after 7: each elapsed fraction is at most the accrual of the next premium date at or after its step. (T-01)
abbrev pub ElapsedInside : Terms → Type 0
ElapsedInside x = (i : ℕ) → i < x.steps → get_or x.elapsed i 0 ≤ next_accrual (drop i x.accruals)

-- 8
abbrev pub CouponsInside : Brought → Type 0
CouponsInside x = (j : ℕ) → j < x.sheet.tranches + 1 → get_or x.coupons j 0 ≤ 10_000_000

-- A sheet within 'Sheet and units'.
pub record Limits (x : Brought) : Type 0 where
  pub pool : PoolInside x.sheet
  pub lists : ListsFit x
  pub recovery : RecoveryInside x.sheet
  pub attachments : AttachmentsRise x.sheet
  pub starts : StartsRise x.sheet
  pub hazards : HazardsInside x.sheet
  pub discounts : DiscountsInside x.sheet
  pub accruals : AccrualsInside x.sheet
  pub elapsed : ElapsedInside x.sheet
  pub coupons : CouponsInside x

-- The part of them that losses and what is outstanding rest on: the pool, recovery and attachment points. ('Arithmetic and cash')
pub record TranchesWithin (x : Terms) : Type 0 where
  pub pool : PoolInside x
  pub points : PointsFit x
  pub recovery : RecoveryInside x
  pub attachments : AttachmentsRise x

-- The part that values rest on: all but the coupons.
pub record TermsWithin (x : Terms) : Type 0 where
  pub tranches : TranchesWithin x
  pub curves : CurvesFit x
  pub starts : StartsRise x
  pub hazards : HazardsInside x
  pub discounts : DiscountsInside x
  pub accruals : AccrualsInside x
  pub elapsed : ElapsedInside x
