-- A sheet by its figures and lists (document 01, 'Sheet and units').
use Rattle.std.specs.Prelude.{ℕ, ◌+◌, List, [], ◌∷◌}
use Rattle.sheet.specs.declared.Pool.{Pool}

-- What a sheet's values rest on: all of it but its number and coupons.
pub record Terms : Type 0 where
  pub names : ℕ
  pub steps : ℕ
  pub tranches : ℕ
  pub recovery : ℕ
  pub attachments : List ℕ
  pub starts : List ℕ
  pub hazards : List ℕ
  pub discounts : List ℕ
  pub accruals : List ℕ
  pub elapsed : List ℕ

-- The sheet that a pool and its lists tell.
abbrev pub terms_of : Pool → List ℕ → List ℕ → List ℕ → List ℕ → List ℕ → List ℕ → Terms
terms_of pool attachments starts hazards discounts accruals elapsed =
    record {
      names = pool.names;
      steps = pool.steps;
      tranches = pool.tranches;
      recovery = pool.recovery;
      attachments = attachments;
      starts = starts;
      hazards = hazards;
      discounts = discounts;
      accruals = accruals;
      elapsed = elapsed;
    }

-- The sheet of a pool and its attachments: losses and what is outstanding rest on no other list. ('Arithmetic and cash')
abbrev pub bare : Pool → List ℕ → Terms
bare pool attachments = terms_of pool attachments [] [] [] [] []

-- The sum of a list.
unfoldable pub sum_of : List ℕ → ℕ
sum_of [] = 0
sum_of (a ∷ rest) = a + sum_of rest
