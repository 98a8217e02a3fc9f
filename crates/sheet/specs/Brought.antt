-- A sheet as a call brings it (document 01, 'Sheet and units').
use Rattle.std.specs.Prelude.{ℕ, List, []}
use Rattle.sheet.specs.Terms.{Terms, terms_of}
use Rattle.sheet.specs.declared.Pool.{Pool}

-- What its values rest on, its number and its coupons.
pub record Brought : Type 0 where
  pub sheet : Terms
  pub number : ℕ
  pub coupons : List ℕ

abbrev pub brought : Pool → List ℕ → List ℕ → List ℕ → List ℕ → List ℕ → List ℕ → List ℕ → Brought
brought pool attachments starts hazards discounts accruals elapsed coupons =
    record { sheet = terms_of pool attachments starts hazards discounts accruals elapsed; number = pool.number; coupons = coupons }

-- A pool alone: what rests on no list.
abbrev pub without_lists : Pool → Brought
without_lists pool = brought pool [] [] [] [] [] [] []
