-- What the lengths of lent rows tell, as the code asks them.
use Rattle.std.proofs.Common.{◌≡◌, ◌∙◌, ap, Bool, true, false, not, ◌↔◌, List, [], ℕ, ◌+◌, ◌≤◌, eq-eqb, length}
use borrow.Author.Tests.{not-false}
use Rattle.sheet.specs.declared.Pool.{Pool}
use Rattle.sheet.specs.Terms.{terms_of}
use Rattle.sheet.specs.Brought.{Brought, brought}
use Rattle.refusals.specs.Tests.{differs, pool_bad}
use Rattle.rows.specs.Rows.{Rows, row_length}
use Rattle.refusals.proofs.Judged.{or_fine, most_fine, differs_fine}
use Rattle.admission.specs.LentTests.{rows_bad, row_bad, off_walk}

module _ (x : Brought) (g : List ℕ) where
  pub rows_fine : (l : Rows) → (rows_bad x g l ≡ false)
      ↔ (((length g ≡ 256) × (length l.defaults ≡ row_length x.sheet)) × (length l.premiums ≡ row_length x.sheet))
  unfolding rows_bad
  rows_fine l = or_fine (or_fine (differs_fine (length g) 256) (differs_fine (length l.defaults) _)) (differs_fine (length l.premiums) _)

  pub row_fine : (q : List ℕ) → (row_bad x g q ≡ false) ↔ ((length g ≡ 256) × (length q ≡ x.sheet.names + 1))
  unfolding row_bad
  row_fine q = or_fine (differs_fine (length g) 256) (differs_fine (length q) _)

-- 11, by the parts of a walk.
pub off_fine : (x : Brought) (is_open : Bool) (number position : ℕ) →
    (off_walk x is_open number position ≡ false) ↔ (((is_open ≡ true) × (number ≡ x.number)) × (position ≤ x.sheet.steps))
unfolding off_walk
off_fine x is_open number position =
    or_fine (or_fine (opened_fine is_open) (differs_fine number x.number)) (most_fine x.sheet.steps position)
  where
    opened_fine : (b : Bool) → (not b ≡ false) ↔ (b ≡ true)
    opened_fine b = (not-false b, ap not)

-- Where the lengths before it are right, the last one decides.
pub rows_premium : (x : Brought) (g : List ℕ) (l : Rows) (n : ℕ) → n ≡ row_length x.sheet → length g ≡ 256 → length l.defaults ≡ n →
    differs (length l.premiums) n ≡ rows_bad x g l
unfolding rows_bad
rows_premium x g l n n_is e h =
    ap (differs (length l.premiums)) n_is ∙ simp (eq-eqb (length g) 256 e, eq-eqb (length l.defaults) (row_length x.sheet) (h ∙ n_is))

pub row_row : (x : Brought) (g q : List ℕ) → length g ≡ 256 → differs (length q) (x.sheet.names + 1) ≡ row_bad x g q
unfolding row_bad
row_row x g q e = simp (eq-eqb (length g) 256 e)

-- The lengths of rows rest on the pool alone.
module _ (pool : Pool) (attachments starts hazards discounts accruals elapsed coupons g : List ℕ) {r : Bool} where
  pub rows_told : (l : Rows) → (pool_bad (terms_of pool [] [] [] [] [] []) ≡ false → r ≡ rows_bad (brought pool [] [] [] [] [] [] []) g l) →
      pool_bad (terms_of pool attachments starts hazards discounts accruals elapsed) ≡ false → r ≡ rows_bad (brought pool attachments starts hazards discounts accruals elapsed coupons) g l
  unfolding pool_bad rows_bad
  rows_told l f e = f e

  pub row_told : (q : List ℕ) → (pool_bad (terms_of pool [] [] [] [] [] []) ≡ false → r ≡ row_bad (brought pool [] [] [] [] [] [] []) g q) →
      pool_bad (terms_of pool attachments starts hazards discounts accruals elapsed) ≡ false → r ≡ row_bad (brought pool attachments starts hazards discounts accruals elapsed coupons) g q
  unfolding pool_bad row_bad
  row_told q f e = f e
