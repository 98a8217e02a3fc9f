-- What is known where checks 1 to 10 find nothing.
use Rattle.std.proofs.Common.{◌≡◌, refl, sym, ◌∙◌, Bool, false, List, [], ℕ, arith, length}
use Rattle.refusals.specs.declared.Refusal.{Refusal}
use Rattle.std.specs.Prelude.{Result, Ok, Err, ⊤}
use Rattle.sheet.specs.Brought.{Brought}
use Rattle.sheet.specs.Limits.{Limits}
use Rattle.rows.specs.Rows.{Rows, row_length}
use Rattle.refusals.specs.Tests.{first, pool_bad, sheet_tests}
use Rattle.refusals.proofs.Limits.{limits}
use Rattle.refusals.proofs.Meanings.{pool_fine}
use Rattle.admission.specs.LentTests.{rows_bad, ten_tests}
use Rattle.admission.proofs.Lengths.{rows_fine}
use Rattle.admission.proofs.FirstRefusals.{ten_sheet}

module _ (x : Brought) (g : List ℕ) (l : Rows) (lent : Bool) (same : pool_bad x.sheet ≡ false → lent ≡ rows_bad x g l)
    (e : first (ten_tests x g lent []) ≡ Ok tt) where
  eight : first (sheet_tests x lent []) ≡ Ok tt
  eight = go (first (sheet_tests x lent [])) refl
    where
      go : (r : Result ⊤ Refusal) → first (sheet_tests x lent []) ≡ r → first (sheet_tests x lent []) ≡ Ok tt
      go (Ok tt) p = p
      go (Err f) p =
          absurd (let q : first (ten_tests x g lent []) ≡ Err f = ten_sheet x g lent f [] p in let z : ◌≡◌ {A = ℕ} 0 1 = cc in omega arith)

  pub admitted_limits : Limits x
  admitted_limits = ((limits x lent).0 eight).0

  right : rows_bad x g l ≡ false
  right = sym (same ((pool_fine x.sheet).1 admitted_limits.pool)) ∙ ((limits x lent).0 eight).1

  pub admitted_defaults : length l.defaults ≡ row_length x.sheet
  admitted_defaults = ((rows_fine x g l).0 right).0.1

  pub admitted_premiums : length l.premiums ≡ row_length x.sheet
  admitted_premiums = ((rows_fine x g l).0 right).1
