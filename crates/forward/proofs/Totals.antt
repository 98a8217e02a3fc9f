-- A distribution always totals B, so no count holds more than B.
use Rattle.std.proofs.Common.{ℕ, zero, suc, ◌+◌, ◌≤◌, ◌<◌, zero-le, ◌≡◌, ap, List, le_refl, le_trans, le_of_eq, arith, length, get_or}
use native.Mathlib.Decide.{dec_lt}
use lib.ListN.{get_or-eq_default}
use Rattle.cash.specs.Units.{B}
use Rattle.cash.specs.Sums.{sum_to}
use Rattle.tree.specs.Paths.{Fair}
use Rattle.tree.specs.Sheet.{discount_of, tree_of}
use Rattle.tree.specs.Forward.{distribution}
use Rattle.tree.proofs.Forward.{distribution_total}
use Rattle.rows.specs.Tables.{tab}
use Rattle.rows.specs.Rows.{distribution_row}
use Rattle.rows.proofs.Tables.{length_tab, get_d_tab}
use Rattle.tree.proofs.Sheets.{hazard_sure}
use Rattle.sheet.specs.Terms.{Terms}
use Rattle.rows.proofs.Rolled.{hazard_last}
use Rattle.forward.specs.Steps.{hazard_sheet, HazardsFit}

part_most : (n : ℕ) (f : ℕ → ℕ) (k : ℕ) → k < n → f k ≤ sum_to n f
unfolding sum_to
part_most zero f k l = absurd (omega arith)
part_most (suc n) f k l = go (dec_lt k n) (part_most n f k)
  where
    go : Dec (k < n) → (k < n → f k ≤ sum_to n f) → f k ≤ sum_to n f + f n
    go (yes p) r = omega (arith, r p)
    go (no p) r =
        let e : k ≡ n = omega arith in
        omega (arith, ap f e)

module _ (names : ℕ) (starts hazards : List ℕ) (fit : HazardsFit names starts hazards) where
  abbrev x : Terms
  x = hazard_sheet names starts hazards

  fair : Fair (tree_of x)
  unfolding tree_of hazard_sheet discount_of
  fair = record {
    last = λ s. hazard_last x s names (le_refl names);
    sure = hazard_sure x fit.most;
    shrinks = λ s. zero-le;
  }

  count_most : (h k : ℕ) → Dec (k < suc x.names) → get_or (distribution_row x h) k 0 ≤ B
  unfolding distribution_row tree_of
  count_most h k (yes p) =
      let q : ℕ → ℕ = distribution (tree_of x) h in
      omega (arith, get_d_tab (suc x.names) q k p, part_most (suc x.names) q k p, distribution_total (tree_of x) fair h)
  count_most h k (no p) =
      let n = suc x.names in
      let q : ℕ → ℕ = distribution (tree_of x) h in
      let l : length (tab n q) ≤ k = le_trans (le_of_eq (length_tab n q)) (omega arith) in
      le_trans (le_of_eq (get_or-eq_default (tab n q) 0 l)) zero-le

  -- no count holds more than B
  pub row_most : (h : ℕ) (row : List ℕ) → row ≡ distribution_row x h → (k : ℕ) → get_or row k 0 ≤ B
  row_most h row e k = rw e (count_most h k (dec_lt k (suc x.names)))
