-- A distribution rests on names, starts and hazards alone.
use Rattle.std.proofs.Common.{ℕ, zero, suc, ◌+◌, ◌-◌, ◌*◌, ◌≤◌, ◌<◌, ◌≡◌, refl, ap, ap₂, sym, ◌∙◌, cond, List, lt-suc_self, add-one, arith, length}
use Rattle.std.proofs.Common.{get_or, take, drop, ltb}
use native.Mathlib.Nat.{le_of_suc-le}
use Rattle.cash.specs.Units.{B, half}
use Rattle.tree.specs.Paths.{Tree}
use Rattle.sheet.specs.Terms.{Terms}
use Rattle.tree.specs.Sheet.{hazard_of, tree_of}
use Rattle.tree.specs.Forward.{same, outflow, from_below, pushed, distribution}
use Rattle.rows.specs.Tables.{tab}
use Rattle.rows.specs.Rows.{distribution_row}
use Rattle.rows.proofs.Tables.{length_tab, get_d_tab, is_tab}
use Rattle.sheet.specs.Limits.{CurvesFit}
use Rattle.sheet.specs.Periods.{period_of, hazards_at}
use Rattle.sheet.proofs.Periods.{hazards_there, hazards_part}
use Rattle.rows.proofs.Rolled.{hazard_is}
use Rattle.forward.specs.Steps.{hazard_sheet, HazardsFit, step_tree, pushed_row}

tab_cong : (n : ℕ) (f g : ℕ → ℕ) → ((i : ℕ) → i < n → f i ≡ g i) → tab n f ≡ tab n g
tab_cong n f g h = is_tab (tab n f) n g (length_tab n f) (λ i l. get_d_tab n f i l ∙ h i l)

-- two trees with the same hazards at steps s and r, and two rows that agree on the first n counts
module _ (t u : Tree) (s r : ℕ) (alike : (k : ℕ) → t.hazard s k ≡ u.hazard r k) (q p : ℕ → ℕ) (n : ℕ) (agree : (k : ℕ) → k < n → q k ≡ p k) where
  moved_alike : (k : ℕ) → k < n → outflow t s q k ≡ outflow u r p k
  unfolding outflow
  moved_alike k l = ap₂ (λ a b. half (a * b)) (agree k l) (alike k)

  pushed_alike : (k : ℕ) → k < n → pushed t s q k ≡ pushed u r p k
  unfolding pushed from_below
  pushed_alike zero l = ap₂ (λ a b. a - b + 0) (agree zero l) (moved_alike zero l)
  pushed_alike (suc k) l =
      ap₂ (λ a b. a + b) (ap₂ (λ a b. a - b) (agree (suc k) l) (moved_alike (suc k) l)) (moved_alike k (le_of_suc-le l))

distribution_alike : (t u : Tree) → ((s k : ℕ) → t.hazard s k ≡ u.hazard s k) → (h k : ℕ) → distribution t h k ≡ distribution u h k
unfolding distribution
distribution_alike t u alike zero k = refl
distribution_alike t u alike (suc h) k =
    pushed_alike t u (suc h) (suc h) (alike (suc h)) (distribution t h) (distribution u h) (suc k) (λ i l. distribution_alike t u alike h i) k (lt-suc_self k)

-- the hazards of sheets with the same names, starts and hazards
module _ (x y : Terms) (names : x.names ≡ y.names) (starts : x.starts ≡ y.starts) (hazards : x.hazards ≡ y.hazards) where
  hazards_alike : (s k : ℕ) → (tree_of x).hazard s k ≡ (tree_of y).hazard s k
  unfolding tree_of hazard_of
  hazards_alike s k = λ t. cond (ltb k (names t)) (get_or (hazards t) (period_of (starts t) s * names t + k) 0) 0

  -- the other lists play no part
  pub distribution_part : (i : ℕ) → distribution_row x i ≡ distribution_row y i
  unfolding distribution_row
  distribution_part i =
      ap (λ n. tab (suc n) (distribution (tree_of x) i)) names
      ∙ tab_cong (suc y.names) _ _ (λ k l. distribution_alike (tree_of x) (tree_of y) hazards_alike i k)

-- the row of a sheet of hazards alone, as code starts it and steps it
module _ (names : ℕ) (starts hazards : List ℕ) where
  abbrev x : Terms
  x = hazard_sheet names starts hazards

  pub row_long : (h : ℕ) → length (distribution_row x h) ≡ names + 1
  unfolding distribution_row hazard_sheet
  row_long h = length_tab _ _ ∙ sym (add-one _)

  pub row_start : (n : ℕ) → n ≡ names + 1 → tab n (λ k. B * same 0 k) ≡ distribution_row x 0
  unfolding distribution_row hazard_sheet distribution
  row_start n e = ap (λ n. tab n (λ k. B * same 0 k)) (e ∙ add-one _)

  module _ (fit : HazardsFit names starts hazards) where
    pub curves : CurvesFit x
    unfolding hazard_sheet
    curves = record { starts = fit.starts_fit; hazards = fit.long; discounts = refl; accruals = refl; elapsed = refl }

    step_alike : (h k : ℕ) → (step_tree (hazards_at names starts hazards (suc h))).hazard 1 k ≡ (tree_of x).hazard (suc h) k
    unfolding step_tree tree_of hazard_sheet
    step_alike h k = hazard_is x curves (suc h) k

    row_step : (h : ℕ) → pushed_row (hazards_at names starts hazards (suc h)) (distribution_row x h) ≡ distribution_row x (suc h)
    unfolding pushed_row distribution_row distribution
    row_step h =
        let q : ℕ → ℕ = distribution (tree_of x) h in
        let hz : List ℕ = hazards_at names starts hazards (suc h) in
        ap (λ n. tab n (pushed (step_tree hz) 1 (λ k. get_or (tab (suc x.names) q) k 0))) (length_tab (suc x.names) q)
        ∙ tab_cong (suc x.names) _ _
        (pushed_alike (step_tree hz) (tree_of x) 1 (suc h) (step_alike h) (λ k. get_or (tab (suc x.names) q) k 0) q (suc x.names)
        (λ k l. get_d_tab (suc x.names) q k l))

    -- the hazards of a step's period stand in the list
    pub hazards_lent : (s from : ℕ) → from ≡ period_of starts s * names → from + names ≤ length hazards
    unfolding hazard_sheet
    hazards_lent s from f = omega (arith, f, hazards_there x curves s)

    -- a step by them leads to the next distribution
    pub row_next : (s from to : ℕ) (row : List ℕ) → 1 ≤ s → s ≡ to → row ≡ distribution_row x (s - 1) → from ≡ period_of starts s * names →
        pushed_row (take (from + names - from) (drop from hazards)) row ≡ distribution_row x to
    row_next s from to row h t r f =
        let e : suc (s - 1) ≡ s = omega arith in
        let lent : take (from + names - from) (drop from hazards) ≡ hazards_at names starts hazards s = hazards_part names starts hazards s from _ f refl in
        (λ i. pushed_row (lent i) (r i)) ∙ (rw e at (row_step (s - 1))) ∙ ap (distribution_row x) t

-- names, starts and hazards that are those of a sheet give its distribution
pub hazards_enough : (x : Terms) (starts hazards : List ℕ) → starts ≡ x.starts → hazards ≡ x.hazards →
    (i : ℕ) → distribution_row (hazard_sheet x.names starts hazards) i ≡ distribution_row x i
unfolding hazard_sheet
hazards_enough x starts hazards s e i = distribution_part (hazard_sheet x.names starts hazards) x refl s e i
