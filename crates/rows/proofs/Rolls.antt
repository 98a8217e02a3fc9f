-- One tranche's step back is the step back of all rows there.
use Rattle.std.proofs.Common.{ℕ, suc, ◌+◌, ◌*◌, ◌≤◌, ◌<◌, ◌≡◌, ap, sym, ◌∙◌, List, arith, length, get_or}
use native.Mathlib.Decide.{dec_lt}
use lib.ListN.{get_or-eq_default}
use Rattle.std.specs.Fork.{slice_chunk}
use Rattle.tree.specs.Backward.{roll_node}
use Rattle.rows.specs.Tables.{tab, entry}
use Rattle.rows.specs.Kernels.{rolled_at, rolled_in, RowFits, RowsFit}
use Rattle.rows.proofs.Tables.{is_tab, get_d_tab, length_tab}
use Rattle.rows.proofs.Nodes.{node_last}
use Rattle.rows.proofs.Parts.{room}
use Rattle.rows.proofs.Chunks.{chunk_long, chunk_entry}

-- the row of tranche j, of w entries
module _ {r n : ℕ} {xs hz : List ℕ} {v : ℕ} {cash : List ℕ} (safe : RowsFit r n xs hz v cash)
    (j w : ℕ) (inside : j < r) (w_is : w ≡ suc n) (row : List ℕ) (row_is : row ≡ slice_chunk xs (suc n) j) where
  here : (k : ℕ) → k < suc n → get_or row k 0 ≡ entry (suc n) xs j k
  here k h = ap (λ (l : List ℕ). get_or l k 0) row_is ∙ chunk_entry xs (suc n) j k h

  paid : (k : ℕ) → k < suc n → get_or (slice_chunk cash w j) k 0 ≡ entry (suc n) cash j k
  paid k h = ap (λ (m : ℕ). get_or (slice_chunk cash m j) k 0) w_is ∙ chunk_entry cash (suc n) j k h

  long : length row ≡ suc n
  long = ap length row_is ∙ chunk_long xs r (suc n) j safe.rows_long inside

  pub cash_there : j * w + w ≤ length cash
  cash_there = rw w_is (omega (arith, room j r (suc n) inside, safe.cash_long))

  pub tranche_fits : RowFits row hz v (slice_chunk cash w j)
  tranche_fits =
      record {
        row_long = long ∙ ap suc (sym safe.hazards_long);
        cash_long = ap (λ (m : ℕ). length (slice_chunk cash m j)) w_is ∙ chunk_long cash r (suc n) j safe.cash_long inside ∙ ap suc (sym safe.hazards_long);
        hazard_most = safe.hazard_most;
        discount_most = safe.discount_most;
        survived_most = λ k h.
            let q : k < suc n = omega (arith, safe.hazards_long) in
            rw (here k q) (safe.survived_most j k inside (omega arith));
        defaulted_most = λ k h.
            let q : suc k < suc n = omega (arith, safe.hazards_long) in
            rw (here (suc k) q, paid k (omega arith)) (safe.defaulted_most j k inside (omega arith));
      }

  rolled_here : (k : ℕ) → k < suc n → rolled_at hz v (slice_chunk cash w j) row k ≡ rolled_in (suc n) hz v cash xs j k
  unfolding rolled_at rolled_in
  rolled_here k h = go (dec_lt (suc k) (suc n))
    where
      go : Dec (suc k < suc n) → rolled_at hz v (slice_chunk cash w j) row k ≡ rolled_in (suc n) hz v cash xs j k
      go (yes q) = λ t. roll_node (get_or hz k 0) v (here (suc k) q t + paid k h t) (here k h t)
      go (no q) =
          let z : get_or hz k 0 ≡ 0 = get_or-eq_default hz 0 (omega (arith, safe.hazards_long)) in
          rw (z, here k h) (node_last v _ _ _)

  pub tranche_back : tab (length row) (rolled_at hz v (slice_chunk cash w j) row) ≡ tab (suc n) (rolled_in (suc n) hz v cash xs j)
  tranche_back =
      is_tab _ (suc n) _ (length_tab _ _ ∙ long)
      (λ k h. get_d_tab _ _ k (omega (arith, long)) ∙ rolled_here k h)
