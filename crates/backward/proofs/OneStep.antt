-- One step of a walk back: what it needs, what it gives, and that the rows stay within their bounds.
use Rattle.std.proofs.Common.{ℕ, zero, suc, ◌+◌, ◌-◌, ◌*◌, ◌≤◌, ◌<◌, ◌≡◌, ap, sym, ◌∙◌, List, arith, add-zero, length, get_or, drop}
use native.Mathlib.Nat.{sub-zero}
use native.Mathlib.Decide.{dec_lt}
use lib.Arith.{digits_lt}
use Rattle.cash.specs.Units.{B}
use Rattle.cash.specs.Losses.{default_payment, premium_payment, elapsed_payment}
use Rattle.cash.proofs.Losses.{premium_payment_most, elapsed_payment_most}
use Rattle.tree.specs.Paths.{survive, default}
use Rattle.tree.specs.Backward.{roll_node, Leg}
use Rattle.tree.specs.Legs.{default_cash, premium_cash, elapsed_cash}
use Rattle.sheet.specs.Terms.{Terms, sum_of}
use Rattle.sheet.specs.Limits.{TermsWithin}
use Rattle.sheet.specs.Periods.{hazards_into}
use Rattle.sheet.proofs.Limits.{hazard_most, discount_most, elapsed_most}
use Rattle.sheet.proofs.Periods.{hazards_long}
use Rattle.tree.specs.Sheet.{hazard_of, discount_of, accrual_of, elapsed_of, loss_of, outstanding_of, default_of, premium_of}
use Rattle.tree.proofs.Sheets.{hazard_sure, loss_rises, outstanding_within, outstanding_less}
use Rattle.rows.specs.Tables.{tab, entry, grid}
use Rattle.rows.specs.Rows.{row_length, node_in, row_of, rolled, rolled_back}
use Rattle.rows.specs.Kernels.{rolled_in, accrued_at, payment_of, RowsFit}
use Rattle.rows.specs.Rollable.{Rollable}
use Rattle.rows.proofs.Tables.{get_d_tab, length_tab, every, length_row, node_row, row_cong}
use Rattle.rows.proofs.Nodes.{node_most, node_last}
use Rattle.rows.proofs.Sums.{sum_drop_most, sum_drop}
use Rattle.rows.proofs.Rolled.{hazard_last, hazard_is, node_same, length_rolled, rolled_entry}
use Rattle.tranches.proofs.Losses.{payment_before}

-- ---- a row with its premium of step i + 1 added

pub accrued_long : (x : Terms) (row out es : List ℕ) (a : ℕ) → length row ≡ row_length x → es ≡ tab (length row) (accrued_at a out row) → length es ≡ row_length x
accrued_long x row out es a long e = ap length e ∙ length_tab _ _ ∙ long

pub accrued_node : (x : Terms) (row out es : List ℕ) (a : ℕ) → length row ≡ row_length x → out ≡ row_of x (outstanding_of x) → es ≡ tab (length row) (accrued_at a out row)
    → (j k : ℕ) → j ≤ x.tranches → k ≤ x.names → node_in x es j k ≡ node_in x row j k + premium_payment a (outstanding_of x j k)
unfolding node_in entry accrued_at
accrued_node x row out es a long o e j k p q =
    ap (λ (l : List ℕ). get_or l (j * suc x.names + k) 0) e
    ∙ get_d_tab (length row) (accrued_at a out row) (j * suc x.names + k) (omega (arith, digits_lt {q = j} {m = suc x.tranches} {r = k} {c = suc x.names} (omega arith) (omega arith)))
    ∙ ap (λ y. get_or row (j * suc x.names + k) 0 + premium_payment a y)
    (ap (λ (l : List ℕ). get_or l (j * suc x.names + k) 0) o ∙ node_row x (outstanding_of x) j k p q)

-- ---- the kernel's step is the definition's

module _ (x : Terms) (l : TermsWithin x) (i : ℕ) where
  -- no table but what the leg pays makes the difference
  kernel : (leg : ℕ → Leg) (row ys cash zs : List ℕ)
      → ((j k : ℕ) → j ≤ x.tranches → k < x.names → node_in x ys j (suc k) + node_in x cash j k ≡ node_in x row j (suc k) + (leg j).rounded (suc i) k default)
      → ((j k : ℕ) → j ≤ x.tranches → k ≤ x.names → node_in x ys j k ≡ node_in x row j k + (leg j).rounded (suc i) k survive)
      → zs ≡ grid (suc x.tranches) (suc x.names) (rolled_in (suc x.names) (hazards_into x (suc i)) (get_or x.discounts i 0) cash ys)
      → zs ≡ rolled x leg i row
  unfolding rolled row_of rolled_in node_in discount_of
  kernel leg row ys cash zs d u e =
      e
      ∙ row_cong x _ _
      (λ j k p q.
      ap (λ h. roll_node h (get_or x.discounts i 0) (node_in x ys j (suc k) + node_in x cash j k) (node_in x ys j k)) (hazard_is x l.curves (suc i) k)
      ∙ node_same x (suc i) k (get_or x.discounts i 0) _ _ _ _ (λ h. d j k p h) (u j k p q))

  pub default_step : (row pay zs : List ℕ) → pay ≡ row_of x (payment_of x)
      → zs ≡ grid (suc x.tranches) (suc x.names) (rolled_in (suc x.names) (hazards_into x (suc i)) (get_or x.discounts i 0) pay row)
      → zs ≡ rolled x (default_of x) i row
  unfolding default_of default_cash
  default_step row pay zs e q =
      kernel (default_of x) row row pay zs
      (λ j k p h.
      ap (λ y. node_in x row j (suc k) + y)
      (ap (λ (r : List ℕ). node_in x r j k) e ∙ node_row x (payment_of x) j k p (omega arith) ∙ payment_before x j k h))
      (λ j k p h. sym (add-zero _))
      q

  -- a table that pays as what is outstanding would
  abbrev Earns : List ℕ → Type 0
  Earns earned = (j k : ℕ) → j ≤ x.tranches → k < x.names → node_in x earned j k ≡ elapsed_payment (get_or x.elapsed i 0) (outstanding_of x j k) (outstanding_of x j (suc k))

  pub premium_step : (row out es earned zs : List ℕ) → length row ≡ row_length x → out ≡ row_of x (outstanding_of x) → Earns earned
      → es ≡ tab (length row) (accrued_at (get_or x.accruals i 0) out row)
      → zs ≡ grid (suc x.tranches) (suc x.names) (rolled_in (suc x.names) (hazards_into x (suc i)) (get_or x.discounts i 0) earned es)
      → zs ≡ rolled x (premium_of x) i row
  unfolding premium_of premium_cash elapsed_cash accrual_of elapsed_of
  premium_step row out es earned zs long o z e q =
      let at_node : (j k : ℕ) → j ≤ x.tranches → k ≤ x.names → node_in x es j k ≡ node_in x row j k + premium_payment (get_or x.accruals i 0) (outstanding_of x j k) =
      accrued_node x row out es (get_or x.accruals i 0) long o e in
      kernel (premium_of x) row es earned zs
      (λ j k p h. omega (arith, z j k p h, at_node j (suc k) p h))
      (λ j k p h. omega (arith, at_node j k p h))
      q

-- ---- bounds

-- a node's own bound, by what follows it
node_below : (x : Terms) → TermsWithin x → (s k v d u most : ℕ) → v ≤ B → (k < x.names → d ≤ most) → u ≤ most → roll_node (hazard_of x s k) v d u ≤ most
node_below x l s k v d u most w e f = go (dec_lt k x.names)
  where
    go : Dec (k < x.names) → roll_node (hazard_of x s k) v d u ≤ most
    go (yes h) = node_most (hazard_of x s k) v d u most (hazard_sure x (hazard_most x l) s k) w (e h) f
    go (no h) =
        let last : roll_node 0 v 0 u ≤ most = node_most 0 v 0 u most (omega arith) w (omega arith) f in
        rw (hazard_last x s k (omega arith), node_last v d 0 u) last

-- what may stand in a default row, and in a premium row at step i
abbrev DefaultsLow : Terms → List ℕ → Type 0
DefaultsLow x row = (j k : ℕ) → j ≤ x.tranches → k ≤ x.names → node_in x row j k + loss_of x j k ≤ 2 * B

abbrev PremiumsLow : Terms → ℕ → List ℕ → Type 0
PremiumsLow x i row = (j k : ℕ) → j ≤ x.tranches → k ≤ x.names → node_in x row j k ≤ 7 * B + outstanding_of x j k + sum_of (drop i x.accruals)

module _ (x : Terms) (l : TermsWithin x) (i : ℕ) (inside : i < x.steps) where
  discount_low : discount_of x (suc i) ≤ B
  unfolding discount_of
  discount_low = discount_most x l i

  after_is : sum_of (drop i x.accruals) ≡ get_or x.accruals i 0 + sum_of (drop (suc i) x.accruals)
  after_is = sum_drop i x.accruals (omega (arith, l.curves.accruals))

  pays_low : (j k : ℕ) → premium_payment (get_or x.accruals i 0) (outstanding_of x j k) ≤ get_or x.accruals i 0
  pays_low j k = premium_payment_most _ _ (outstanding_within x l.tranches j k)

  earns_low : (j k : ℕ) → elapsed_payment (get_or x.elapsed i 0) (outstanding_of x j k) (outstanding_of x j (suc k)) ≤ outstanding_of x j k - outstanding_of x j (suc k)
  earns_low j k = elapsed_payment_most _ _ _ (elapsed_most x l i)

  -- what a default pays comes off what may stand after it
  paid_low : (row : List ℕ) → DefaultsLow x row → (j k : ℕ) → j ≤ x.tranches → k < x.names →
      node_in x row j (suc k) + default_payment (loss_of x j k) (loss_of x j (suc k)) + loss_of x j k ≤ 2 * B
  unfolding default_payment
  paid_low row low j k p h = omega (arith, low j (suc k) p h, loss_rises x l.tranches j k)

  pub defaults_keep : (row : List ℕ) → DefaultsLow x row → DefaultsLow x (rolled x (default_of x) i row)
  unfolding default_of default_cash
  defaults_keep row low j k p q =
      let most : roll_node (hazard_of x (suc i) k) (discount_of x (suc i)) (node_in x row j (suc k) + default_payment (loss_of x j k) (loss_of x j (suc k))) (node_in x row j k + 0) ≤ 2 * B - loss_of x j k =
      node_below x l (suc i) k (discount_of x (suc i)) _ _ (2 * B - loss_of x j k) discount_low (λ h. omega (arith, paid_low row low j k p h)) (omega (arith, low j k p q)) in
      omega (arith, rolled_entry x (default_of x) i row j k p q, most, low j k p q)

  pub premiums_keep : (row : List ℕ) → PremiumsLow x (suc i) row → PremiumsLow x i (rolled x (premium_of x) i row)
  unfolding premium_of premium_cash elapsed_cash accrual_of elapsed_of
  premiums_keep row low j k p q =
      rw (rolled_entry x (premium_of x) i row j k p q)
      (node_below x l (suc i) k (discount_of x (suc i)) _ _ _ discount_low
      (λ h. omega (arith, after_is, pays_low j (suc k), earns_low j k, outstanding_less x l.tranches j k, low j (suc k) p h))
      (omega (arith, after_is, pays_low j k, low j k p q)))

  pub defaults_fit : (row pay : List ℕ) → length row ≡ row_length x → DefaultsLow x row → pay ≡ row_of x (payment_of x)
      → RowsFit (suc x.tranches) x.names row (hazards_into x (suc i)) (get_or x.discounts i 0) pay
  unfolding node_in
  defaults_fit row pay long low e =
      record {
        hazards_long = hazards_long x l.curves (suc i);
        rows_long = long;
        cash_long = ap length e ∙ length_row x _;
        hazard_most = λ k. rw (hazard_is x l.curves (suc i) k) (hazard_sure x (hazard_most x l) (suc i) k);
        discount_most = discount_most x l i;
        survived_most = λ j k p q. omega (arith, low j k (omega arith) q);
        defaulted_most = λ j k p q.
            omega (arith, paid_low row low j k (omega arith) q, ap (λ (r : List ℕ). node_in x r j k) e, node_row x (payment_of x) j k (omega arith) (omega arith), payment_before x j k q);
      }

  pub premiums_fit : (row out es earned : List ℕ) → length row ≡ row_length x → PremiumsLow x (suc i) row → out ≡ row_of x (outstanding_of x)
      → length earned ≡ row_length x → Earns x l i earned → es ≡ tab (length row) (accrued_at (get_or x.accruals i 0) out row)
      → RowsFit (suc x.tranches) x.names es (hazards_into x (suc i)) (get_or x.discounts i 0) earned
  unfolding node_in
  premiums_fit row out es earned long low o earned_long z e =
      -- below its own bound one step earlier, and so below 18 B
      let most : (j k : ℕ) → j ≤ x.tranches → k ≤ x.names → node_in x es j k ≤ 17 * B + outstanding_of x j k =
      λ j k p q. omega (arith, accrued_node x row out es (get_or x.accruals i 0) long o e j k p q, pays_low j k, low j k p q, after_is, sum_drop_most i x.accruals, l.accruals.total) in
      record {
        hazards_long = hazards_long x l.curves (suc i);
        rows_long = accrued_long x row out es _ long e;
        cash_long = earned_long;
        hazard_most = λ k. rw (hazard_is x l.curves (suc i) k) (hazard_sure x (hazard_most x l) (suc i) k);
        discount_most = discount_most x l i;
        survived_most = λ j k p q. omega (arith, most j k (omega arith) q, outstanding_within x l.tranches j k);
        defaulted_most = λ j k p q.
            omega (
              arith,
              most j (suc k) (omega arith) q,
              z j k (omega arith) q,
              earns_low j k,
              outstanding_less x l.tranches j k,
              outstanding_within x l.tranches j k,
            );
      }

  -- the premium to be added fits, place by place
  pub premiums_low : (row : List ℕ) → length row ≡ row_length x → PremiumsLow x (suc i) row → (n : ℕ) → n < length row → get_or row n 0 ≤ 18 * B
  unfolding node_in
  premiums_low row long low n h =
      every (λ y. y ≤ 18 * B) (suc x.tranches) (suc x.names) row (omega arith)
      (λ j k p q. omega (arith, low j k (omega arith) (omega arith), outstanding_within x l.tranches j k, sum_drop_most (suc i) x.accruals, l.accruals.total)) n (rw long at h)

-- ---- a walk keeps its rows so that they can be walked on

pub rollable_step : (x : Terms) (d a : List ℕ) (i c : ℕ) → Rollable x d a (suc i) (suc c) → Rollable x (rolled x (default_of x) i d) (rolled x (premium_of x) i a) i c
rollable_step x d a i c r =
    let inside : i < x.steps = r.position_most in
    record {
      limits = r.limits;
      position_most = omega (arith, r.position_most);
      count_most = omega (arith, r.count_most);
      defaults_long = length_rolled x (default_of x) i d;
      premiums_long = length_rolled x (premium_of x) i a;
      defaults_most = defaults_keep x r.limits i inside d r.defaults_most;
      premiums_most = premiums_keep x r.limits i inside a r.premiums_most;
    }

pub rollable_back : (x : Terms) (d a : List ℕ) (i c b : ℕ) → Rollable x d a i c → b ≤ c →
    Rollable x (rolled_back x (default_of x) i b d) (rolled_back x (premium_of x) i b a) (i - b) (c - b)
unfolding rolled_back
rollable_back x d a i c zero r h = rw (sub-zero i, sub-zero c) r
rollable_back x d a i c (suc b) r h =
    let e : i - b ≡ suc (i - suc b) = omega (arith, r.count_most) in
    let f : c - b ≡ suc (c - suc b) = omega arith in
    rollable_step x _ _ (i - suc b) (c - suc b) (rw (e, f) at (rollable_back x d a i c b r (omega arith)))
