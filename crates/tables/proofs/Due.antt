-- Whether premium is paid in a walk.
use Rattle.std.proofs.Common.{ℕ, zero, suc, ◌+◌, ◌-◌, ◌*◌, ◌≤◌, ◌<◌, zero-mul, ◌≡◌, refl, ap, sym, ◌∙◌, Bool, true, false, not, cond, ◌||◌, List}
use Rattle.std.proofs.Common.{add-one, arith, length, get_or, take, drop, drop-cons, eqb, eqb-true}
use borrow.Author.Tests.{not-false}
use Rattle.std.specs.List.{list_any}
use Rattle.cash.specs.Units.{B, half}
use Rattle.cash.specs.Losses.{premium_payment, elapsed_payment}
use Rattle.cash.proofs.Losses.{premium_payment_most}
use Rattle.sheet.specs.Terms.{Terms}
use Rattle.sheet.specs.Limits.{TranchesWithin}
use Rattle.tree.specs.Sheet.{outstanding_of}
use Rattle.tree.proofs.Sheets.{outstanding_within, outstanding_less}
use Rattle.rows.specs.Tables.{tab, entry, any}
use Rattle.rows.specs.Rows.{row_length, node_in, row_of}
use Rattle.rows.specs.Kernels.{accrued_at, due_in, FallingRows}
use Rattle.rows.proofs.Search.{any_none}
use Rattle.rows.proofs.Tables.{length_tab, get_d_tab, is_tab, length_row, node_row}
use Rattle.tranches.proofs.Losses.{outstandings_low}

-- Nothing is due in the first n steps before step i.
pub record Undue (accruals : List ℕ) (i n : ℕ) : Type 0 where
  pub none : (d : ℕ) → d < n → get_or accruals (i - suc d) 0 ≡ 0

undue : (accruals : List ℕ) (i c : ℕ) → due_in accruals i c ≡ false → Undue accruals i c
unfolding due_in
undue accruals i c e = record { none = λ d h. eqb-true _ 0 (not-false _ (any_none c (λ d. not (eqb (get_or accruals (i - suc d) 0) 0)) e d h)) }

or_swap : (a b : Bool) → (a || b) ≡ (b || a)
or_swap true true = refl
or_swap true false = refl
or_swap false true = refl
or_swap false false = refl

-- a test at one of the c numbers before place i
part_any : (test : ℕ → Bool) (l : List ℕ) (i c : ℕ) → c ≤ i → i ≤ length l → list_any test (take c (drop (i - c) l)) ≡ any c (λ d. test (get_or l (i - suc d) 0))
unfolding any
part_any test l i zero h q = refl
part_any test l i (suc c) h q =
    let e : suc (i - suc c) ≡ i - c = omega arith in
    let n : i - suc c < length l = omega arith in
    ap (λ (r : List ℕ). list_any test (take (suc c) r)) (drop-cons l (i - suc c) 0 n)
    ∙ ap (λ (k : ℕ). test (get_or l (i - suc c) 0) || list_any test (take c (drop k l))) e
    ∙ ap (λ (b : Bool). test (get_or l (i - suc c) 0) || b) (part_any test l i c (omega arith) q)
    ∙ or_swap (test (get_or l (i - suc c) 0)) (any c (λ d. test (get_or l (i - suc d) 0)))

pub part_due : (l : List ℕ) (i c : ℕ) → c ≤ i → i ≤ length l → list_any (λ x. not (eqb x 0)) (take (i - (i - c)) (drop (i - c) l)) ≡ due_in l i c
unfolding due_in
part_due l i c h q =
    let e : i - (i - c) ≡ c = omega arith in
    ap (λ (k : ℕ). list_any (λ x. not (eqb x 0)) (take k (drop (i - c) l))) e ∙ part_any (λ x. not (eqb x 0)) l i c h q

-- ---- a table that is filled only where something is due

-- A table that pays, in every step of a walk, as the table of what is outstanding would: on its date, and up to a default.
pub record Left (x : Terms) (position count : ℕ) (left : List ℕ) : Type 0 where
  pub falling : FallingRows (suc x.tranches) x.names left
  pub low : (n : ℕ) → n < row_length x → get_or left n 0 ≤ B
  pub pays : (d : ℕ) → d < count → (n : ℕ) → n < row_length x →
      premium_payment (get_or x.accruals (position - suc d) 0) (get_or left n 0) ≡ premium_payment (get_or x.accruals (position - suc d) 0) (get_or (row_of x (outstanding_of x)) n 0)
  pub earns : (d : ℕ) → d < count → (j k : ℕ) → j ≤ x.tranches → k < x.names →
      elapsed_payment (get_or x.elapsed (position - suc d) 0) (node_in x left j k) (node_in x left j (suc k))
      ≡ elapsed_payment (get_or x.elapsed (position - suc d) 0) (outstanding_of x j k) (outstanding_of x j (suc k))

-- nothing accrues, nothing is paid
pays_none : (a y : ℕ) → a ≡ 0 → y ≤ B → premium_payment a y ≡ 0
pays_none a y e h = omega (arith, premium_payment_most a y h)

earns_none : (e y z : ℕ) → e ≡ 0 → elapsed_payment e y z ≡ 0
unfolding elapsed_payment half B
earns_none e y z q = rw (q, zero-mul (y - z)) refl

-- the table of what is outstanding
outstandings_falling : (x : Terms) → TranchesWithin x → FallingRows (suc x.tranches) x.names (row_of x (outstanding_of x))
unfolding node_in
outstandings_falling x t =
    let at : (j k : ℕ) → j < suc x.tranches → k ≤ x.names → node_in x (row_of x (outstanding_of x)) j k ≡ outstanding_of x j k =
    λ j k h q. node_row x (outstanding_of x) j k (omega arith) q in
    record {
      long = length_row x _;
      most = λ j k h q. omega (arith, at j k h q, outstanding_within x t j k);
      falls = λ j k h q. omega (arith, at j k h (omega arith), at j (suc k) h q, outstanding_less x t j k);
    }

module _ (x : Terms) (t : TranchesWithin x) (position count : ℕ) (left before : List ℕ) (before_long : length before ≡ row_length x) (before_zero : (n : ℕ) → get_or before n 0 ≡ 0) where
  -- it was filled
  filled : left ≡ row_of x (outstanding_of x) → Left x position count left
  filled q =
      let here : (j k : ℕ) → j ≤ x.tranches → k ≤ x.names → node_in x left j k ≡ outstanding_of x j k =
      λ j k h m. ap (λ (l : List ℕ). node_in x l j k) q ∙ node_row x (outstanding_of x) j k h m in
      record {
        falling = rw q (outstandings_falling x t);
        low = outstandings_low x t left q;
        pays = λ d h n m. ap (λ (l : List ℕ). premium_payment (get_or x.accruals (position - suc d) 0) (get_or l n 0)) q;
        earns = λ d h j k p m s. elapsed_payment (get_or x.elapsed (position - suc d) 0) (here j k p (omega arith) s) (here j (suc k) p m s);
      }

  -- nothing is due
  kept : due_in x.accruals position count ≡ false → due_in x.elapsed position count ≡ false → left ≡ before → Left x position count left
  unfolding entry
  kept p r q =
      let zero_here : (n : ℕ) → get_or left n 0 ≡ 0 = λ n. ap (λ (l : List ℕ). get_or l n 0) q ∙ before_zero n in
      record {
        falling =
            record {
              long = ap length q ∙ before_long;
              most = λ j k h m. omega (arith, zero_here (j * suc x.names + k));
              falls = λ j k h m. omega (arith, zero_here (j * suc x.names + k), zero_here (j * suc x.names + suc k));
            };
        low = λ n h. omega (arith, zero_here n);
        pays = λ d h n m.
            let z : get_or x.accruals (position - suc d) 0 ≡ 0 = (undue x.accruals position count p).none d h in
            pays_none _ _ z (omega (arith, zero_here n)) ∙ sym (pays_none _ _ z (outstandings_low x t (row_of x (outstanding_of x)) refl n m));
        earns = λ d h j k m n.
            let z : get_or x.elapsed (position - suc d) 0 ≡ 0 = (undue x.elapsed position count r).none d h in
            earns_none _ _ _ z ∙ sym (earns_none _ _ _ z);
      }

  pub left_filled : left ≡ cond (due_in x.accruals position count || due_in x.elapsed position count) (row_of x (outstanding_of x)) before → Left x position count left
  left_filled e = go (due_in x.accruals position count) (due_in x.elapsed position count) refl refl e
    where
      go : (b c : Bool) → due_in x.accruals position count ≡ b → due_in x.elapsed position count ≡ c →
          left ≡ cond (b || c) (row_of x (outstanding_of x)) before → Left x position count left
      go true c p r q = filled q
      go false true p r q = filled q
      go false false p r q = kept p r q

-- a row with its premium added is the same by either table
pub accrued_left : (x : Terms) (position count : ℕ) (left : List ℕ) → Left x position count left → (done i : ℕ) → done < count → i ≡ position - (done + 1)
    → (row es : List ℕ) → length row ≡ row_length x → es ≡ tab (length row) (accrued_at (get_or x.accruals i 0) left row)
    → es ≡ tab (length row) (accrued_at (get_or x.accruals i 0) (row_of x (outstanding_of x)) row)
unfolding accrued_at
accrued_left x position count left f done i h i_is row es long e =
    is_tab es (length row) _ (ap length e ∙ length_tab _ _)
    (λ n q.
    ap (λ (t : List ℕ). get_or t n 0) e
    ∙ get_d_tab (length row) (accrued_at (get_or x.accruals i 0) left row) n q
    ∙ ap (λ y. get_or row n 0 + y) (rw i_here (f.pays done h n (rw long at q))))
  where
    i_here : i ≡ position - suc done
    i_here = i_is ∙ ap (λ (m : ℕ). position - m) (add-one done)
