-- Laws of rows walked back: lengths, nodes, and two walks as one.
use Rattle.std.proofs.Common.{ℕ, zero, suc, ◌+◌, ◌-◌, ◌*◌, ◌≤◌, ◌<◌, ◌≡◌, refl, ap, sym, ◌∙◌, List, arith, add-zero, add-suc, length, get_or, lt-ltb}
use Rattle.std.proofs.Common.{le-ltb}
use native.Mathlib.Decide.{dec_lt}
use lib.ListN.{get_or-eq_default}
use Rattle.tree.specs.Paths.{survive, default}
use Rattle.tree.specs.Backward.{roll_node, back_from, back, Leg, leg_value}
use Rattle.sheet.specs.Terms.{Terms}
use Rattle.sheet.specs.Limits.{CurvesFit}
use Rattle.sheet.specs.Periods.{period_of, hazards_into}
use Rattle.sheet.proofs.Periods.{hazards_long, hazards_read}
use Rattle.tree.specs.Sheet.{hazard_of, discount_of, tree_of}
use Rattle.rows.specs.Tables.{entry}
use Rattle.rows.specs.Rows.{node_in, row_length, rolled, rolled_back}
use Rattle.rows.proofs.Tables.{length_row, node_row}
use Rattle.rows.proofs.Nodes.{node_last}

-- ---- hazards

hazard_before : (x : Terms) (s k : ℕ) → k < x.names → hazard_of x s k ≡ get_or x.hazards (period_of x.starts s * x.names + k) 0
unfolding hazard_of
hazard_before x s k h = rw (lt-ltb k x.names h)

pub hazard_last : (x : Terms) (s k : ℕ) → x.names ≤ k → hazard_of x s k ≡ 0
unfolding hazard_of
hazard_last x s k h = rw (le-ltb k x.names h)

-- with a hazard for each name of a period, past them there is none either
pub hazard_is : (x : Terms) → CurvesFit x → (s k : ℕ) → get_or (hazards_into x s) k 0 ≡ hazard_of x s k
hazard_is x c s k = go (dec_lt k x.names)
  where
    go : Dec (k < x.names) → get_or (hazards_into x s) k 0 ≡ hazard_of x s k
    go (yes h) = hazards_read x c s k h ∙ sym (hazard_before x s k h)
    go (no h) = get_or-eq_default (hazards_into x s) 0 (omega (arith, hazards_long x c s)) ∙ sym (hazard_last x s k (omega arith))

-- a node by what follows it: the figure after a default counts below the last count only
pub node_same : (x : Terms) (s k v d d' u u' : ℕ) → (k < x.names → d ≡ d') → u ≡ u' → roll_node (hazard_of x s k) v d u ≡ roll_node (hazard_of x s k) v d' u'
node_same x s k v d d' u u' e f = go (dec_lt k x.names)
  where
    go : Dec (k < x.names) → roll_node (hazard_of x s k) v d u ≡ roll_node (hazard_of x s k) v d' u'
    go (yes h) = λ t. roll_node (hazard_of x s k) v (e h t) (f t)
    go (no h) = rw (hazard_last x s k (omega arith), f) (node_last v d d' u')

-- ---- lengths and entries

pub length_rolled : (x : Terms) (leg : ℕ → Leg) (i : ℕ) (row : List ℕ) → length (rolled x leg i row) ≡ row_length x
unfolding rolled
length_rolled x leg i row = length_row x _

pub rolled_entry : (x : Terms) (leg : ℕ → Leg) (i : ℕ) (row : List ℕ) (j k : ℕ) → j ≤ x.tranches → k ≤ x.names →
    node_in x (rolled x leg i row) j k
    ≡ roll_node (hazard_of x (suc i) k) (discount_of x (suc i))
    (node_in x row j (suc k) + (leg j).rounded (suc i) k default)
    (node_in x row j k + (leg j).rounded (suc i) k survive)
unfolding rolled
rolled_entry x leg i row j k p q = node_row x _ j k p q

-- ---- each node is the rounded rule's value, from the row that the walk started on

next_node : (x : Terms) (g : Leg) (q : ℕ → ℕ) (c s k : ℕ) (row : ℕ → ℕ) (i : ℕ) → suc s ≡ i
    → (k < x.names → row (suc k) ≡ back_from (tree_of x) g.rounded q c i (suc k)) → row k ≡ back_from (tree_of x) g.rounded q c i k
    → roll_node (hazard_of x (suc s) k) (discount_of x (suc s)) (row (suc k) + g.rounded (suc s) k default) (row k + g.rounded (suc s) k survive)
    ≡ back_from (tree_of x) g.rounded q (suc c) s k
unfolding back_from tree_of
next_node x g q c s k row i e d u =
    node_same x (suc s) k (discount_of x (suc s)) _ _ _ _
    (λ h. ap (λ y. y + g.rounded (suc s) k default) (d h ∙ ap (λ (n : ℕ). back_from (tree_of x) g.rounded q c n (suc k)) (sym e)))
    (ap (λ y. y + g.rounded (suc s) k survive) (u ∙ ap (λ (n : ℕ). back_from (tree_of x) g.rounded q c n k) (sym e)))

pub rolled_node : (x : Terms) (leg : ℕ → Leg) (i : ℕ) (row : List ℕ) (j : ℕ) → j ≤ x.tranches → (c k : ℕ) → c ≤ i → k ≤ x.names →
    node_in x (rolled_back x leg i c row) j k ≡ back_from (tree_of x) (leg j).rounded (node_in x row j) c (i - c) k
unfolding rolled_back back_from
rolled_node x leg i row j p zero k h q = refl
rolled_node x leg i row j p (suc c) k h q =
    rolled_entry x leg (i - suc c) (rolled_back x leg i c row) j k p q
    ∙ next_node x (leg j) (node_in x row j) c (i - suc c) k (node_in x (rolled_back x leg i c row) j) (i - c) (omega arith)
    (λ l. rolled_node x leg i row j p c (suc k) (omega arith) l)
    (rolled_node x leg i row j p c k (omega arith) q)

-- ---- from rows of zeros

pub zeros_node : (x : Terms) (row : List ℕ) → ((i : ℕ) → get_or row i 0 ≡ 0) → (j : ℕ) → node_in x row j ≡ (λ k. 0)
unfolding node_in entry
zeros_node x row z j = λ t k. z (j * suc x.names + k) t

pub rolled_leg : (x : Terms) (leg : ℕ → Leg) (row : List ℕ) → ((i : ℕ) → get_or row i 0 ≡ 0) → (i j h k : ℕ) → h ≤ i → j ≤ x.tranches → k ≤ x.names →
    node_in x (rolled_back x leg i h row) j k ≡ leg_value (tree_of x) (leg j) h (i - h) k
unfolding leg_value back
rolled_leg x leg row z i j h k l p q =
    rolled_node x leg i row j p h k l q
    ∙ ap (λ (f : ℕ → ℕ). back_from (tree_of x) (leg j).rounded f h (i - h) k) (zeros_node x row z j)

-- ---- b steps and then c steps are b + c steps

pub rolled_join : (x : Terms) (leg : ℕ → Leg) (i b c : ℕ) (row : List ℕ) → rolled_back x leg (i - b) c (rolled_back x leg i b row) ≡ rolled_back x leg i (b + c) row
unfolding rolled_back
rolled_join x leg i b zero row = ap (λ (n : ℕ). rolled_back x leg i n row) (sym (add-zero b))
rolled_join x leg i b (suc c) row =
    let e : i - b - suc c ≡ i - suc (b + c) = omega arith in
    (λ t. rolled x leg (e t) (rolled_join x leg i b c row t)) ∙ ap (λ (n : ℕ). rolled_back x leg i n row) (sym (add-suc b c))
