-- The rows of a walk (document 01, 'Walking back' and 'Going forward').
use Rattle.std.specs.Prelude.{ℕ, zero, suc, ◌+◌, ◌-◌, ◌*◌, ◌≤◌, Bool, ◌||◌, List, ltb}
use Rattle.tree.specs.Paths.{survive, default}
use Rattle.tree.specs.Backward.{roll_node, Leg}
use Rattle.sheet.specs.Terms.{Terms}
use Rattle.tree.specs.Sheet.{hazard_of, discount_of, tree_of, default_most, premium_most}
use Rattle.tree.specs.Forward.{distribution}
use Rattle.rows.specs.Tables.{tab, entry, grid, any}

-- The two rows that are lent: (r + 1) × (n + 1) numbers each, tranche by tranche, then by count.
pub record Rows : Type 0 where
  pub defaults : List ℕ
  pub premiums : List ℕ

abbrev pub rows_of : List ℕ → List ℕ → Rows
rows_of defaults premiums = record { defaults = defaults; premiums = premiums }

-- The length of both.
abbrev pub row_length : Terms → ℕ
row_length x = suc x.tranches * suc x.names

-- A fact of every node: tranche j, the index among them, at count k.
abbrev pub AtEveryNode : Terms → (ℕ → ℕ → Type 0) → Type 0
AtEveryNode sheet fact = (j k : ℕ) → j ≤ sheet.tranches → k ≤ sheet.names → fact j k

-- What stands in a sheet's rows at tranche j and count k.
unfoldable pub node_in : Terms → List ℕ → ℕ → ℕ → ℕ
node_in x row j k = entry (suc x.names) row j k

-- The row of every tranche and the index whose entries follow a rule.
unfoldable pub row_of : Terms → (ℕ → ℕ → ℕ) → List ℕ
row_of x f = grid (suc x.tranches) (suc x.names) f

-- A whole row one step back, from step i + 1 to step i: each entry from its own and the next count's,
-- each with the cash of the leg that the move pays.
unfoldable pub rolled : Terms → (ℕ → Leg) → ℕ → List ℕ → List ℕ
rolled x leg i row =
    row_of x (λ j k.
    roll_node (hazard_of x (suc i) k) (discount_of x (suc i))
    (node_in x row j (suc k) + (leg j).rounded (suc i) k default)
    (node_in x row j k + (leg j).rounded (suc i) k survive))

-- The row c steps back from step i.
unfoldable pub rolled_back : Terms → (ℕ → Leg) → ℕ → ℕ → List ℕ → List ℕ
rolled_back x leg i zero row = row
rolled_back x leg i (suc c) row = rolled x leg (i - suc c) (rolled_back x leg i c row)

-- Whether an entry of a row is over its ceiling.
unfoldable pub any_over : Terms → (ℕ → ℕ → ℕ) → List ℕ → Bool
any_over x most row = any (suc x.tranches) (λ j. any (suc x.names) (λ k. ltb (most j k) (node_in x row j k)))

-- Whether rows at step i hold an entry over its ceiling. (Document 01 says soiled.)
unfoldable pub soiled : Terms → ℕ → List ℕ → List ℕ → Bool
soiled x i defaults premiums = any_over x (default_most x) defaults || any_over x (λ j k. premium_most x i k) premiums

-- The distribution of the default count after i steps, as the lent row holds it. ('Going forward')
unfoldable pub distribution_row : Terms → ℕ → List ℕ
distribution_row x i = tab (suc x.names) (distribution (tree_of x) i)
