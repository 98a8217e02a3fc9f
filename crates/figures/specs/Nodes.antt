-- A node of the rows, its jump, and what callers have checked before they read it (document 01, 'Hedge ratio').
use Rattle.std.specs.Prelude.{ℕ, suc, ◌+◌, ◌*◌, ◌≤◌, ◌≡◌, length, get_or, ℤ}
use Rattle.cash.specs.Units.{B}
use Rattle.hedges.specs.declared.Node.{Node}
use Rattle.hedges.specs.Hedges.{jump_of}
use Rattle.sheet.specs.Terms.{Terms}
use Rattle.tree.specs.Sheet.{loss_of}
use Rattle.rows.specs.Rows.{node_in, Rows, row_length}
use Rattle.sheet.specs.Brought.{Brought}

-- A tranche at a count: its loss, and what the rows hold of it.
unfoldable pub node_of : Terms → Rows → ℕ → ℕ → Node
node_of x rows j k = record { loss = loss_of x j k; default = node_in x rows.defaults j k; premium = node_in x rows.premiums j k }

-- J of tranche j at the count k.
unfoldable pub jump : Brought → Rows → ℕ → ℕ → ℤ
jump x rows j k = jump_of (get_or x.coupons j 0) (node_of x.sheet rows j k) (node_of x.sheet rows j (suc k))

-- A node of the rows within the sizes and bounds that its figures need.
pub record Readable (x : Brought) (rows : Rows) (j k : ℕ) : Type 0 where
  pub names : x.sheet.names ≤ 125
  pub tranches : x.sheet.tranches ≤ 8
  pub tranche : j ≤ x.sheet.tranches
  pub count : k ≤ x.sheet.names
  pub default_size : length rows.defaults ≡ row_length x.sheet
  pub premium_size : length rows.premiums ≡ row_length x.sheet
  pub default : node_in x.sheet rows.defaults j k ≤ B
  pub premium : node_in x.sheet rows.premiums j k ≤ 18 * B
  pub coupons : length x.coupons ≡ x.sheet.tranches + 1
  pub coupon : get_or x.coupons j 0 ≤ 10_000_000
