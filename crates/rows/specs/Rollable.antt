-- What callers have checked of a sheet and its rows before a walk goes on (document 01, 'Walking back').
use Rattle.std.specs.Prelude.{ℕ, ◌+◌, ◌*◌, ◌≤◌, ◌≡◌, List, length, drop}
use Rattle.cash.specs.Units.{B}
use Rattle.sheet.specs.Terms.{Terms, sum_of}
use Rattle.sheet.specs.Limits.{TermsWithin}
use Rattle.tree.specs.Sheet.{loss_of, outstanding_of}
use Rattle.rows.specs.Rows.{node_in, row_length}

-- Rows at a position that can be walked count steps back. Their bounds are wider than their ceilings, and a step back keeps them.
pub record Rollable (x : Terms) (defaults premiums : List ℕ) (position count : ℕ) : Type 0 where
  pub limits : TermsWithin x
  pub position_most : position ≤ x.steps
  pub count_most : count ≤ position
  pub defaults_long : length defaults ≡ row_length x
  pub premiums_long : length premiums ≡ row_length x
  pub defaults_most : (j k : ℕ) → j ≤ x.tranches → k ≤ x.names → node_in x defaults j k + loss_of x j k ≤ 2 * B
  pub premiums_most : (j k : ℕ) → j ≤ x.tranches → k ≤ x.names →
      node_in x premiums j k ≤ 7 * B + outstanding_of x j k + sum_of (drop position x.accruals)
