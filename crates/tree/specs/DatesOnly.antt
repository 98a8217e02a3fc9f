-- With all fractions 0 the premium leg is the earlier one (T-01): that of premium dates alone.
use Rattle.std.specs.Prelude.{ℕ, ◌+◌, ◌*◌, ◌≤◌, ◌≡◌, drop}
use Rattle.sheet.specs.Terms.{Terms, sum_of}
use Rattle.sheet.specs.Limits.{TermsWithin}
use Rattle.tree.specs.Backward.{Leg, back_from, leg_value, leg_exact}
use Rattle.tree.specs.Legs.{date_leg}
use Rattle.tree.specs.Sheet.{accrual_of, NoneElapsed, outstanding_of, tree_of, premium_of, A, exact_a, dates, premium_halves}

-- The premium leg and its ceiling as they were.
unfoldable pub dates_only : Terms → ℕ → Leg
dates_only x j = date_leg (accrual_of x) (outstanding_of x j)

unfoldable pub dates_most : Terms → ℕ → ℕ
dates_most x i = sum_of (drop i x.accruals)

-- The leg is that one, so values, exact values and distance are as they were.
pub record ByDates (x : Terms) : Type 0 where
  pub leg : (j : ℕ) → premium_of x j ≡ dates_only x j
  pub premium : (j h i k : ℕ) → A x j h i k ≡ leg_value (tree_of x) (dates_only x j) h i k
  pub premium_exact : (j h i k : ℕ) → exact_a x j h i k ≡ leg_exact (tree_of x) (dates_only x j) h i k
  pub distance : (h i : ℕ) → premium_halves x h i ≡ 2 * h + dates x h i

abbrev pub NoneElapsedByDates : Type 0
NoneElapsedByDates = (x : Terms) → NoneElapsed x → ByDates x

-- The earlier ceiling is kept by every step back from a row that keeps to it, so walked rows keep to it as they did.
abbrev pub DatesMostKept : Type 0
DatesMostKept = (x : Terms) → TermsWithin x → (j : ℕ) (row : ℕ → ℕ) (h i : ℕ) → ((k : ℕ) → k ≤ x.names → row k ≤ dates_most x (i + h)) →
    (k : ℕ) → k ≤ x.names → back_from (tree_of x) (dates_only x j).rounded row h i k ≤ dates_most x i
