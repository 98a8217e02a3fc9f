-- With the one start 1 every figure is the earlier one (T-06): that of one list of hazards for all steps.
use Rattle.std.specs.Prelude.{ℕ, ◌≡◌, cond, [], ◌∷◌, get_or, ltb}
use Rattle.sheet.specs.Terms.{Terms}
use Rattle.tree.specs.Paths.{Tree}
use Rattle.tree.specs.Backward.{leg_value, leg_exact}
use Rattle.tree.specs.Sheet.{discount_of, tree_of, default_of, premium_of, D, A, exact_d, exact_a}
use Rattle.tree.specs.Forward.{distribution, probability}

-- p and the tree as they were.
unfoldable pub steady_hazard : Terms → ℕ → ℕ
steady_hazard x k = cond (ltb k x.names) (get_or x.hazards k 0) 0

unfoldable pub steady_tree : Terms → Tree
steady_tree x = record { names = x.names; hazard = λ s k. steady_hazard x k; discount = discount_of x }

-- The sheet's tree is that one, so path chances are as they were; and so are values, exact values, distribution and exact probabilities.
pub record Steady (x : Terms) : Type 0 where
  pub tree : tree_of x ≡ steady_tree x
  pub default : (j h i k : ℕ) → D x j h i k ≡ leg_value (steady_tree x) (default_of x j) h i k
  pub premium : (j h i k : ℕ) → A x j h i k ≡ leg_value (steady_tree x) (premium_of x j) h i k
  pub default_exact : (j h i k : ℕ) → exact_d x j h i k ≡ leg_exact (steady_tree x) (default_of x j) h i k
  pub premium_exact : (j h i k : ℕ) → exact_a x j h i k ≡ leg_exact (steady_tree x) (premium_of x j) h i k
  pub distribution : (h k : ℕ) → distribution (tree_of x) h k ≡ distribution (steady_tree x) h k
  pub probability : (h k : ℕ) → probability (tree_of x) h k ≡ probability (steady_tree x) h k

abbrev pub OnePeriodSteady : Type 0
OnePeriodSteady = (x : Terms) → x.starts ≡ 1 ∷ [] → Steady x
