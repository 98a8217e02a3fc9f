-- One period changes nothing.
use Rattle.std.proofs.Common.{ℕ, pred, ◌+◌, ◌*◌, ◌≡◌, refl, ap, ◌∙◌, Bool, true, false, cond, List, [], ◌∷◌, zero-mul, zero-add, get_or, leb, ltb}
use Rattle.sheet.specs.Terms.{Terms}
use Rattle.sheet.specs.Periods.{begun, period_of}
use Rattle.tree.specs.Paths.{Tree}
use Rattle.tree.specs.Backward.{leg_value, leg_exact}
use Rattle.tree.specs.Sheet.{hazard_of, discount_of, tree_of, default_of, premium_of, D, A, exact_d, exact_a}
use Rattle.tree.specs.Forward.{distribution, probability}
use Rattle.tree.specs.OnePeriod.{steady_hazard, steady_tree, Steady, OnePeriodSteady}

one_begun : (s : ℕ) → period_of (1 ∷ []) s ≡ 0
unfolding period_of begun
one_begun s = go (leb 1 s)
  where
    go : (b : Bool) → pred (cond b 1 0 + 0) ≡ 0
    go true = refl
    go false = refl

module _ (x : Terms) (one : x.starts ≡ 1 ∷ []) where
  pub hazard_steady : (s k : ℕ) → hazard_of x s k ≡ steady_hazard x k
  unfolding hazard_of steady_hazard
  hazard_steady s k =
      ap (λ p. cond (ltb k x.names) (get_or x.hazards (p * x.names + k) 0) 0) (ap (λ (l : List ℕ). period_of l s) one ∙ one_begun s)
      ∙ ap (λ i. cond (ltb k x.names) (get_or x.hazards i 0) 0) (ap (λ n. n + k) (zero-mul x.names) ∙ zero-add k)

  tree_steady : tree_of x ≡ steady_tree x
  unfolding tree_of steady_tree
  tree_steady t = record { names = x.names; hazard = λ s k. hazard_steady s k t; discount = discount_of x }

  steady_of : Steady x
  unfolding D A exact_d exact_a
  steady_of =
      record {
        tree = tree_steady;
        default = λ j h i k. ap (λ (t : Tree). leg_value t (default_of x j) h i k) tree_steady;
        premium = λ j h i k. ap (λ (t : Tree). leg_value t (premium_of x j) h i k) tree_steady;
        default_exact = λ j h i k. ap (λ (t : Tree). leg_exact t (default_of x j) h i k) tree_steady;
        premium_exact = λ j h i k. ap (λ (t : Tree). leg_exact t (premium_of x j) h i k) tree_steady;
        distribution = λ h k. ap (λ (t : Tree). distribution t h k) tree_steady;
        probability = λ h k. ap (λ (t : Tree). probability t h k) tree_steady;
      }

pub steady : OnePeriodSteady
steady x one = steady_of x one
