-- One period changes no rule and no call.
use Rattle.std.proofs.Common.{ℕ, zero, suc, ◌+◌, ◌-◌, ◌*◌, ◌<◌, ◌≡◌, refl, ap, ap₂, sym, ◌∙◌, Bool, true, false, cond, List, [], ◌∷◌, arith, zero-mul}
use Rattle.std.proofs.Common.{length, get_or, ltb, lt-ltb, le-ltb}
use native.Mathlib.Decide.{dec_lt}
use lib.ListN.{get_or-eq_default}
use Rattle.cash.specs.Units.{B, half}
use Rattle.sheet.specs.Terms.{Terms}
use Rattle.tree.specs.Paths.{survive, default}
use Rattle.tree.specs.Backward.{roll_node, Leg}
use Rattle.tree.specs.Sheet.{discount_of, default_of, premium_of}
use Rattle.tree.specs.Forward.{distribution}
use Rattle.tree.specs.OnePeriod.{steady_hazard}
use Rattle.tree.proofs.OnePeriod.{hazard_steady, steady}
use Rattle.rows.specs.Tables.{tab}
use Rattle.rows.specs.Rows.{node_in, row_of, rolled, rolled_back, distribution_row}
use Rattle.refusals.proofs.OnePeriod.{refusals_steady}
use Rattle.walk.specs.CallRules.{backward_rule}
use Rattle.walk.specs.Calls.{rolls}
use Rattle.walk.specs.OnePeriod.{steady_rule, RuleSteady, steady_rolled, steady_rolled_back, steady_manner, OnePeriodCalls}
use Rattle.walk.proofs.Manners.{calls_alike}

module _ (x : Terms) (one : x.starts ≡ 1 ∷ []) (long : length x.hazards ≡ x.names) where
  -- past the last name there is no hazard either way
  past : (k : ℕ) → steady_hazard x k ≡ get_or x.hazards k 0
  unfolding steady_hazard
  past k = go (dec_lt k x.names)
    where
      go : Dec (k < x.names) → cond (ltb k x.names) (get_or x.hazards k 0) 0 ≡ get_or x.hazards k 0
      go (yes h) = rw (lt-ltb k x.names h) refl
      go (no h) = rw (le-ltb k x.names (omega arith)) (sym (get_or-eq_default x.hazards 0 (omega arith)))

  term : (k d : ℕ) → steady_hazard x k * d ≡ cond (ltb k x.names) (get_or x.hazards k 0 * d) 0
  unfolding steady_hazard
  term k d = go (ltb k x.names)
    where
      go : (b : Bool) → cond b (get_or x.hazards k 0) 0 * d ≡ cond b (get_or x.hazards k 0 * d) 0
      go true = refl
      go false = zero-mul d

  steady_at : (i k d u : ℕ) → backward_rule x i k d u ≡ steady_rule x i k d u
  unfolding backward_rule steady_rule
  steady_at i k d u =
      ap₂ (λ a b. half (get_or x.discounts i 0 * half (a + (B - b) * u)))
      ((λ t. hazard_steady x one (suc i) k t * d) ∙ term k d)
      (hazard_steady x one (suc i) k ∙ past k)

pub rule_steady : RuleSteady
rule_steady x one long = steady_at x one long

-- ---- the calls

module _ (x : Terms) (one : x.starts ≡ 1 ∷ []) where
  rolled_is : (leg : ℕ → Leg) (i : ℕ) (row : List ℕ) → rolled x leg i row ≡ steady_rolled x leg i row
  unfolding rolled steady_rolled
  rolled_is leg i row t =
      row_of x (λ j k.
      roll_node (hazard_steady x one (suc i) k t) (discount_of x (suc i))
      (node_in x row j (suc k) + (leg j).rounded (suc i) k default)
      (node_in x row j k + (leg j).rounded (suc i) k survive))

  rolled_back_is : (leg : ℕ → Leg) (i c : ℕ) (row : List ℕ) → rolled_back x leg i c row ≡ steady_rolled_back x leg i c row
  unfolding rolled_back steady_rolled_back
  rolled_back_is leg i zero row = refl
  rolled_back_is leg i (suc c) row = rolled_is leg (i - suc c) _ ∙ ap (steady_rolled x leg (i - suc c)) (rolled_back_is leg i c row)

pub calls_steady : OnePeriodCalls
unfolding steady_manner rolls distribution_row
calls_steady x one =
    calls_alike steady_manner x (λ register walk rows. Unit {0}) (refusals_steady x one) (λ register walk rows l e. refl)
    (λ i c rows t. record {
      defaults = rolled_back_is x.sheet one (default_of x.sheet) i c rows.defaults t;
      premiums = rolled_back_is x.sheet one (premium_of x.sheet) i c rows.premiums t;
    })
    (λ i t. tab (suc x.sheet.names) (distribution ((steady x.sheet one).tree t) i))
