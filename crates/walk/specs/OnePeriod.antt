-- With the one start 1 the rule of back is the earlier one, whatever rows are lent, and every call is too (T-06). What is kept here as it was reads
-- no start.
use Rattle.std.specs.Prelude.{ℕ, zero, suc, ◌+◌, ◌-◌, ◌*◌, ◌≡◌, cond, List, [], ◌∷◌, length, get_or, ltb}
use Rattle.cash.specs.Units.{B, half}
use Rattle.sheet.specs.Terms.{Terms}
use Rattle.sheet.specs.Brought.{Brought}
use Rattle.tree.specs.Paths.{survive, default}
use Rattle.tree.specs.Backward.{roll_node, Leg}
use Rattle.tree.specs.Sheet.{discount_of, default_of, premium_of}
use Rattle.tree.specs.Forward.{distribution}
use Rattle.tree.specs.OnePeriod.{steady_hazard, steady_tree}
use Rattle.rows.specs.Tables.{tab}
use Rattle.rows.specs.Rows.{node_in, row_of, soiled}
use Rattle.refusals.specs.OnePeriod.{steady_tests}
use Rattle.walk.specs.CallRules.{backward_rule}
use Rattle.walk.specs.Manners.{Manner, CallsAlike}

-- The backward rule as it was: half(v(i + 1) × half(p(k) × defaulted + (B - p(k)) × survived)); for k = n only the second term.
unfoldable pub steady_rule : Terms → ℕ → ℕ → ℕ → ℕ → ℕ
steady_rule x i k defaulted survived =
    half (get_or x.discounts i 0 * half (cond (ltb k x.names) (get_or x.hazards k 0 * defaulted) 0 + (B - get_or x.hazards k 0) * survived))

-- Of a sheet whose hazards are as many as its names, as those of an accepted one with one period are.
abbrev pub RuleSteady : Type 0
RuleSteady = (x : Terms) → x.starts ≡ 1 ∷ [] → length x.hazards ≡ x.names → (i k defaulted survived : ℕ) →
    backward_rule x i k defaulted survived ≡ steady_rule x i k defaulted survived

-- A row one step back, and c steps back, as it was.
unfoldable pub steady_rolled : Terms → (ℕ → Leg) → ℕ → List ℕ → List ℕ
steady_rolled x leg i row =
    row_of x (λ j k.
    roll_node (steady_hazard x k) (discount_of x (suc i))
    (node_in x row j (suc k) + (leg j).rounded (suc i) k default)
    (node_in x row j k + (leg j).rounded (suc i) k survive))

unfoldable pub steady_rolled_back : Terms → (ℕ → Leg) → ℕ → ℕ → List ℕ → List ℕ
steady_rolled_back x leg i zero row = row
steady_rolled_back x leg i (suc c) row = steady_rolled x leg (i - suc c) (steady_rolled_back x leg i c row)

-- What the calls went by.
unfoldable pub steady_manner : Manner
steady_manner =
    record {
      checks = steady_tests;
      over = λ x i rows. soiled x i rows.defaults rows.premiums;
      rolled = λ x i c rows.
          record {
            defaults = steady_rolled_back x (default_of x) i c rows.defaults;
            premiums = steady_rolled_back x (premium_of x) i c rows.premiums;
          };
      spread = λ x i. tab (suc x.names) (distribution (steady_tree x) i);
    }

-- Each call that brings a sheet with one period goes by that, whatever rows it is lent.
abbrev pub OnePeriodCalls : Type 0
OnePeriodCalls = (x : Brought) → x.sheet.starts ≡ 1 ∷ [] → CallsAlike steady_manner x (λ register walk rows. Unit {0})
