-- With all fractions 0 the rule of back is the earlier one, whatever rows are lent, and so is every call, but for rows with a premium leg between the
-- earlier ceiling and the present one: those were refused with 12 and are taken now (T-01). What is kept here as it was reads no fraction, which is a law too.
use Rattle.std.specs.Prelude.{ℕ, suc, ◌+◌, ◌*◌, ◌≡◌, Bool, ◌||◌, List, get_or, replicate}
use Rattle.cash.specs.Units.{half}
use Rattle.sheet.specs.Terms.{Terms}
use Rattle.sheet.specs.Brought.{Brought}
use Rattle.tree.specs.Sheet.{outstanding_of, default_of, default_most}
use Rattle.tree.specs.DatesOnly.{dates_only, dates_most}
use Rattle.rows.specs.Rows.{Rows, node_in, AtEveryNode, rolled_back, any_over, soiled, distribution_row}
use Rattle.refusals.specs.Tests.{Test}
use Rattle.refusals.specs.DatesOnly.{dates_only_tests}
use Rattle.walk.specs.CallRules.{backward_rule, BackStep}
use Rattle.walk.specs.Manners.{Manner, CallsAlike}

-- The fractions of a sheet are as many zeros as it has steps.
abbrev pub ZeroFractions : Terms → Type 0
ZeroFractions x = x.elapsed ≡ replicate x.steps 0

-- The premium leg one step back, as it was: each count with the premium of its date, and nothing for a default.
abbrev pub PremiumsByDates : Terms → ℕ → Rows → Rows → Type 0
PremiumsByDates x i old new =
    AtEveryNode x (λ j k.
    node_in x new.premiums j k
    ≡ backward_rule x i k (node_in x old.premiums j (suc k) + half (get_or x.accruals i 0 * outstanding_of x j (suc k)))
    (node_in x old.premiums j k + half (get_or x.accruals i 0 * outstanding_of x j k)))

abbrev pub RuleByDates : Type 0
RuleByDates = (x : Terms) → ZeroFractions x → (i : ℕ) (old new : Rows) → BackStep x i old new → PremiumsByDates x i old new

-- Whether rows hold an entry over its ceiling, as it was.
unfoldable pub dates_only_soiled : Terms → ℕ → Rows → Bool
dates_only_soiled x i rows = any_over x (default_most x) rows.defaults || any_over x (λ j k. dates_most x i) rows.premiums

-- What the calls went by.
unfoldable pub dates_only_manner : Manner
dates_only_manner =
    record {
      checks = dates_only_tests;
      over = dates_only_soiled;
      rolled = λ x i c rows.
          record {
            defaults = rolled_back x (default_of x) i c rows.defaults;
            premiums = rolled_back x (dates_only x) i c rows.premiums;
          };
      spread = distribution_row;
    }

-- It reads no fraction: none of the four asks what the list is.
abbrev pub with_elapsed : Brought → List ℕ → Brought
with_elapsed x elapsed =
    record {
      sheet =
          record {
            names = x.sheet.names;
            steps = x.sheet.steps;
            tranches = x.sheet.tranches;
            recovery = x.sheet.recovery;
            attachments = x.sheet.attachments;
            starts = x.sheet.starts;
            hazards = x.sheet.hazards;
            discounts = x.sheet.discounts;
            accruals = x.sheet.accruals;
            elapsed = elapsed;
          };
      number = x.number;
      coupons = x.coupons;
    }

pub record ReadsNoFraction (m : Manner) (x : Brought) (elapsed : List ℕ) : Type 0 where
  pub checks : (lent : Bool) (more : List Test) → m.checks (with_elapsed x elapsed) lent more ≡ m.checks x lent more
  pub over : (i : ℕ) (rows : Rows) → m.over (with_elapsed x elapsed).sheet i rows ≡ m.over x.sheet i rows
  pub rolled : (i c : ℕ) (rows : Rows) → m.rolled (with_elapsed x elapsed).sheet i c rows ≡ m.rolled x.sheet i c rows
  pub spread : (i : ℕ) → m.spread (with_elapsed x elapsed).sheet i ≡ m.spread x.sheet i

abbrev pub DatesOnlyBlind : Type 0
DatesOnlyBlind = (x : Brought) (elapsed : List ℕ) → ReadsNoFraction dates_only_manner x elapsed

-- Rows that both ceilings tell alike.
abbrev pub SoiledAlike : Terms → ℕ → Rows → Type 0
SoiledAlike x i rows = soiled x i rows.defaults rows.premiums ≡ dates_only_soiled x i rows

abbrev pub ZeroFractionCalls : Type 0
ZeroFractionCalls = (x : Brought) → ZeroFractions x.sheet →
    CallsAlike dates_only_manner x (λ register walk rows. SoiledAlike x.sheet walk.position rows)
