-- All fractions 0 change no rule, and no call on rows that both ceilings tell alike.
use Rattle.std.proofs.Common.{ℕ, zero, suc, pred, ◌+◌, ◌-◌, ◌*◌, ◌≡◌, refl, ap, ◌∙◌, Bool, true, false, List, add-zero, zero-mul, get_or, replicate}
use mathlib.Core.Path.{fun_ext}
use Rattle.cash.specs.Units.{B, half}
use Rattle.sheet.specs.Terms.{Terms}
use Rattle.sheet.specs.Brought.{Brought}
use Rattle.tree.specs.Paths.{survive, default}
use Rattle.tree.specs.Backward.{roll_node, Leg}
use Rattle.tree.specs.Sheet.{hazard_of, discount_of, accrual_of, elapsed_of, NoneElapsed, pool_loss_of, pool_recovery_of, loss_of, width_of, outstanding_of, tree_of, default_of, premium_of, default_most}
use Rattle.tree.specs.DatesOnly.{dates_only, dates_most}
use Rattle.tree.proofs.DatesOnly.{by_dates}
use Rattle.rows.specs.Rows.{Rows, node_in, row_of, rolled, rolled_back, any_over, distribution_row}
use Rattle.refusals.specs.Tests.{pool_bad, periods_bad, recovery_bad, attachments_bad, starts_bad, hazards_bad, discounts_bad, accruals_bad, coupons_bad, Test, first, sheet_tests}
use Rattle.refusals.specs.DatesOnly.{dates_only_lists_bad, dates_only_tests}
use Rattle.refusals.proofs.DatesOnly.{refusals_by_dates}
use Rattle.walk.specs.declared.Walk.{Walk}
use Rattle.walk.specs.CallRules.{backward_rule}
use Rattle.walk.specs.Calls.{rolls}
use Rattle.walk.specs.Manners.{CeilingsAsked, CallsAlike}
use Rattle.walk.specs.DatesOnly.{RuleByDates, dates_only_soiled, dates_only_manner, with_elapsed, ReadsNoFraction, DatesOnlyBlind, SoiledAlike, ZeroFractionCalls}
use Rattle.walk.proofs.Manners.{calls_alike}

-- As many zeros as one likes.
pub zeros_none : (x : Terms) (n : ℕ) → x.elapsed ≡ replicate n 0 → (i : ℕ) → get_or x.elapsed i 0 ≡ 0
zeros_none x n z i = ap (λ (l : List ℕ). get_or l i 0) z ∙ zero_at n i
  where
    zero_at : (n i : ℕ) → ◌≡◌ {A = ℕ} (get_or (replicate n 0) i 0) 0
    zero_at zero i = refl
    zero_at (suc n) zero = refl
    zero_at (suc n) (suc i) = zero_at n i

pub zeros_elapsed : (x : Terms) (n : ℕ) → x.elapsed ≡ replicate n 0 → NoneElapsed x
unfolding elapsed_of
zeros_elapsed x n z s = zeros_none x n z (pred s)

pub rule_by_dates : RuleByDates
unfolding half B
rule_by_dates x z i old new s j k p q =
    s.premium j k p q
    ∙ ap (λ y. backward_rule x i k (node_in x old.premiums j (suc k) + (half (get_or x.accruals i 0 * outstanding_of x j (suc k)) + y))
    (node_in x old.premiums j k + half (get_or x.accruals i 0 * outstanding_of x j k)))
    (none (outstanding_of x j k - outstanding_of x j (suc k)))
    ∙ ap (λ y. backward_rule x i k (node_in x old.premiums j (suc k) + y) (node_in x old.premiums j k + half (get_or x.accruals i 0 * outstanding_of x j k))) (add-zero _)
  where
    none : (d : ℕ) → half (get_or x.elapsed i 0 * d) ≡ 0
    none d = ap (λ e. half (e * d)) (zeros_none x x.steps z i) ∙ rw (zero-mul d) refl

-- A pool outside its limits is refused before any list is looked at, so there it need not be the right number of zeros.
module _ (x : Brought) (n : ℕ) (zeros : x.sheet.elapsed ≡ replicate n 0) (enough : pool_bad x.sheet ≡ false → n ≡ x.sheet.steps) where
  checks_by_dates : (lent : Bool) (more : List Test) → first (sheet_tests x lent more) ≡ first (dates_only_tests x lent more)
  unfolding sheet_tests dates_only_tests first
  checks_by_dates lent more = go (pool_bad x.sheet) refl
    where
      go : (b : Bool) → pool_bad x.sheet ≡ b → first (sheet_tests x lent more) ≡ first (dates_only_tests x lent more)
      go true e = rw e refl
      go false e = refusals_by_dates x (zeros ∙ ap (λ (k : ℕ). replicate k 0) (enough e)) lent more

  pub calls_by_zeros : (Lent : List ℕ → Walk → Rows → Type 0) →
      ((register : List ℕ) (walk : Walk) (rows : Rows) → Lent register walk rows → CeilingsAsked x register walk rows → SoiledAlike x.sheet walk.position rows) →
      CallsAlike dates_only_manner x Lent
  unfolding dates_only_manner rolls
  calls_by_zeros Lent alike =
      calls_alike dates_only_manner x Lent checks_by_dates alike
      (λ i c rows t. record {
        defaults = rolled_back x.sheet (default_of x.sheet) i c rows.defaults;
        premiums = rolled_back x.sheet (legs t) i c rows.premiums;
      })
      (λ i. refl)
    where
      legs : premium_of x.sheet ≡ dates_only x.sheet
      legs = fun_ext (by_dates x.sheet (zeros_elapsed x.sheet n zeros))

pub calls_by_dates : ZeroFractionCalls
calls_by_dates x z = calls_by_zeros x x.sheet.steps z (λ e. refl) _ (λ register walk rows l e. l)

-- ---- no fraction is read

module _ (x : Brought) (elapsed : List ℕ) where
  abbrev other : Terms
  other = (with_elapsed x elapsed).sheet

  hazards_same : hazard_of other ≡ hazard_of x.sheet
  unfolding hazard_of
  hazards_same = refl

  legs_same : dates_only other ≡ dates_only x.sheet
  unfolding dates_only accrual_of outstanding_of pool_loss_of pool_recovery_of
  legs_same = refl

  defaults_same : default_of other ≡ default_of x.sheet
  unfolding default_of loss_of pool_loss_of
  defaults_same = refl

  rolled_same : (f g : ℕ → Leg) → f ≡ g → (i c : ℕ) (row : List ℕ) → rolled_back other f i c row ≡ rolled_back x.sheet g i c row
  unfolding rolled_back rolled row_of node_in hazard_of discount_of
  rolled_same f g e i zero row = refl
  rolled_same f g e i (suc c) row =
      λ t. row_of x.sheet (λ j k.
      roll_node (hazard_of x.sheet (suc (i - suc c)) k) (discount_of x.sheet (suc (i - suc c)))
      (node_in x.sheet (rolled_same f g e i c row t) j (suc k) + (e t j).rounded (suc (i - suc c)) k default)
      (node_in x.sheet (rolled_same f g e i c row t) j k + (e t j).rounded (suc (i - suc c)) k survive))

  pub reads_no_fraction : ReadsNoFraction dates_only_manner x elapsed
  unfolding dates_only_manner dates_only_tests dates_only_lists_bad pool_bad periods_bad recovery_bad attachments_bad starts_bad hazards_bad discounts_bad accruals_bad coupons_bad dates_only_soiled any_over node_in default_most width_of loss_of pool_loss_of dates_most distribution_row tree_of hazard_of discount_of
  reads_no_fraction =
      record {
        checks = λ lent more. refl;
        over = λ i rows. refl;
        rolled = λ i c rows t. record {
          defaults = rolled_same _ _ defaults_same i c rows.defaults t;
          premiums = rolled_same _ _ legs_same i c rows.premiums t;
        };
        spread = λ i. refl;
      }

pub dates_only_blind : DatesOnlyBlind
dates_only_blind x elapsed = reads_no_fraction x elapsed
