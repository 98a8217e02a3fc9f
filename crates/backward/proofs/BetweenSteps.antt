-- A walk back between two of its steps.
use Rattle.std.proofs.Common.{ℕ, suc, ◌+◌, ◌-◌, ◌*◌, ◌≤◌, ◌<◌, ◌≡◌, refl, ap, sym, ◌∙◌, cond, ◌||◌, List, arith, add-one, length, get_or}
use Rattle.cash.specs.Units.{B}
use Rattle.cash.specs.Losses.{elapsed_payment}
use Rattle.sheet.specs.Terms.{Terms, terms_of, bare}
use Rattle.sheet.specs.Periods.{period_of, hazards_at, hazards_into}
use Rattle.sheet.proofs.Periods.{hazards_there}
use Rattle.sheet.proofs.Limits.{elapsed_most}
use Rattle.tree.specs.Sheet.{outstanding_of, default_of, premium_of}
use Rattle.rows.specs.Tables.{tab, entry, grid}
use Rattle.rows.specs.Rows.{row_length, node_in, row_of, rolled, rolled_back}
use Rattle.rows.specs.Kernels.{rolled_in, accrued_at, earned_in, payment_of, due_in, RowsFit, FallingRows}
use Rattle.rows.specs.Rollable.{Rollable}
use Rattle.rows.proofs.Tables.{length_grid, entry_grid}
use Rattle.elapsed.proofs.Earned.{node_before, none_earned}
use Rattle.sheet.specs.declared.Pool.{Pool}
use Rattle.tranches.proofs.Losses.{payment_bare, outstanding_bare}
use Rattle.tables.proofs.Due.{Left, left_filled, accrued_left}
use Rattle.backward.proofs.OneStep.{default_step, premium_step, defaults_fit, premiums_fit, premiums_low, rollable_back}

-- After `done` of the steps from the rows d and p the rows are ds and ps, by lists and tables that are those of the sheet.
pub record StepsDone (x : Terms) (d p : List ℕ) (position count : ℕ) (starts hazards discounts accruals elapsed paid left earned ds ps : List ℕ) (held done : ℕ) : Type 0 where
  pub ready : Rollable x d p position count
  pub starts_is : starts ≡ x.starts
  pub hazards_is : hazards ≡ x.hazards
  pub discounts_is : discounts ≡ x.discounts
  pub accruals_is : accruals ≡ x.accruals
  pub elapsed_is : elapsed ≡ x.elapsed
  pub paid_is : paid ≡ row_of x (payment_of x)
  pub left_is : Left x position count left
  pub earned_is : earned ≡ grid (suc x.tranches) (suc x.names) (earned_in x.names held left)
  pub most : done ≤ count
  pub defaults : ds ≡ rolled_back x (default_of x) position done d
  pub premiums : ps ≡ rolled_back x (premium_of x) position done p

-- Before the first step: the lists are those of the sheet x, which the pool and its lists tell, and the tables are filled from them.
module _ (pool : Pool) (attachments starts hazards discounts accruals elapsed : List ℕ) (x : Terms)
    (x_is : terms_of pool attachments starts hazards discounts accruals elapsed ≡ x) (a b h v c g : List ℕ) (a_is : a ≡ x.attachments)
    (b_is : b ≡ x.starts) (h_is : h ≡ x.hazards) (v_is : v ≡ x.discounts) (c_is : c ≡ x.accruals) (g_is : g ≡ x.elapsed) where
  points_are : a ≡ attachments
  points_are = a_is ∙ ap (λ y. y.attachments) (sym x_is)

  pub steps_none : (d p paid left before none : List ℕ) (position count : ℕ) → Rollable x d p position count
      → paid ≡ row_of (bare pool a) (payment_of (bare pool a))
      → left ≡ cond (due_in c position count || due_in g position count) (row_of (bare pool a) (outstanding_of (bare pool a))) before
      → length before ≡ row_length x → ((n : ℕ) → get_or before n 0 ≡ 0) → length none ≡ row_length x → ((n : ℕ) → get_or none n 0 ≡ 0)
      → StepsDone x d p position count b h v c g paid left none d p 0 0
  unfolding rolled_back row_of
  steps_none d p paid left before none position count r e f l o z n =
      record {
        ready = r;
        starts_is = b_is;
        hazards_is = h_is;
        discounts_is = v_is;
        accruals_is = c_is;
        elapsed_is = g_is;
        paid_is =
            e ∙ (λ t. row_of (bare pool (points_are t)) (payment_of (bare pool (points_are t))))
            ∙ ap (row_of (bare pool attachments)) (payment_bare pool attachments starts hazards discounts accruals elapsed)
            ∙ (λ t. row_of (x_is t) (payment_of (x_is t)));
        left_is =
            left_filled x r.limits.tranches position count left before l o
            (f ∙ (λ t. cond (due_in (c_is t) position count || due_in (g_is t) position count) (row_of (bare pool (points_are t)) (outstanding_of (bare pool (points_are t)))) before)
            ∙ ap (λ (o : ℕ → ℕ → ℕ). cond (due_in x.accruals position count || due_in x.elapsed position count) (row_of (bare pool attachments) o) before)
            (outstanding_bare pool attachments starts hazards discounts accruals elapsed)
            ∙ (λ t. cond (due_in x.accruals position count || due_in x.elapsed position count) (row_of (x_is t) (outstanding_of (x_is t))) before));
        earned_is = none_earned (suc x.tranches) x.names none left z n;
        most = omega arith;
        defaults = refl;
        premiums = refl;
      }

module _ {x : Terms} {d p : List ℕ} {position count : ℕ} {starts hazards discounts accruals elapsed paid left earned ds ps : List ℕ} {held done : ℕ}
    (g : StepsDone x d p position count starts hazards discounts accruals elapsed paid left earned ds ps held done) where
  pub now_rollable : Rollable x ds ps (position - done) (count - done)
  now_rollable = rw (g.defaults, g.premiums) (rollable_back x d p position count done g.ready g.most)

  -- the step that is next leads to i
  module _ (i : ℕ) (i_is : i ≡ position - (done + 1)) (more : done < count) where
    next_rollable : Rollable x ds ps (suc i) (count - done)
    next_rollable =
        let e : position - done ≡ suc i = omega (arith, g.ready.count_most) in
        rw e at now_rollable

    inside : i < x.steps
    inside = next_rollable.position_most

    -- the table can be filled for the step's fraction
    pub earn_fits : (get_or elapsed i 0 ≤ B) × FallingRows (suc x.tranches) x.names left
    earn_fits = (rw g.elapsed_is (elapsed_most x g.ready.limits i), g.left_is.falling)

    -- the premium added is that of what is outstanding
    accrued_is : (es : List ℕ) → es ≡ tab (length ps) (accrued_at (get_or accruals i 0) left ps)
        → es ≡ tab (length ps) (accrued_at (get_or x.accruals i 0) (row_of x (outstanding_of x)) ps)
    accrued_is es e =
        accrued_left x position count left g.left_is done i more i_is ps es next_rollable.premiums_long (rw g.accruals_is at e)

    -- the table filled so
    abbrev Filled : List ℕ → Type 0
    Filled table = table ≡ grid (suc x.tranches) (suc x.names) (earned_in x.names (get_or elapsed i 0) left)

    -- what it pays is paid on what is outstanding
    earns_is : (table : List ℕ) → Filled table → (j k : ℕ) → j ≤ x.tranches → k < x.names →
        node_in x table j k ≡ elapsed_payment (get_or x.elapsed i 0) (outstanding_of x j k) (outstanding_of x j (suc k))
    unfolding node_in
    earns_is table e j k h m =
        let s : i ≡ position - suc done = omega arith in
        ap (λ (l : List ℕ). entry (suc x.names) l j k) e
        ∙ entry_grid _ _ _ j k (omega arith) (omega arith)
        ∙ node_before x.names (get_or elapsed i 0) left j k m
        ∙ ap (λ (l : List ℕ). elapsed_payment (get_or l i 0) (node_in x left j k) (node_in x left j (suc k))) g.elapsed_is
        ∙ rw s (g.left_is.earns done more j k h m)

    pub premium_low : (n : ℕ) → n < length ps → get_or ps n 0 ≤ 18 * B
    premium_low = premiums_low x g.ready.limits i inside ps next_rollable.premiums_long next_rollable.premiums_most

    -- the starts and the hazards, as the step looks up those of its period
    pub starts_there : (1 ≤ length starts) × (length starts ≤ 16)
    starts_there = rw g.starts_is g.ready.limits.curves.starts

    pub hazards_within : (from : ℕ) → from ≡ period_of starts (i + 1) * x.names → from + x.names ≤ length hazards
    hazards_within from e =
        let f : period_of x.starts (i + 1) * x.names + x.names ≤ length x.hazards = hazards_there x g.ready.limits.curves (i + 1) in
        rw (e, g.starts_is, g.hazards_is) f

    -- those that it is lent
    module _ (into : List ℕ) (into_is : into ≡ hazards_at x.names starts hazards (i + 1)) where
      into_there : into ≡ hazards_into x (suc i)
      into_there = into_is ∙ (λ t. hazards_at x.names (g.starts_is t) (g.hazards_is t) (add-one i t))

      pub roll_fits : RowsFit (suc x.tranches) x.names ds into (get_or discounts i 0) paid
      roll_fits =
          rw (into_there, g.discounts_is)
          (defaults_fit x g.ready.limits i inside ds paid next_rollable.defaults_long next_rollable.defaults_most g.paid_is)

      pub accrued_fits : (es table : List ℕ) → es ≡ tab (length ps) (accrued_at (get_or accruals i 0) left ps) → Filled table
          → RowsFit (suc x.tranches) x.names es into (get_or discounts i 0) table
      accrued_fits es table e f =
          rw (into_there, g.discounts_is)
          (premiums_fit x g.ready.limits i inside ps (row_of x (outstanding_of x)) es table next_rollable.premiums_long
          next_rollable.premiums_most refl (ap length f ∙ length_grid _ _ _) (earns_is table f) (accrued_is es e))

      pub steps_more : (ds' es ps' table : List ℕ)
          → ds' ≡ grid (suc x.tranches) (suc x.names) (rolled_in (suc x.names) into (get_or discounts i 0) paid ds)
          → es ≡ tab (length ps) (accrued_at (get_or accruals i 0) left ps)
          → Filled table
          → ps' ≡ grid (suc x.tranches) (suc x.names) (rolled_in (suc x.names) into (get_or discounts i 0) table es)
          → StepsDone x d p position count starts hazards discounts accruals elapsed paid left table ds' ps' (get_or elapsed i 0) (done + 1)
      unfolding rolled_back
      steps_more ds' es ps' table e f w q =
          let s : i ≡ position - suc done = omega arith in
          record {
            ready = g.ready;
            starts_is = g.starts_is;
            hazards_is = g.hazards_is;
            discounts_is = g.discounts_is;
            accruals_is = g.accruals_is;
            elapsed_is = g.elapsed_is;
            paid_is = g.paid_is;
            left_is = g.left_is;
            earned_is = w;
            most = omega arith;
            defaults =
                rw (add-one done)
                (default_step x g.ready.limits i ds paid ds' g.paid_is (rw (into_there, g.discounts_is) at e)
                ∙ (λ t. rolled x (default_of x) (s t) (g.defaults t)));
            premiums =
                rw (add-one done)
                (premium_step x g.ready.limits i ps (row_of x (outstanding_of x)) es table ps' next_rollable.premiums_long refl (earns_is table w) (accrued_is es f)
                (rw (into_there, g.discounts_is) at q)
                ∙ (λ t. rolled x (premium_of x) (s t) (g.premiums t)));
          }
