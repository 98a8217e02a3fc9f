-- What is known of a call that passed the first checks of its order, and what it leaves by its last ones.
use Rattle.std.proofs.Common.{ℕ, suc, ◌-◌, ◌*◌, ◌≤◌, ◌<◌, ◌≡◌, refl, sym, ◌∙◌, ap, Bool, true, false, ◌||◌, cond, List, [], ◌∷◌, arith, lt-ltb}
use Rattle.std.proofs.Common.{le-ltb, leb, ltb, eqb, ℤ, nat_abs, length, get_or, Ok, Err}
use borrow.Author.Tests.{lt-leb}
use Rattle.std.specs.declared.result.Result.TheVariants.{Ok, Err}
use Rattle.hedges.specs.declared.NoRatio.TheVariants as NoRatio
use Rattle.hedges.specs.Hedges.{ratio_of, hedge_of}
use Rattle.tree.specs.Sheet.{default_of, premium_of, default_most}
use Rattle.rows.specs.Tables.{tab, grid}
use Rattle.rows.specs.Rows.{row_length, row_of, rolled_back, distribution_row, rows_of}
use Rattle.rows.specs.Rollable.{Rollable}
use Rattle.rows.proofs.Sums.{sum_drop_most}
use Rattle.tranches.proofs.Losses.{width_most}
use Rattle.ceilings.proofs.Found.{unsoiled_rollable, premium_most_low}
use Rattle.sheet.specs.Brought.{Brought}
use Rattle.sheet.specs.Limits.{TranchesWithin}
use Rattle.sheet.proofs.Limits.{limits_terms}
use Rattle.refusals.specs.declared.Refusal.{Refusal}
use Rattle.refusals.specs.Tests.{first, pool_bad}
use Rattle.refusals.proofs.FirstTest.{first_none, first_met, first_passed}
use Rattle.walk.specs.declared.Walk.{Walk}
use Rattle.figures.specs.Answer as Answer
use Rattle.rows.specs.Rows as Lent
use Rattle.figures.specs.Nodes.{jump, Readable}
use Rattle.admission.specs.LentTests.{ten_tests, rows_bad, row_bad}
use Rattle.walk.specs.Calls.{twelve_tests, open_tests, back_tests, value_tests, ratio_tests, forward_tests, zeros, rolls, open_call, back_call, value_call, ratio_call, forward_call}
use Rattle.figures.specs.Replies.{worth}
use Rattle.figures.specs.Replies.{hedge_answer}
use Rattle.walk.proofs.Judging.{stands_fine}
use Rattle.walk.proofs.Ordering.{Opening, OnWay, Forwarding, open_stands, open_holds, twelve_stands, twelve_holds, soiled_fine, forward_stands, forward_holds}
use Rattle.admission.proofs.FirstRefusals.{twelve_refused, twelve_fine, ten_alike, ten_refused, ten_fine}
use Rattle.walk.proofs.OurRules.{not_done, not_forward, open_fine, open_refused, back_fine, back_refused, value_fine, value_refused, ratio_fine, ratio_refused, forward_fine, forward_refused}
use Rattle.hedges.proofs.Jumps.{jump_size}
use Rattle.figures.proofs.Places.{node_figures}

-- ---- past the first ten checks, and open

-- A list of zeros as long as a row is a row of zeros.
zero_row : (x : Brought) (row zs : List ℕ) → length row ≡ row_length x.sheet → zs ≡ tab (length row) (λ i. 0) → zs ≡ row_of x.sheet (λ j k. 0)
unfolding row_of grid
zero_row x row zs long e = e ∙ ap (λ (n : ℕ). tab n (λ i. 0)) long

-- The code tells the lengths of a pool within its limits only.
module _ (x : Brought) (g : List ℕ) (w : Walk) (l : Lent.Rows) (lent : Bool) (same : pool_bad x.sheet ≡ false → lent ≡ rows_bad x g l) where
  open_on : first (open_tests x g l) ≡ first (ten_tests x g lent [])
  unfolding open_tests
  open_on = sym (ten_alike x g lent (rows_bad x g l) [] same)

  pub opening : first (ten_tests x g lent []) ≡ Ok tt → Opening x g l
  opening e = (open_holds x g l).0 ((stands_fine _ _ (open_stands x g l)).0 (open_on ∙ e))

  pub open_not : {f : Refusal} → first (ten_tests x g lent []) ≡ Err f → not_done f w l ≡ open_call x g w l
  open_not e = sym (open_refused x g w l _ (open_on ∙ e))

  pub open_done : first (ten_tests x g lent []) ≡ Ok tt → (ds ps : List ℕ) → ds ≡ tab (length l.defaults) (λ i. 0) → ps ≡ tab (length l.premiums) (λ i. 0) →
      record { answer = Answer.Done; walk = record { «open» = true; number = x.number; position = x.sheet.steps }; rows = rows_of ds ps } ≡ open_call x g w l
  unfolding zeros
  open_done e ds ps d p =
      let fit = (opening e).lent.rows in
      (λ i. record {
        answer = Answer.Done;
        walk = record { «open» = true; number = x.number; position = x.sheet.steps };
        rows = rows_of (zero_row x l.defaults ds fit.defaults d i) (zero_row x l.premiums ps fit.premiums p i);
      })
      ∙ sym (open_fine x g w l (open_on ∙ e))

-- ---- past the first twelve checks

pub on_way : (x : Brought) (g : List ℕ) (w : Walk) (l : Lent.Rows) → first (twelve_tests x g w l []) ≡ Ok tt → OnWay x g w l
on_way x g w l e = ((twelve_holds x g w l []).0 ((stands_fine _ _ (twelve_stands x g w l [] [] tt)).0 e)).0

module _ (x : Brought) (g : List ℕ) (w : Walk) (l : Lent.Rows) (o : OnWay x g w l) where
  pub rollable : (c : ℕ) → c ≤ w.position → Rollable x.sheet l.defaults l.premiums w.position c
  rollable c h =
      unsoiled_rollable x.sheet l.defaults l.premiums w.position c (limits_terms x o.limits) o.lent.rows.defaults
      o.lent.rows.premiums o.walk.position h ((soiled_fine x.sheet w.position l).1 o.clean)

  pub readable : (j k : ℕ) → j ≤ x.sheet.tranches → k ≤ x.sheet.names → Readable x l j k
  unfolding default_most
  readable j k p q =
      record {
        names = o.limits.pool.names.1;
        tranches = o.limits.pool.tranches.1;
        tranche = p;
        count = q;
        default_size = o.lent.rows.defaults;
        premium_size = o.lent.rows.premiums;
        default = omega (arith, o.clean.default j k p q, width_most x.sheet (limits_terms x o.limits).tranches j);
        premium = omega (arith, o.clean.premium j k p q, premium_most_low x.sheet (limits_terms x o.limits) w.position k, sum_drop_most w.position x.sheet.accruals, o.limits.accruals.total);
        coupons = o.lent.lists.2;
        coupon = o.limits.coupons j (omega arith);
      }

-- ---- the last checks of back, value and hedge ratio

module _ (x : Brought) (g : List ℕ) (w : Walk) (l : Lent.Rows) where
  module _ {f : Refusal} (e : first (twelve_tests x g w l []) ≡ Err f) where
    pub back_not : (c : ℕ) → not_done f w l ≡ back_call x g w l c
    unfolding back_tests
    back_not c = sym (back_refused x g w l c f (twelve_refused x g w.«open» w.number w.position l _ e))

    pub value_not : (j k : ℕ) → not_done f w l ≡ value_call x g w l j k
    unfolding value_tests
    value_not j k = sym (value_refused x g w l j k f (twelve_refused x g w.«open» w.number w.position l _ e))

    pub ratio_not : (j k : ℕ) → not_done f w l ≡ ratio_call x g w l j k
    unfolding ratio_tests
    ratio_not j k = sym (ratio_refused x g w l j k f (twelve_refused x g w.«open» w.number w.position l _ e))

  module _ (e : first (twelve_tests x g w l []) ≡ Ok tt) where
    pub back_out : (c : ℕ) → w.position < c → not_done Refusal.OutOfSteps w l ≡ back_call x g w l c
    unfolding back_tests
    back_out c h = sym (back_refused x g w l c _ (twelve_fine x g w.«open» w.number w.position l _ e ∙ first_met _ _ _ (lt-ltb _ _ h)))

    pub back_done : (c : ℕ) → c ≤ w.position → (ds ps : List ℕ) → ds ≡ rolled_back x.sheet (default_of x.sheet) w.position c l.defaults →
        ps ≡ rolled_back x.sheet (premium_of x.sheet) w.position c l.premiums →
        record { answer = Answer.Position (w.position - c); walk = record { «open» = w.«open»; number = w.number; position = w.position - c }; rows = rows_of ds ps }
        ≡ back_call x g w l c
    unfolding back_tests rolls
    back_done c h ds ps d p =
        (λ i. record {
          answer = Answer.Position (w.position - c);
          walk = record { «open» = w.«open»; number = w.number; position = w.position - c };
          rows = rows_of (d i) (p i);
        })
        ∙ sym (back_fine x g w l c (twelve_fine x g w.«open» w.number w.position l _ e ∙ first_passed _ _ _ (le-ltb _ _ h) ∙ first_none))

    pub value_off : (j k : ℕ) → (ltb x.sheet.tranches j || ltb x.sheet.names k) ≡ true → not_done Refusal.OffTree w l ≡ value_call x g w l j k
    unfolding value_tests
    value_off j k h = sym (value_refused x g w l j k _ (twelve_fine x g w.«open» w.number w.position l _ e ∙ first_met _ _ _ h))

    pub value_done : (j k : ℕ) → j ≤ x.sheet.tranches → k ≤ x.sheet.names → record { answer = worth x l j k; walk = w; rows = l } ≡ value_call x g w l j k
    unfolding value_tests
    value_done j k p q = sym (value_fine x g w l j k (twelve_fine x g w.«open» w.number w.position l _ e ∙ first_passed _ _ _ (simp (le-ltb _ _ p, le-ltb _ _ q)) ∙ first_none))

    pub ratio_off : (j k : ℕ) → (ltb x.sheet.tranches j || leb x.sheet.names k) ≡ true → not_done Refusal.OffTree w l ≡ ratio_call x g w l j k
    unfolding ratio_tests
    ratio_off j k h = sym (ratio_refused x g w l j k _ (twelve_fine x g w.«open» w.number w.position l _ e ∙ first_met _ _ _ h))

-- The hedge ratio where its node is on the tree: 15, 16 or the ratio.
module _ (x : Brought) (g : List ℕ) (w : Walk) (l : Lent.Rows) (e : first (twelve_tests x g w l []) ≡ Ok tt) (j k : ℕ) (p : j ≤ x.sheet.tranches) (q : k < x.sheet.names) where
  abbrev own : ℤ
  own = jump x l j k

  abbrev index : ℤ
  index = jump x l x.sheet.tranches k

  on_tree : first (ratio_tests x g w l j k)
      ≡ first ((eqb (nat_abs index) 0, Refusal.FlatHedge) ∷ (leb (1_000_000 * nat_abs index) (nat_abs own), Refusal.OffScale) ∷ [])
  unfolding ratio_tests
  on_tree = twelve_fine x g w.«open» w.number w.position l _ e ∙ first_passed _ _ _ (simp (le-ltb _ _ p, lt-leb _ _ q))

  pub ratio_done : record { answer = hedge_answer (hedge_of own index); walk = w; rows = l } ≡ ratio_call x g w l j k
  unfolding hedge_of
  ratio_done = go (eqb (nat_abs index) 0) refl (leb (1_000_000 * nat_abs index) (nat_abs own)) refl
    where
      go : (a : Bool) → eqb (nat_abs index) 0 ≡ a → (b : Bool) → leb (1_000_000 * nat_abs index) (nat_abs own) ≡ b →
          record { answer = hedge_answer (cond a (Err NoRatio.Flat) (cond b (Err NoRatio.OffScale) (Ok (ratio_of own index)))); walk = w; rows = l } ≡ ratio_call x g w l j k
      go true d b f = sym (ratio_refused x g w l j k _ (on_tree ∙ first_met _ _ _ d))
      go false d true f = sym (ratio_refused x g w l j k _ (on_tree ∙ first_passed _ _ _ d ∙ first_met _ _ _ f))
      go false d false f = sym (ratio_fine x g w l j k (on_tree ∙ first_passed _ _ _ d ∙ first_passed _ _ _ f ∙ first_none))

-- ---- forward

module _ (x : Brought) (g q : List ℕ) (i : ℕ) where
  module _ (lent : Bool) (same : pool_bad x.sheet ≡ false → lent ≡ row_bad x g q) where
    pub judged_not : {f : Refusal} → first (ten_tests x g lent []) ≡ Err f → Err f ≡ first (forward_tests x g q i)
    unfolding forward_tests
    judged_not e = sym (ten_refused x g (row_bad x g q) _ (sym (ten_alike x g lent (row_bad x g q) [] same) ∙ e))

    module _ (e : first (ten_tests x g lent []) ≡ Ok tt) where
      ten_on : first (forward_tests x g q i) ≡ first ((ltb x.sheet.steps i, Refusal.OutOfSteps) ∷ [])
      unfolding forward_tests
      ten_on = ten_fine x g (row_bad x g q) _ (sym (ten_alike x g lent (row_bad x g q) [] same) ∙ e)

      pub judged_out : x.sheet.steps < i → Err Refusal.OutOfSteps ≡ first (forward_tests x g q i)
      judged_out h = sym (ten_on ∙ first_met _ _ _ (lt-ltb _ _ h))

      pub judged_fine : i ≤ x.sheet.steps → (Ok tt) ≡ first (forward_tests x g q i)
      judged_fine h = sym (ten_on ∙ first_passed _ _ _ (le-ltb _ _ h) ∙ first_none)

  pub forward_not : {f : Refusal} → first (forward_tests x g q i) ≡ Err f → not_forward f q ≡ forward_call x g q i
  forward_not e = sym (forward_refused x g q i _ e)

  module _ (e : first (forward_tests x g q i) ≡ Ok tt) where
    pub forwarding : Forwarding x g q i
    forwarding = (forward_holds x g q i).0 ((stands_fine _ _ (forward_stands x g q i)).0 e)

    pub forward_done : (row : List ℕ) → row ≡ distribution_row x.sheet i → record { answer = Answer.Done; row = row } ≡ forward_call x g q i
    forward_done row r = (λ k. record { answer = Answer.Done; row = r k }) ∙ sym (forward_fine x g q i e)

-- ---- how large a jump is

pub jump_few : (x : Brought) (l : Lent.Rows) (j k : ℕ) → TranchesWithin x.sheet → Readable x l j k → Readable x l j (suc k) → nat_abs (jump x l j k) ≤ 200_000_000_000_000_000
unfolding jump
jump_few x l j k t r s = jump_size (get_or x.coupons j 0) _ _ r.coupon (node_figures x l j k t r refl) (node_figures x l j (suc k) t s refl)
