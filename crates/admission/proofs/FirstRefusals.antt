-- The first refusal of the checks 1 to 12, check by check.
use Rattle.std.proofs.Common.{◌≡◌, refl, sym, ◌∙◌, ap, Bool, true, false, List, [], ◌∷◌, ◌++◌, ℕ}
use Rattle.std.specs.Prelude.{Result, Ok, Err, ⊤}
use Rattle.rows.specs.Rows.{soiled, Rows}
use Rattle.register.specs.declared.answers.Status.{Status}
use Rattle.register.specs.Register.{status_in}
use Rattle.sheet.specs.Brought.{Brought}
use Rattle.refusals.specs.declared.Refusal.{Refusal}
use Rattle.refusals.specs.Tests.{Test, first, pool_bad, sheet_tests}
use Rattle.refusals.proofs.FirstTest.{joined_refused, joined_fine, sheet_refused, sheet_fine, first_none, first_met, first_passed}
use Rattle.admission.specs.LentTests.{is_withdrawn, is_unissued, rows_bad, off_walk, ten_tests, walk_tests}

-- Of a pool outside its limits the other lengths tell nothing.
pub lent_alike : (x : Brought) (s t : Bool) (more : List Test) → (pool_bad x.sheet ≡ false → s ≡ t) → first (sheet_tests x s more) ≡ first (sheet_tests x t more)
unfolding sheet_tests
lent_alike x s t more e = go (pool_bad x.sheet) refl
  where
    go : (b : Bool) → pool_bad x.sheet ≡ b → first (sheet_tests x s more) ≡ first (sheet_tests x t more)
    go true p = first_met _ _ _ p ∙ sym (first_met _ _ _ p)
    go false p = ap (λ (b : Bool). first (sheet_tests x b more)) (e p)

-- What checks 9 and 10 find of a number's status, and then the rest.
abbrev pub by_status : Status → Result ⊤ Refusal → Result ⊤ Refusal
by_status Status.Withdrawn rest = Err Refusal.Withdrawn
by_status Status.Unissued rest = Err Refusal.Unissued
by_status Status.Live rest = rest

module _ (x : Brought) (g : List ℕ) (lent : Bool) where
  pub ten_sheet : (f : Refusal) (more : List Test) → first (sheet_tests x lent []) ≡ Err f → first (ten_tests x g lent more) ≡ Err f
  unfolding ten_tests
  ten_sheet f more e = sheet_refused x lent _ f e

  pub ten_status : (more : List Test) → first (sheet_tests x lent []) ≡ Ok tt → {s : Status} → status_in g x.number ≡ s → first (ten_tests x g lent more) ≡ by_status s (first more)
  unfolding ten_tests
  ten_status more e {s} p = sheet_fine x lent _ e ∙ ap (λ (s : Status). first ((is_withdrawn s, Refusal.Withdrawn) ∷ (is_unissued s, Refusal.Unissued) ∷ more)) p ∙ go s
    where
      go : (s : Status) → first ((is_withdrawn s, Refusal.Withdrawn) ∷ (is_unissued s, Refusal.Unissued) ∷ more) ≡ by_status s (first more)
      go Status.Withdrawn = first_met _ _ _ refl
      go Status.Unissued = first_passed _ _ _ refl ∙ first_met _ _ _ refl
      go Status.Live = first_passed _ _ _ refl ∙ first_passed _ _ _ refl

  module _ (more : List Test) where
    ten_joined : ten_tests x g lent more ≡ ten_tests x g lent [] ++ more
    unfolding ten_tests sheet_tests
    ten_joined = refl

    pub ten_refused : {f : Refusal} → first (ten_tests x g lent []) ≡ Err f → first (ten_tests x g lent more) ≡ Err f
    ten_refused e = ap first ten_joined ∙ joined_refused _ more _ e

    pub ten_fine : first (ten_tests x g lent []) ≡ Ok tt → first (ten_tests x g lent more) ≡ first more
    ten_fine e = ap first ten_joined ∙ joined_fine _ more e

  pub ten_alike : (t : Bool) (more : List Test) → (pool_bad x.sheet ≡ false → lent ≡ t) → first (ten_tests x g lent more) ≡ first (ten_tests x g t more)
  unfolding ten_tests
  ten_alike t more e = lent_alike x lent t _ e

-- ---- checks 11 and 12 behind the first ten

module _ (x : Brought) (g : List ℕ) (is_open : Bool) (number position : ℕ) (l : Rows) (lent : Bool) (same : pool_bad x.sheet ≡ false → lent ≡ rows_bad x g l) where
  pub twelve_ten : {f : Refusal} → first (ten_tests x g lent []) ≡ Err f → first (walk_tests x g is_open number position l []) ≡ Err f
  unfolding walk_tests
  twelve_ten e = ten_refused x g (rows_bad x g l) _ (sym (ten_alike x g lent (rows_bad x g l) [] same) ∙ e)

  module _ (e : first (ten_tests x g lent []) ≡ Ok tt) where
    twelve_on : first (walk_tests x g is_open number position l []) ≡ first ((off_walk x is_open number position, Refusal.NoWalk) ∷ (soiled x.sheet position l.defaults l.premiums, Refusal.OverCeiling) ∷ [])
    unfolding walk_tests
    twelve_on = ten_fine x g (rows_bad x g l) _ (sym (ten_alike x g lent (rows_bad x g l) [] same) ∙ e)

    pub twelve_walk : off_walk x is_open number position ≡ true → first (walk_tests x g is_open number position l []) ≡ Err Refusal.NoWalk
    twelve_walk b = twelve_on ∙ first_met _ _ _ b

    pub twelve_over : off_walk x is_open number position ≡ false → soiled x.sheet position l.defaults l.premiums ≡ true → first (walk_tests x g is_open number position l []) ≡ Err Refusal.OverCeiling
    twelve_over b s = twelve_on ∙ first_passed _ _ _ b ∙ first_met _ _ _ s

    pub twelve_clean : off_walk x is_open number position ≡ false → soiled x.sheet position l.defaults l.premiums ≡ false → first (walk_tests x g is_open number position l []) ≡ Ok tt
    twelve_clean b s = twelve_on ∙ first_passed _ _ _ b ∙ first_passed _ _ _ s ∙ first_none

module _ (x : Brought) (g : List ℕ) (is_open : Bool) (number position : ℕ) (l : Rows) (more : List Test) where
  twelve_joined : walk_tests x g is_open number position l more ≡ walk_tests x g is_open number position l [] ++ more
  unfolding walk_tests ten_tests sheet_tests
  twelve_joined = refl

  pub twelve_refused : {f : Refusal} → first (walk_tests x g is_open number position l []) ≡ Err f → first (walk_tests x g is_open number position l more) ≡ Err f
  twelve_refused e = ap first twelve_joined ∙ joined_refused _ more _ e

  pub twelve_fine : first (walk_tests x g is_open number position l []) ≡ Ok tt → first (walk_tests x g is_open number position l more) ≡ first more
  twelve_fine e = ap first twelve_joined ∙ joined_fine _ more e
