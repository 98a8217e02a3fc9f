-- The first test met of a list.
use Rattle.std.proofs.Common.{◌≡◌, refl, sym, ◌∙◌, ap, Bool, true, false, cond, List, [], ◌∷◌, ◌++◌, ◌↔◌, ℕ, arith, Ok, Err}
use Rattle.sheet.specs.Brought.{Brought}
use Rattle.refusals.specs.declared.Refusal.{Refusal}
use Rattle.refusals.specs.Tests.{Test, first, sheet_tests}

pub first_none : first [] ≡ Ok tt
unfolding first
first_none = refl

pub first_met : (b : Bool) (f : Refusal) (l : List Test) → b ≡ true → first ((b, f) ∷ l) ≡ Err f
unfolding first
first_met b f l e = rw e

pub first_passed : (b : Bool) (f : Refusal) (l : List Test) → b ≡ false → first ((b, f) ∷ l) ≡ first l
unfolding first
first_passed b f l e = rw e

-- A list of tests finds nothing just where its head is false and the others find nothing.
pub first_fine : (b : Bool) (f : Refusal) (l : List Test) → (first ((b, f) ∷ l) ≡ Ok tt) ↔ ((b ≡ false) × (first l ≡ Ok tt))
first_fine b f l = (go b refl, λ m. first_passed b f l m.0 ∙ m.1)
  where
    go : (t : Bool) → b ≡ t → first ((b, f) ∷ l) ≡ Ok tt → (b ≡ false) × (first l ≡ Ok tt)
    go false e p = (e, sym (first_passed b f l e) ∙ p)
    go true e p = absurd (let r : first ((b, f) ∷ l) ≡ Err f = first_met b f l e in let z : ◌≡◌ {A = ℕ} 0 1 = cc in omega arith)

-- Tests, and then more.
pub joined_refused : (l more : List Test) (f : Refusal) → first l ≡ Err f → first (l ++ more) ≡ Err f
unfolding first
joined_refused [] more f e = absurd (let z : ◌≡◌ {A = ℕ} 0 1 = cc in omega arith)
joined_refused (t ∷ l) more f e = go t.0 e (joined_refused l more f)
  where
    go : (b : Bool) → cond b (Err t.1) (first l) ≡ Err f → (first l ≡ Err f → first (l ++ more) ≡ Err f) →
        cond b (Err t.1) (first (l ++ more)) ≡ Err f
    go true p r = p
    go false p r = r p

pub joined_fine : (l more : List Test) → first l ≡ Ok tt → first (l ++ more) ≡ first more
unfolding first
joined_fine [] more e = refl
joined_fine (t ∷ l) more e = go t.0 e (joined_fine l more)
  where
    go : (b : Bool) → cond b (Err t.1) (first l) ≡ Ok tt → (first l ≡ Ok tt → first (l ++ more) ≡ first more) →
        cond b (Err t.1) (first (l ++ more)) ≡ first more
    go true p r = absurd (let z : ◌≡◌ {A = ℕ} 0 1 = cc in omega arith)
    go false p r = r p

module _ (x : Brought) (lent : Bool) (more : List Test) where
  sheet_joined : sheet_tests x lent more ≡ sheet_tests x lent [] ++ more
  unfolding sheet_tests
  sheet_joined = refl

  -- Where the checks of a sheet refuse, more tests change nothing.
  pub sheet_refused : (f : Refusal) → first (sheet_tests x lent []) ≡ Err f → first (sheet_tests x lent more) ≡ Err f
  sheet_refused f e = ap first sheet_joined ∙ joined_refused (sheet_tests x lent []) more f e

  -- Where they find nothing, the others decide.
  pub sheet_fine : first (sheet_tests x lent []) ≡ Ok tt → first (sheet_tests x lent more) ≡ first more
  sheet_fine e = ap first sheet_joined ∙ joined_fine (sheet_tests x lent []) more e
