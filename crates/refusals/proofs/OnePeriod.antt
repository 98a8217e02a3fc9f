-- One period changes no refusal.
use Rattle.std.proofs.Common.{ℕ, ◌*◌, ◌≡◌, refl, sym, ap, ◌∙◌, Bool, true, false, ◌||◌, List, [], ◌∷◌, one-mul, length, get_or, ltb, le-ltb}
use Rattle.cash.specs.Units.{B}
use Rattle.sheet.specs.Brought.{Brought}
use Rattle.rows.specs.Tables.{any}
use Rattle.rows.proofs.Search.{or_left}
use Rattle.refusals.specs.Tests.{differs, pool_bad, periods_bad, lists_bad, starts_bad, hazards_bad, Test, first, sheet_tests}
use Rattle.refusals.specs.OnePeriod.{steady_lists_bad, steady_hazards_bad, steady_tests, RefusalsSteady}
use Rattle.refusals.proofs.FirstTest.{first_met, first_passed}
use Rattle.refusals.proofs.Meanings.{pool_fine, lists_fine}

module _ (x : Brought) (one : x.sheet.starts ≡ 1 ∷ []) where
  periods_one : periods_bad x.sheet ≡ differs (length x.sheet.hazards) x.sheet.names
  unfolding periods_bad
  periods_one = rw one (ap (differs (length x.sheet.hazards)) (one-mul x.sheet.names))

  lists_one : lists_bad x ≡ steady_lists_bad x
  unfolding lists_bad steady_lists_bad
  lists_one = rw periods_one refl

  starts_one : pool_bad x.sheet ≡ false → starts_bad x.sheet ≡ false
  unfolding starts_bad any
  starts_one fine = rw (one, le-ltb x.sheet.steps 1 ((pool_fine x.sheet).0 fine).steps.0) refl

  hazards_one : lists_bad x ≡ false → hazards_bad x.sheet ≡ steady_hazards_bad x.sheet
  unfolding hazards_bad steady_hazards_bad
  hazards_one fine =
      let e : length x.sheet.hazards ≡ length x.sheet.starts * x.sheet.names = ((lists_fine x).0 fine).1.hazards in
      let f : length x.sheet.starts * x.sheet.names ≡ x.sheet.names = ap (λ (l : List ℕ). length l * x.sheet.names) one ∙ one-mul x.sheet.names in
      ap (λ (n : ℕ). any n (λ k. ltb B (get_or x.sheet.hazards k 0))) (e ∙ f)

  module _ (lent : Bool) (more : List Test) where
    fine_both : pool_bad x.sheet ≡ false → (lists_bad x || lent) ≡ false → first (sheet_tests x lent more) ≡ first (steady_tests x lent more)
    unfolding sheet_tests steady_tests first
    fine_both p q = rw (lists_one, starts_one p, hazards_one (or_left (lists_bad x) lent q)) refl

    steady_of : first (sheet_tests x lent more) ≡ first (steady_tests x lent more)
    unfolding sheet_tests steady_tests
    steady_of = go (pool_bad x.sheet) refl (lists_bad x || lent) refl
      where
        go : (b : Bool) → pool_bad x.sheet ≡ b → (c : Bool) → (lists_bad x || lent) ≡ c → first (sheet_tests x lent more) ≡ first (steady_tests x lent more)
        go true p c q = first_met _ _ _ p ∙ sym (first_met _ _ _ p)
        go false p true q =
            first_passed _ _ _ p ∙ first_met _ _ _ q
            ∙ sym (first_passed _ _ _ p ∙ first_met _ _ _ (ap (λ (b : Bool). b || lent) (sym lists_one) ∙ q))
        go false p false q = fine_both p q

pub refusals_steady : RefusalsSteady
refusals_steady x one lent more = steady_of x one lent more
