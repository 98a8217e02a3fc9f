-- The search for a fraction above the accrual of the next premium date, from the last step down.
use Rattle.std.proofs.Common.{ℕ, zero, suc, ◌-◌, ◌≤◌, ◌<◌, ◌≡◌, refl, sym, ap, ◌∙◌, Bool, false, List, [], ◌∷◌, arith, length, get_or, drop}
use Rattle.std.proofs.Common.{drop-cons, ltb}
use native.Mathlib.Decide.{dec_lt}
use lib.Seq.{drop-length}
use Rattle.sheet.specs.Dates.{next_accrual}
use Rattle.rows.specs.Tables.{any}
use Rattle.rows.proofs.Search.{any_missed}
use Rattle.refusals.proofs.Judged.{any_fine, most_fine}

-- The fraction of step i + 1 is above that accrual.
abbrev pub over_next : List ℕ → List ℕ → ℕ → Bool
over_next accruals elapsed i = ltb (next_accrual (drop i accruals)) (get_or elapsed i 0)

-- ---- a step, and the next date after it

pub next_here : (a next : ℕ) → (a ≡ 0 → ⊥) → a ≡ next_accrual (a ∷ next ∷ [])
unfolding next_accrual
next_here zero next h = absurd (h refl)
next_here (suc a) next h = refl

alone : (next : ℕ) → next ≡ next_accrual (next ∷ [])
unfolding next_accrual
alone zero = refl
alone (suc n) = refl

pub next_after : (a next : ℕ) → a ≡ 0 → next ≡ next_accrual (a ∷ next ∷ [])
unfolding next_accrual
next_after a next e = rw e (alone next)

next_join : (a : ℕ) (later : List ℕ) → next_accrual (a ∷ next_accrual later ∷ []) ≡ next_accrual (a ∷ later)
unfolding next_accrual
next_join zero later = sym (alone (next_accrual later))
next_join (suc a) later = refl

pub next_none : (l : List ℕ) {n : ℕ} → length l ≡ n → 0 ≡ next_accrual (drop n l)
unfolding next_accrual
next_none l e = rw (← e, drop-length l)

-- One step down.
pub next_down : (l : List ℕ) (i next : ℕ) {r : ℕ} → 0 < i → i ≤ length l → next ≡ next_accrual (drop i l) →
    r ≡ next_accrual (get_or l (i - 1) 0 ∷ next ∷ []) → r ≡ next_accrual (drop (i - 1) l)
next_down l i next h q e p =
    let s : suc (i - 1) ≡ i = omega arith in
    let here : drop (i - 1) l ≡ get_or l (i - 1) 0 ∷ drop i l = rw s at (drop-cons l (i - 1) 0 (omega arith)) in
    p ∙ ap (λ (n : ℕ). next_accrual (get_or l (i - 1) 0 ∷ n ∷ [])) e ∙ next_join _ (drop i l) ∙ ap next_accrual (sym here)

-- ---- the tests from i on, none of them met

abbrev pub Clear : (ℕ → Bool) → ℕ → ℕ → Type 0
Clear f n i = (k : ℕ) → i ≤ k → k < n → f k ≡ false

pub clear_none : (f : ℕ → Bool) (n : ℕ) → Clear f n n
clear_none f n k p q = absurd (omega arith)

pub clear_down : (f : ℕ → Bool) (n i : ℕ) → Clear f n i → f (i - 1) ≡ false → Clear f n (i - 1)
clear_down f n i p e k h q = go (dec_lt k i)
  where
    go : Dec (k < i) → f k ≡ false
    go (no m) = p k (omega arith) q
    go (yes m) = let s : i - 1 ≡ k = omega arith in rw s at e

pub clear_all : (f : ℕ → Bool) (n i : ℕ) → i ≤ 0 → Clear f n i → false ≡ any n f
clear_all f n i h p = sym (any_missed n f (λ k q. p k (omega arith) q))

-- A fraction of 0 is above no accrual.
pub zeros_clear : (accruals elapsed : List ℕ) → any (length elapsed) (λ i. ltb 0 (get_or elapsed i 0)) ≡ false →
    any (length elapsed) (over_next accruals elapsed) ≡ false
zeros_clear accruals elapsed e =
    (any_fine (length elapsed) (λ i. most_fine (next_accrual (drop i accruals)) (get_or elapsed i 0))).1
    (λ i h. let z : get_or elapsed i 0 ≤ 0 = (any_fine (length elapsed) (λ i. most_fine 0 (get_or elapsed i 0))).0 e i h in omega arith)
