-- The places of the elapsed fractions: zeros until one is entered.
use Rattle.std.proofs.Common.{ℕ, zero, suc, ◌+◌, ◌≤◌, ◌<◌, min, ◌≡◌, refl, sym, ap, ◌∙◌, List, [], ◌∷◌, arith, length, drop, get_or, set, replicate}
use Rattle.std.proofs.Common.{get_or-set_other, get_or-take, get_or-drop, ext_get_or}
use lib.ListN.{length-replicate, get_or-replicate}
use Rattle.sheet.specs.declared.Span.{Span}
use Rattle.sheet.specs.Spans.{list_in, Within}
use Rattle.sheet.proofs.Spans.{list_within, list_long}
use Rattle.entries.specs.Draft.{fractions}
use Rattle.entries.specs.Layouts.{elapsed_at, elapsed_span, brought_span, Blank, stored}

-- zeros at first
zero_at : (n i : ℕ) → ◌≡◌ {A = ℕ} (get_or (replicate n 0) i 0) 0
zero_at zero i = refl
zero_at (suc n) zero = refl
zero_at (suc n) (suc i) = zero_at n i

pub blank_first : (n : ℕ) → Blank (replicate n 0)
blank_first n i behind = zero_at n i

-- a number stored before them
pub blank_set : (k x : ℕ) (numbers : List ℕ) → k < elapsed_at → Blank numbers → Blank (set numbers k x)
blank_set k x numbers h blank i behind = get_or-set_other numbers k i x 0 (λ e. omega (arith, e)) ∙ blank i behind

pub blank_stays : (t : Span) (x : ℕ) (numbers : List ℕ) → t.at + t.length < elapsed_at → Blank numbers → Blank (stored t x numbers)
unfolding stored
blank_stays t x numbers h = blank_set (t.at + t.length) x numbers h

-- a list of them is zeros
zeros : (n : ℕ) (numbers : List ℕ) → n ≤ 3650 → length numbers ≡ elapsed_at + 3650 → Blank numbers → list_in (elapsed_span n) numbers ≡ replicate n 0
zeros n numbers h long blank =
    let inside : Within (elapsed_span n) numbers = omega arith in
    let cut : length (list_in (elapsed_span n) numbers) ≡ n = list_long (elapsed_span n) numbers inside in
    ext_get_or 0 (list_in (elapsed_span n) numbers) (replicate n 0) (cut ∙ sym (length-replicate n 0))
    (λ i q.
    ap (λ (l : List ℕ). get_or l i 0) (list_within (elapsed_span n) numbers inside)
    ∙ get_or-take n (drop elapsed_at numbers) i 0 (omega (arith, cut, q)) ∙ get_or-drop elapsed_at numbers i 0 ∙ blank (elapsed_at + i) (omega arith)
    ∙ sym (get_or-replicate n i 0 0 (omega (arith, cut, q))))

-- fractions that were entered stand for themselves
themselves : (l : List ℕ) (steps : ℕ) → 0 < length l → l ≡ fractions l steps
unfolding fractions
themselves [] steps h = absurd (omega arith)
themselves (e ∷ l) steps h = refl

-- what a call brings
pub brought_at : (entered steps : ℕ) → (brought_span entered steps).at ≡ elapsed_at
unfolding brought_span
brought_at zero steps = refl
brought_at (suc entered) steps = refl

pub brought_as : (entered steps : ℕ) (numbers : List ℕ) → length numbers ≡ elapsed_at + 3650 → entered ≤ 3650 → (entered ≡ 0 → Blank numbers) →
    list_in (brought_span entered steps) numbers ≡ fractions (list_in (elapsed_span entered) numbers) steps
unfolding fractions brought_span
brought_as zero steps numbers long h blank =
    zeros (min steps 3650) numbers (omega arith) long (blank refl)
    ∙ ap (λ (l : List ℕ). fractions l steps) (sym (zeros 0 numbers (omega arith) long (blank refl)))
brought_as (suc entered) steps numbers long h blank =
    let s : Span = elapsed_span (suc entered) in
    themselves (list_in s numbers) steps (omega (arith, list_long s numbers (omega arith)))

-- by the tests whether some were, and whether there is room for the zeros
pub some_entered : (entered steps : ℕ) → (entered ≡ 0 → ⊥) → elapsed_span entered ≡ brought_span entered steps
unfolding brought_span
some_entered zero steps ne = absurd (ne refl)
some_entered (suc entered) steps ne = refl

pub none_entered : (entered steps n : ℕ) → entered ≡ 0 → n ≡ min steps 3650 → elapsed_span n ≡ brought_span entered steps
unfolding brought_span
none_entered zero steps n e q = ap elapsed_span q
none_entered (suc entered) steps n e q = absurd (omega arith)
