-- What the definitions of turns come to, case by case. Assumes nothing.
use borrow.Author.Tests.{lt-leb}
use Rattle.std.proofs.Common.{◌≡◌, refl, sym, ap, ◌∙◌, Bool, true, false, cond, true≢false, List, ◌∷◌, ℕ, zero, suc, ◌+◌, ◌-◌, ◌<◌, ◌≤◌, arith}
use Rattle.std.proofs.Common.{length, get_or, ltb, leb, lt-ltb, le-ltb, le-leb, ltb-true, ltb-false, leb-true, leb-false, Some, None}
use Rattle.std.proofs.lemmas.Option.{cond_some, none-some}
use Rattle.places.specs.Places.{next_place, first_of, chosen, choice, one_off, rests, turn_then, turns_of, any_over, taken}

pub next_more : (n p : ℕ) → p + 1 < n → next_place n p ≡ p + 1
unfolding next_place
next_more n p h = rw (lt-ltb (p + 1) n h)

pub next_wrap : (n p : ℕ) → n ≤ p + 1 → next_place n p ≡ 0
unfolding next_place
next_wrap n p h = rw (le-ltb (p + 1) n h)

pub sub_suc : (n k : ℕ) → k < n → n - k ≡ suc (n - (k + 1))
sub_suc n k h = omega arith

module _ (l : List ℕ) (p : ℕ) where
  pub first_hit : (k : ℕ) → 0 < get_or l (next_place (length l) p) 0 → first_of l p (suc k) ≡ next_place (length l) p
  unfolding first_of
  first_hit k h = rw (lt-ltb 0 (get_or l (next_place (length l) p) 0) h)

  pub first_miss : (k : ℕ) → get_or l (next_place (length l) p) 0 ≤ 0 → first_of l p (suc k) ≡ first_of l (next_place (length l) p) k
  unfolding first_of
  first_miss k h = rw (le-ltb 0 (get_or l (next_place (length l) p) 0) h)

  pub turns_stop : (m : ℕ) → length l ≤ chosen l p → turns_of l p m ≡ rests l p
  unfolding turns_of
  turns_stop zero h = refl
  turns_stop (suc m) h = rw (le-ltb (chosen l p) (length l) h)

  pub turns_go : (m : ℕ) → chosen l p < length l → turns_of l p (suc m) ≡ turn_then (chosen l p) (turns_of (one_off l (chosen l p)) (chosen l p) m)
  unfolding turns_of
  turns_go m h = rw (lt-ltb (chosen l p) (length l) h)

pub over_hit : (x : ℕ) (l : List ℕ) (max : ℕ) → max < x → any_over (x ∷ l) max ≡ true
unfolding any_over
over_hit x l max h = rw (lt-ltb max x h)

pub over_miss : (x : ℕ) (l : List ℕ) (max : ℕ) → x ≤ max → any_over (x ∷ l) max ≡ any_over l max
unfolding any_over
over_miss x l max h = rw (le-ltb max x h)

pub next_below : (n p : ℕ) → p < n → next_place n p < n
next_below n p h = by_case n p h (ltb (p + 1) n) refl
  where
    by_case : (n p : ℕ) → p < n → (t : Bool) → ltb (p + 1) n ≡ t → next_place n p < n
    by_case n p h true e = rw (next_more n p (ltb-true (p + 1) n e)) (ltb-true (p + 1) n e)
    by_case n p h false e = rw (next_wrap n p (ltb-false (p + 1) n e)) (omega arith)

-- The search so far: k places are passed, and p is the last of them.
module _ (l : List ℕ) (last p k r : ℕ) (so_far : chosen l last ≡ first_of l p (length l - k)) (step : r ≡ next_place (length l) p) where
  chosen_hit : k < length l → 0 < get_or l r 0 → chosen l last ≡ r
  chosen_hit h some =
      so_far ∙ ap (first_of l p) (sub_suc (length l) k h) ∙ first_hit l p (length l - (k + 1)) (rw step at some) ∙ sym step

  pub choice_hit : k < length l → 0 < get_or l r 0 → r < length l → Some r ≡ choice l last
  choice_hit h some below = rw (chosen_hit h some, lt-ltb r (length l) below)

  pub chosen_on : k < length l → get_or l r 0 ≤ 0 → chosen l last ≡ first_of l r (length l - (k + 1))
  chosen_on h none = so_far ∙ ap (first_of l p) (sub_suc (length l) k h) ∙ first_miss l p (length l - (k + 1)) (rw step at none)
      ∙ ap (λ (x : ℕ). first_of l x (length l - (k + 1))) (sym step)

pub choice_ends : (l : List ℕ) (last p k : ℕ) → chosen l last ≡ first_of l p (length l - k) → length l ≤ k → None ≡ choice l last
unfolding first_of
choice_ends l last p k e h =
    let none : chosen l last ≡ length l = e ∙ ap (first_of l p) (let z : length l - k ≡ 0 = omega arith in z) in
    rw (none, le-ltb (length l) (length l) (omega arith))

pub chosen_starts : (l : List ℕ) (last : ℕ) → chosen l last ≡ first_of l last (length l - 0)
unfolding chosen
chosen_starts l last = ap (first_of l last) (let z : length l ≡ length l - 0 = omega arith in z)

-- What a choice tells.
module _ (l : List ℕ) (last : ℕ) where
  pub of_some : (p : ℕ) → Some p ≡ choice l last → (p ≡ chosen l last) × (p < length l)
  of_some p e = let h = cond_some _ _ _ (sym e) in (sym h.1, rw h.1 at (ltb-true _ _ h.0))

  pub of_none : None ≡ choice l last → length l ≤ chosen l last
  of_none e = by_case (ltb (chosen l last) (length l)) refl e
    where
      by_case : (t : Bool) → ltb (chosen l last) (length l) ≡ t → None ≡ cond t (Some (chosen l last)) None → length l ≤ chosen l last
      by_case true h none = absurd (none-some _ none)
      by_case false h none = ltb-false _ _ h

-- Taken or not, test by test.
module _ (l : List ℕ) (place room : ℕ) where
  pub taken_empty : length l < 1 → false ≡ taken l place room
  unfolding taken
  taken_empty h = rw (lt-ltb (length l) 1 h)

  pub taken_long : 1 ≤ length l → 16 < length l → false ≡ taken l place room
  unfolding taken
  taken_long a h = rw (le-ltb (length l) 1 a, lt-ltb 16 (length l) h)

  pub taken_outside : 1 ≤ length l → length l ≤ 16 → length l ≤ place → false ≡ taken l place room
  unfolding taken
  taken_outside a b h = rw (le-ltb (length l) 1 a, le-ltb 16 (length l) b, le-leb (length l) place h)

  pub taken_over : 1 ≤ length l → length l ≤ 16 → place < length l → any_over l 3650 ≡ true → false ≡ taken l place room
  unfolding taken
  taken_over a b c h = rw (le-ltb (length l) 1 a, le-ltb 16 (length l) b, lt-leb (length l) place c, h)

  pub taken_room : 1 ≤ length l → length l ≤ 16 → place < length l → any_over l 3650 ≡ false → leb room 65535 ≡ taken l place room
  unfolding taken
  taken_room a b c h = rw (le-ltb (length l) 1 a, le-ltb 16 (length l) b, lt-leb (length l) place c, h)

-- A test that must fail, and one more that must hold.
fails : (a b : Bool) → cond a false b ≡ true → a ≡ false
fails true b e = absurd (true≢false (sym e))
fails false b e = refl

holds : (a b : Bool) → cond a false b ≡ true → b ≡ true
holds true b e = absurd (true≢false (sym e))
holds false b e = e

-- What a call that is taken has.
pub record Fine (l : List ℕ) (place room : ℕ) : Type 0 where
  pub some : 1 ≤ length l
  pub few : length l ≤ 16
  pub inside : place < length l
  pub steps : any_over l 3650 ≡ false
  pub short : room ≤ 65535

pub fine : (l : List ℕ) (place room : ℕ) → taken l place room ≡ true → Fine l place room
unfolding taken
fine l place room e =
    let r1 = holds (ltb (length l) 1) _ e in
    let r2 = holds (ltb 16 (length l)) _ r1 in
    let r3 = holds (leb (length l) place) _ r2 in
    record {
      some = ltb-false _ _ (fails (ltb (length l) 1) _ e);
      few = ltb-false _ _ (fails (ltb 16 (length l)) _ r1);
      inside = leb-false _ _ (fails (leb (length l) place) _ r2);
      steps = fails (any_over l 3650) _ r3;
      short = leb-true _ _ (holds (any_over l 3650) _ r3);
    }

pub is_taken : (l : List ℕ) (place room : ℕ) → Fine l place room → taken l place room ≡ true
is_taken l place room f = sym (taken_room l place room f.some f.few f.inside f.steps) ∙ le-leb room 65535 f.short
