-- A call part way: what the loop of `fill` keeps, and what its ends come to. Assumes nothing.
use Rattle.std.proofs.Common.{◌≡◌, refl, sym, ap, ◌∙◌, Bool, true, false, List, [], ◌∷◌, ◌++◌, append_assoc, append-nil, ℕ, zero, suc, ◌+◌, ◌-◌, ◌<◌}
use Rattle.std.proofs.Common.{◌≤◌, arith, add-one, length, get_or, set, take, drop, length-set, take-append-drop, take-suc-set, drop-set-lt}
use Rattle.std.proofs.Common.{drop-drop, length-take-le, ltb, lt-ltb, le-ltb, ltb-true, ltb-false, Some, None, Result, Ok, Err}
use Rattle.places.specs.declared.Served.{Served}
use Rattle.places.specs.declared.NotTaken.{NotTaken}
use Rattle.places.specs.Places.{next_place, first_of, chosen, choice, one_off, Stretch, rests, turn_then, turns_of, taken}
use Rattle.places.specs.Places.{Outcome, fills, as_lent, served, among_first, served_first}
use Rattle.places.proofs.Laws.{turns_stop, turns_go, sub_suc, first_hit, first_miss, of_some, of_none, fine}

pub first_none : (l : List ℕ) (p : ℕ) → first_of l p 0 < length l → ⊥
unfolding first_of
first_none l p h = omega arith

first_case : (l : List ℕ) (p k : ℕ) → first_of l p (suc k) < length l →
    (first_of l (next_place (length l) p) k < length l → 1 ≤ get_or l (first_of l (next_place (length l) p) k) 0) → (t : Bool) →
    ltb 0 (get_or l (next_place (length l) p) 0) ≡ t → 1 ≤ get_or l (first_of l p (suc k)) 0
first_case l p k h later true e = let some : 0 < get_or l (next_place (length l) p) 0 = ltb-true 0 _ e in rw (first_hit l p k some) some
first_case l p k h later false e = let same = first_miss l p k (ltb-false 0 _ e) in rw same (later (rw same at h))

pub first_some : (l : List ℕ) (p k : ℕ) → first_of l p k < length l → 1 ≤ get_or l (first_of l p k) 0
first_some l p zero h = absurd (first_none l p h)
first_some l p (suc k) h = first_case l p k h (λ g. first_some l (next_place (length l) p) k g) (ltb 0 (get_or l (next_place (length l) p) 0)) refl

pub chosen_some : (l : List ℕ) (s : ℕ) → chosen l s < length l → 1 ≤ get_or l (chosen l s) 0
unfolding chosen
chosen_some l s h = first_some l s (length l) h

pub served_refused : (l : List ℕ) (s : ℕ) (list : List ℕ) → taken l s (length list) ≡ false → served l s list ≡ as_lent l list
unfolding served
served_refused l s list e = rw e

pub served_taken : (l : List ℕ) (s : ℕ) (list : List ℕ) → taken l s (length list) ≡ true → served l s list ≡ fills list (turns_of l s (length list))
unfolding served
served_taken l s list e = rw e

module _ (l₀ : List ℕ) (s₀ : ℕ) (list₀ : List ℕ) where
  pub record Mid (l list : List ℕ) (s i : ℕ) : Type 0 where
    pub accepted : taken l₀ s₀ (length list₀) ≡ true
    pub same : length l ≡ length l₀
    pub room : length list ≡ length list₀
    pub within : i ≤ length list
    pub inside : s < length l
    pub lefts : (turns_of l₀ s₀ (length list₀)).left ≡ (turns_of l s (length list - i)).left
    pub lasts : (turns_of l₀ s₀ (length list₀)).last ≡ (turns_of l s (length list - i)).last
    pub places : (turns_of l₀ s₀ (length list₀)).places ≡ take i list ++ (turns_of l s (length list - i)).places
    pub kept : drop i list ≡ drop i list₀

  abbrev pub Ended : Result Served NotTaken → List ℕ → List ℕ → Type 0
  Ended r l list = (r ≡ (served l₀ s₀ list₀).answer) × ((l ≡ (served l₀ s₀ list₀).left) × (list ≡ (served l₀ s₀ list₀).list))

pub mid_start : (l : List ℕ) (s : ℕ) (list : List ℕ) → taken l s (length list) ≡ true → Mid l s list l list s 0
mid_start l s list e = record {
  accepted = e;
  same = refl;
  room = refl;
  within = omega arith;
  inside = (fine l s (length list) e).inside;
  lefts = ap (λ (m : ℕ). (turns_of l s m).left) all;
  lasts = ap (λ (m : ℕ). (turns_of l s m).last) all;
  places = ap (λ (m : ℕ). (turns_of l s m).places) all;
  kept = refl;
}
  where
    all : length list ≡ length list - 0
    all = omega arith

module _ {l₀ : List ℕ} {s₀ : ℕ} {list₀ : List ℕ} where
  pub mid_step : (l list : List ℕ) (s i p : ℕ) → Mid l₀ s₀ list₀ l list s i → i < length list₀ → Some p ≡ choice l s →
      Mid l₀ s₀ list₀ (set l p (get_or l p 0 - 1)) (set list i p) p (i + 1)
  mid_step l list s i p m below found = record {
    accepted = m.accepted;
    same = length-set l p _ ∙ m.same;
    room = length-set list i p ∙ m.room;
    within = rw length-set (omega arith);
    inside = rw length-set small;
    lefts = m.lefts ∙ ap (λ (r : Stretch). r.left) steps;
    lasts = m.lasts ∙ ap (λ (r : Stretch). r.last) steps;
    places = m.places ∙ ap (λ (r : Stretch). take i list ++ r.places) steps ∙ sym (append_assoc (take i list) (p ∷ []) _)
        ∙ ap (λ (t : List ℕ). t ++ (turns_of (one_off l p) p (length (set list i p) - (i + 1))).places) one_more;
    kept = drop-set-lt (i + 1) list i p (omega arith) ∙ sym (drop-drop 1 i list) ∙ ap (drop 1) m.kept ∙ drop-drop 1 i list₀;
  }
    where
      h : i < length list
      h = omega (arith, m.room)

      e : p ≡ chosen l s
      e = (of_some l s p found).0

      small : p < length l
      small = (of_some l s p found).1

      steps : turns_of l s (length list - i) ≡ turn_then p (turns_of (one_off l p) p (length (set list i p) - (i + 1)))
      steps =
          ap (turns_of l s) (sub_suc (length list) i h) ∙ turns_go l s (length list - (i + 1)) (rw e at small) ∙
          ap (λ (x : ℕ). turn_then x (turns_of (one_off l x) x (length list - (i + 1)))) (sym e)
          ∙ ap (λ (k : ℕ). turn_then p (turns_of (one_off l p) p (k - (i + 1)))) (sym (length-set list i p))

      one_more : take i list ++ (p ∷ []) ≡ take (i + 1) (set list i p)
      one_more = sym (ap (λ (k : ℕ). take k (set list i p)) (add-one i) ∙ take-suc-set list i p h)

  pub mid_stop : (l list : List ℕ) (s i : ℕ) → Mid l₀ s₀ list₀ l list s i → turns_of l s (length list - i) ≡ rests l s →
      Ended l₀ s₀ list₀ (Ok (record { count = i; last = s })) l list
  mid_stop l list s i m e = (
    ap (λ (k : ℕ). answered k s) (sym many)
        ∙ ap (λ (t : ℕ). answered (length R.places) t) (sym (m.lasts ∙ ap (λ (r : Stretch). r.last) e))
        ∙ ap (λ (x : Outcome). x.answer) (sym good),
    (
      sym (m.lefts ∙ ap (λ (r : Stretch). r.left) e) ∙ ap (λ (x : Outcome). x.left) (sym good),
      sym (take-append-drop i list) ∙ ap (λ (t : List ℕ). t ++ drop i list) (sym are) ∙ ap (λ (t : List ℕ). R.places ++ t) m.kept
          ∙ ap (λ (k : ℕ). R.places ++ drop k list₀) (sym many) ∙ ap (λ (x : Outcome). x.list) (sym good),
    ),
  )
    where
      answered : ℕ → ℕ → Result Served NotTaken
      answered k t = Ok (record { count = k; last = t })

      R : Stretch
      R = turns_of l₀ s₀ (length list₀)

      good : served l₀ s₀ list₀ ≡ fills list₀ R
      good = served_taken l₀ s₀ list₀ m.accepted

      are : R.places ≡ take i list
      are = m.places ∙ ap (λ (r : Stretch). take i list ++ r.places) e ∙ append-nil (take i list)

      many : length R.places ≡ i
      many = ap length are ∙ length-take-le i list m.within

  -- The list is full, or no walk has steps left.
  pub mid_full : (l list : List ℕ) (s i : ℕ) → Mid l₀ s₀ list₀ l list s i → length list₀ ≤ i →
      Ended l₀ s₀ list₀ (Ok (record { count = length list₀; last = s })) l list
  unfolding turns_of
  mid_full l list s i m h =
      let full : i ≡ length list₀ = omega (arith, m.room, m.within) in
      rw full at (mid_stop l list s i m (ap (turns_of l s) (let z : length list - i ≡ 0 = omega arith in z)))

  pub mid_none : (l list : List ℕ) (s i : ℕ) → Mid l₀ s₀ list₀ l list s i → None ≡ choice l s →
      Ended l₀ s₀ list₀ (Ok (record { count = i; last = s })) l list
  mid_none l list s i m e = mid_stop l list s i m (turns_stop l s (length list - i) (of_none l s e))

  -- A place that was chosen.
  module _ (l list : List ℕ) (s i p : ℕ) (m : Mid l₀ s₀ list₀ l list s i) (found : Some p ≡ choice l s) where
    pub chosen_few : p < 16
    chosen_few = omega (arith, (of_some l s p found).1, (fine l₀ s₀ (length list₀) m.accepted).few, m.same)

    pub chosen_left : 1 ≤ get_or l p 0
    chosen_left = let h = of_some l s p found in rw h.0 (chosen_some l s (rw h.0 at h.1))

-- ---- the three equations of a refused call, and of one among sixteen numbers

abbrev pub Says : Outcome → Result Served NotTaken → List ℕ → List ℕ → Type 0
Says o r left list = (r ≡ o.answer) × ((left ≡ o.left) × (list ≡ o.list))

pub says_of : {o x : Outcome} → x ≡ o → Says o x.answer x.left x.list
says_of {o} {x} e = (ap (λ (y : Outcome). y.answer) e, (ap (λ (y : Outcome). y.left) e, ap (λ (y : Outcome). y.list) e))

pub says_refused : (l : List ℕ) (s : ℕ) (list : List ℕ) → taken l s (length list) ≡ false → Says (served l s list) (Err (record {})) l list
says_refused l s list e = says_of (sym (served_refused l s list e))

module _ (l : List ℕ) (n s : ℕ) (list : List ℕ) where
  pub first_long : 16 < n → served_first l n s list ≡ as_lent l list
  unfolding served_first
  first_long h = rw (lt-ltb 16 n h)

  pub first_short : n ≤ 16 → served_first l n s list ≡ among_first n l (served (take n l) s list)
  unfolding served_first
  first_short h = rw (le-ltb 16 n h)

  pub says_long : 16 < n → Says (served_first l n s list) (Err (record {})) l list
  says_long h = says_of (sym (first_long h))

  pub says_short : n ≤ 16 → (r : Result Served NotTaken) (front list₁ : List ℕ) → Says (served (take n l) s list) r front list₁ →
      Says (served_first l n s list) r (front ++ drop n l) list₁
  says_short h r front list₁ e =
      let w = says_of (sym (first_short h)) in
      (e.0 ∙ w.0, (ap (λ (x : List ℕ). x ++ drop n l) e.1.0 ∙ w.1.0, e.1.1 ∙ w.1.1))

-- ---- lengths

turns_length_at : (l : List ℕ) (s m : ℕ) →
    (chosen l s < length l → length (turns_of (one_off l (chosen l s)) (chosen l s) m).left ≡ length (one_off l (chosen l s))) →
    (t : Bool) → ltb (chosen l s) (length l) ≡ t → length (turns_of l s (suc m)).left ≡ length l
turns_length_at l s m ih true e =
    let h = ltb-true _ _ e in
    ap (λ (r : Stretch). length r.left) (turns_go l s m h) ∙ ih h ∙ length-set l (chosen l s) _
turns_length_at l s m ih false e = ap (λ (r : Stretch). length r.left) (turns_stop l s (suc m) (ltb-false _ _ e))

pub turns_length : (l : List ℕ) (s m : ℕ) → length (turns_of l s m).left ≡ length l
unfolding turns_of
turns_length l s zero = refl
turns_length l s (suc m) = turns_length_at l s m (λ h. turns_length (one_off l (chosen l s)) (chosen l s) m) (ltb (chosen l s) (length l)) refl

served_length_at : (l : List ℕ) (s : ℕ) (list : List ℕ) (t : Bool) → taken l s (length list) ≡ t → length (served l s list).left ≡ length l
served_length_at l s list true e = ap (λ (o : Outcome). length o.left) (served_taken l s list e) ∙ turns_length l s (length list)
served_length_at l s list false e = ap (λ (o : Outcome). length o.left) (served_refused l s list e)

pub served_length : (l : List ℕ) (s : ℕ) (list : List ℕ) → length (served l s list).left ≡ length l
served_length l s list = served_length_at l s list (taken l s (length list)) refl
