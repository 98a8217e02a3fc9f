-- Turns in cyclic order are fair: what `places` serves, over any number of turns. Assumes nothing.
use Rattle.std.proofs.Common.{◌≡◌, refl, sym, ap, ◌∙◌, Bool, true, false, List, [], ◌∷◌, ◌++◌, ℕ, zero, suc, ◌+◌, ◌-◌, ◌<◌, ◌≤◌, arith, zero-add}
use Rattle.std.proofs.Common.{suc-add, length, get_or, length-set, get_or-set_same, get_or-set_other, ltb, ltb-true, ltb-false, eq-eqb, ne_eqb}
use lib.ListN.{get_or-eq_default}
use Rattle.places.specs.Places.{next_place, first_of, chosen, one_off, Stretch, rests, turns_of}
use Rattle.places.proofs.Laws.{next_below, first_hit, first_miss, turns_stop, turns_go}
use Rattle.places.proofs.Partway.{first_none, first_some, chosen_some}
use Rattle.rounds.specs.Rounds.{ahead, turns_at}
use Rattle.rounds.proofs.Cycle.{Cmp, below, above, cmp, Same, same, other, same?, rank, ahead_some, ahead_on, ahead_next, behind_last}
use Rattle.rounds.proofs.Cycle.{between, ends_round, rank_tells, first_rank, ahead_most}

-- ---- counting turns
pub at_same : (q x : ℕ) (l : List ℕ) → q ≡ x → turns_at q (x ∷ l) ≡ suc (turns_at q l)
unfolding turns_at
at_same q x l e = rw (eq-eqb q x e)

pub at_other : (q x : ℕ) (l : List ℕ) → (q ≡ x → ⊥) → turns_at q (x ∷ l) ≡ turns_at q l
unfolding turns_at
at_other q x l e = rw (ne_eqb q x e)

pub at_none : (q : ℕ) → turns_at q [] ≡ 0
unfolding turns_at
at_none q = refl

append_at : (q x : ℕ) (a b : List ℕ) → turns_at q (a ++ b) ≡ turns_at q a + turns_at q b → Same q x →
    turns_at q (x ∷ (a ++ b)) ≡ turns_at q (x ∷ a) + turns_at q b
append_at q x a b ih (same e) = omega (arith, ih, at_same q x (a ++ b) e, at_same q x a e)
append_at q x a b ih (other e) = omega (arith, ih, at_other q x (a ++ b) e, at_other q x a e)

pub at_append : (q : ℕ) (a b : List ℕ) → turns_at q (a ++ b) ≡ turns_at q a + turns_at q b
at_append q [] b = omega (arith, at_none q)
at_append q (x ∷ a) b = append_at q x a b (at_append q a b) (same? q x)

-- ---- the place that is chosen is the first with steps left
before_miss : (l : List ℕ) (p k x : ℕ) → p < length l → get_or l (next_place (length l) p) 0 ≤ 0 → first_of l (next_place (length l) p) k < length l →
    x < length l
    → (ahead (length l) (next_place (length l) p) x < ahead (length l) (next_place (length l) p) (first_of l (next_place (length l) p) k) →
    get_or l x 0 ≡ 0)
    → ahead (length l) p x < ahead (length l) p (first_of l (next_place (length l) p) k) → Same x (next_place (length l) p) →
    Same (first_of l (next_place (length l) p) k) (next_place (length l) p) → get_or l x 0 ≡ 0
before_miss l p k x hp none hy hx ih h (same e) w = let z : get_or l x 0 ≤ 0 = rw e none in omega arith
before_miss l p k x hp none hy hx ih h (other e) (same w) =
    absurd (let some = first_some l (next_place (length l) p) k hy in let z : 1 ≤ get_or l (next_place (length l) p) 0 = rw w at some in omega arith)
before_miss l p k x hp none hy hx ih h (other e) (other w) =
    ih (omega (arith, ahead_on (length l) p x hp hx e, ahead_on (length l) p (first_of l (next_place (length l) p) k) hp hy w))

before_at : (l : List ℕ) (p k x : ℕ) → p < length l → first_of l p (suc k) < length l → x < length l
    → (first_of l (next_place (length l) p) k < length l → ahead (length l) (next_place (length l) p) x < ahead (length l) (next_place (length l) p)
    (first_of l (next_place (length l) p) k) → get_or l x 0 ≡ 0)
    → ahead (length l) p x < ahead (length l) p (first_of l p (suc k)) → (t : Bool) → ltb 0 (get_or l (next_place (length l) p) 0) ≡ t → get_or l x 0 ≡ 0
before_at l p k x hp hy hx ih h true e =
    let y = first_hit l p k (ltb-true 0 _ e) in
    let z : ahead (length l) p x < ahead (length l) p (next_place (length l) p) = rw y at h in
    absurd (omega (arith, ahead_next (length l) p hp, ahead_some (length l) p x hp))
before_at l p k x hp hy hx ih h false e =
    let y = first_miss l p k (ltb-false 0 _ e) in
    let hy' : first_of l (next_place (length l) p) k < length l = rw y at hy in
    before_miss l p k x hp (ltb-false 0 _ e) hy' hx (ih hy') (rw y at h) (same? x (next_place (length l) p))
    (same? (first_of l (next_place (length l) p) k) (next_place (length l) p))

first_before_lem : (l : List ℕ) (p k x : ℕ) → p < length l → first_of l p k < length l → x < length l →
    ahead (length l) p x < ahead (length l) p (first_of l p k) → get_or l x 0 ≡ 0
first_before_lem l p zero x hp hy hx h = absurd (first_none l p hy)
first_before_lem l p (suc k) x hp hy hx h =
    before_at l p k x hp hy hx (λ g w. first_before_lem l (next_place (length l) p) k x (next_below (length l) p hp) g hx w) h
    (ltb 0 (get_or l (next_place (length l) p) 0)) refl

pub chosen_first : (l : List ℕ) (s y x : ℕ) → s < length l → chosen l s ≡ y → y < length l → x < length l →
    ahead (length l) s x < ahead (length l) s y → get_or l x 0 ≡ 0
unfolding chosen
chosen_first l s y x hs e hy hx h = first_before_lem l s (length l) x hs (rw e hy) hx (rw e h)

-- ---- where none is chosen, none has steps left

none_at : (l : List ℕ) (p k x : ℕ) → p < length l → x < length l → length l ≤ first_of l p (suc k) → ahead (length l) p x ≤ suc k
    → (length l ≤ first_of l (next_place (length l) p) k → ahead (length l) (next_place (length l) p) x ≤ k → get_or l x 0 ≡ 0)
    → (t : Bool) → ltb 0 (get_or l (next_place (length l) p) 0) ≡ t → Same x (next_place (length l) p) → get_or l x 0 ≡ 0
none_at l p k x hp hx h near ih true e w =
    absurd (let y = first_hit l p k (ltb-true 0 _ e) in let z = next_below (length l) p hp in omega (arith, y, z))
none_at l p k x hp hx h near ih false e (same w) = let z : get_or l x 0 ≤ 0 = rw w (ltb-false 0 _ e) in omega arith
none_at l p k x hp hx h near ih false e (other w) =
    let y = first_miss l p k (ltb-false 0 _ e) in
    ih (rw y at h) (omega (arith, ahead_on (length l) p x hp hx w))

none_near : (l : List ℕ) (p k x : ℕ) → p < length l → x < length l → length l ≤ first_of l p k → ahead (length l) p x ≤ k → get_or l x 0 ≡ 0
none_near l p zero x hp hx h near = absurd (omega (arith, ahead_some (length l) p x hp))
none_near l p (suc k) x hp hx h near =
    none_at l p k x hp hx h near (λ g w. none_near l (next_place (length l) p) k x (next_below (length l) p hp) hx g w)
    (ltb 0 (get_or l (next_place (length l) p) 0)) refl (same? x (next_place (length l) p))

none_in : (l : List ℕ) (s x : ℕ) → s < length l → length l ≤ chosen l s → Cmp x (length l) → get_or l x 0 ≡ 0
unfolding chosen
none_in l s x hs h (below hx) = none_near l s (length l) x hs hx h (ahead_most (length l) s x hs hx)
none_in l s x hs h (above hx) = get_or-eq_default l 0 {n = x} hx

pub chosen_none_left : (l : List ℕ) (s : ℕ) → s < length l → length l ≤ chosen l s → (x : ℕ) → get_or l x 0 ≡ 0
chosen_none_left l s hs h x = none_in l s x hs h (cmp x (length l))

-- ---- the first of some turns
record FirstTurn (l : List ℕ) (s y : ℕ) (ts : List ℕ) : Type 0 where
  more : ℕ
  is : chosen l s ≡ y
  inside : y < length l
  rest : (turns_of (one_off l y) y more).places ≡ ts

turn_none : (l : List ℕ) (s : ℕ) → (turns_of l s 0).places ≡ []
unfolding turns_of
turn_none l s = refl

turn_at : (l : List ℕ) (s m y : ℕ) (ts : List ℕ) → (turns_of l s (suc m)).places ≡ y ∷ ts → Cmp (chosen l s) (length l) → FirstTurn l s y ts
turn_at l s m y ts e (below h) =
    let g : chosen l s ∷ (turns_of (one_off l (chosen l s)) (chosen l s) m).places ≡ y ∷ ts = ap (λ (r : Stretch). r.places) (sym (turns_go l s m h))
    ∙ e in
    let is_y : chosen l s ≡ y = cc in
    let rest_is : (turns_of (one_off l (chosen l s)) (chosen l s) m).places ≡ ts = cc in
    record { more = m; is = is_y; inside = rw is_y at h; rest = rw is_y at rest_is }
turn_at l s m y ts e (above h) =
    let g : [] ≡ y ∷ ts = ap (λ (r : Stretch). r.places) (sym (turns_stop l s (suc m) h)) ∙ e in
    absurd (let z : ◌≡◌ {A = ℕ} 0 1 = cc in omega arith)

turn_of : (l : List ℕ) (s m y : ℕ) (ts : List ℕ) → (turns_of l s m).places ≡ y ∷ ts → FirstTurn l s y ts
turn_of l s zero y ts e = absurd (let g = sym (turn_none l s) ∙ e in let z : ◌≡◌ {A = ℕ} 0 1 = cc in omega arith)
turn_of l s (suc m) y ts e = turn_at l s m y ts e (cmp (chosen l s) (length l))

-- ---- the steps left after a turn
off_other : (l : List ℕ) (y q : ℕ) → (q ≡ y → ⊥) → get_or (one_off l y) q 0 ≡ get_or l q 0
off_other l y q ne = get_or-set_other l y q _ 0 ne

off_same : (l : List ℕ) (y : ℕ) → y < length l → get_or (one_off l y) y 0 ≡ get_or l y 0 - 1
off_same l y h = get_or-set_same l y _ 0 h

-- A walk that is served has steps left before.
had_at : (l : List ℕ) (u p : ℕ) → u < length l → 0 < get_or (one_off l u) p 0 → Same p u → 0 < get_or l p 0
had_at l u p hu h (same e) = let z : 0 < get_or (one_off l u) u 0 = rw e at h in let w : 0 < get_or l u 0 = omega (arith, off_same l u hu) in rw e w
had_at l u p hu h (other e) = rw (off_other l u p e) at h

had : (l : List ℕ) (s m p : ℕ) (us vs : List ℕ) → (turns_of l s m).places ≡ us ++ (p ∷ vs) → 0 < get_or l p 0
had l s m p [] vs e =
    let t = turn_of l s m p vs e in
    let some = chosen_some l s (rw t.is t.inside) in
    let z : 1 ≤ get_or l p 0 = rw t.is at some in
    omega arith
had l s m p (u ∷ us) vs e =
    let t = turn_of l s m u (us ++ (p ∷ vs)) e in
    had_at l u p t.inside (had (one_off l u) u t.more p us vs t.rest) (same? p u)

-- ---- a round: p's next turn ends it
abbrev OnceRound : ℕ → ℕ → ℕ → ℕ → List ℕ → List ℕ → Type 0
OnceRound n p s q l ys = (rank n p s < rank n p q → 0 < get_or l q 0 → turns_at q ys ≡ 1) × (rank n p q ≤ rank n p s → turns_at q ys ≡ 0)

no_pass : (n : ℕ) (l : List ℕ) (s p y : ℕ) → n ≡ length l → s < n → p < n → y < n → chosen l s ≡ y → 0 < get_or l p 0 →
    Cmp (ahead n s p) (ahead n s y) → ahead n s y ≤ ahead n s p
no_pass n l s p y en hs hp hy is some (above h) = h
no_pass n l s p y en hs hp hy is some (below h) =
    absurd (let z = chosen_first l s y p (rw en at hs) is (rw en at hy) (rw en at hp) (rw en at h) in omega arith)

not_in : (p y : ℕ) (ys : List ℕ) → turns_at p (y ∷ ys) ≡ 0 → Same p y → (y ≡ p → ⊥) × (turns_at p ys ≡ 0)
not_in p y ys e (same w) = absurd (omega (arith, e, at_same p y ys w))
not_in p y ys e (other w) = ((λ g. w (sym g)), sym (at_other p y ys w) ∙ e)

round_on : (n : ℕ) (l : List ℕ) (s p q y : ℕ) (ys : List ℕ) → n ≡ length l → s < n → p < n → q < n → y < n → chosen l s ≡ y →
    rank n p s < rank n p y → OnceRound n p y q (one_off l y) ys → Same q y → OnceRound n p s q l (y ∷ ys)
round_on n l s p q y ys en hs hp hq hy is on ih (same e) = (
  (λ h some. at_same q y ys e ∙ ap suc (ih.1 (let z : rank n p q ≡ rank n p y = ap (rank n p) e in omega arith))),
  (λ h. absurd (let z : rank n p q ≡ rank n p y = ap (rank n p) e in omega arith)),
)
round_on n l s p q y ys en hs hp hq hy is on ih (other e) = (
  (λ h some. at_other q y ys e ∙ ih.0 (later h some (cmp (rank n p q) (rank n p y))) (rw (off_other l y q e) some)),
  (λ h. at_other q y ys e ∙ ih.1 (omega arith)),
)
  where
    later : rank n p s < rank n p q → 0 < get_or l q 0 → Cmp (rank n p q) (rank n p y) → rank n p y < rank n p q
    later h some (below w) =
        let d = between n p hp s q y hs hq hy h w in
        absurd (let z = chosen_first l s y q (rw en at hs) is (rw en at hy) (rw en at hq) (rw en at d) in omega arith)
    later h some (above w) = let ne : (rank n p q ≡ rank n p y → ⊥) = λ g. e (rank_tells n p hp q y hq hy g) in omega (arith, ne)

round : (n : ℕ) (p q : ℕ) (ys zs l : List ℕ) (s m : ℕ) → n ≡ length l → s < n → p < n → q < n → (q ≡ p → ⊥) → 0 < get_or l p 0 → turns_at p ys ≡ 0 →
    (turns_of l s m).places ≡ ys ++ (p ∷ zs) → OnceRound n p s q l ys
round n p q [] zs l s m en hs hp hq ne some none e = (
  (λ h has.
      let t = turn_of l s m p zs e in
      let d = ends_round n p hp s q hs hq h in
      absurd (let z = chosen_first l s p q (rw en at hs) t.is t.inside (rw en at hq) (rw en at d) in omega arith)),
  (λ h. at_none q),
)
round n p q (y ∷ ys) zs l s m en hs hp hq ne some none e =
    let t = turn_of l s m y (ys ++ (p ∷ zs)) e in
    let out = not_in p y ys none (same? p y) in
    let hy : y < n = rw en t.inside in
    let near = no_pass n l s p y en hs hp hy t.is some (cmp (ahead n s p) (ahead n s y)) in
    let on = behind_last n p hp s y hs hy out.0 near in
    let some' : 0 < get_or (one_off l y) p 0 = rw (off_other l y p (λ g. out.0 (sym g))) some in
    round_on n l s p q y ys en hs hp hq hy t.is on (round n p q ys zs (one_off l y) y t.more (en ∙ sym (length-set l y _)) hy hp hq ne some'
    out.1 t.rest) (same? q y)

-- ---- turns that are past

record Past (l xs ts : List ℕ) : Type 0 where
  now : List ℕ
  last : ℕ
  more : ℕ
  rest : (turns_of now last more).places ≡ ts
  long : length now ≡ length l
  steps : (q : ℕ) → get_or now q 0 + turns_at q xs ≡ get_or l q 0

one_past : (l now : List ℕ) (x q : ℕ) (xs : List ℕ) → x < length l → 1 ≤ get_or l x 0 → get_or now q 0 + turns_at q xs ≡ get_or (one_off l x) q 0 → Same q x
    → get_or now q 0 + turns_at q (x ∷ xs) ≡ get_or l q 0
one_past l now x q xs hx some e (same w) =
    let z : get_or (one_off l x) q 0 ≡ get_or l q 0 - 1 =
    ap (λ (k : ℕ). get_or (one_off l x) k 0) w ∙ off_same l x hx ∙ ap (λ (k : ℕ). get_or l k 0 - 1) (sym w) in
    let had_some : 1 ≤ get_or l q 0 = rw w some in
    omega (arith, e, z, at_same q x xs w)
one_past l now x q xs hx some e (other w) = omega (arith, e, off_other l x q w, at_other q x xs w)

-- The place that is chosen has steps left.
some_left : (l : List ℕ) (s y : ℕ) → chosen l s ≡ y → y < length l → 1 ≤ get_or l y 0
some_left l s y e h = rw e at (chosen_some l s (rw e h))

past : (l : List ℕ) (s m : ℕ) (xs ts : List ℕ) → (turns_of l s m).places ≡ xs ++ ts → Past l xs ts
past l s m [] ts e = record { now = l; last = s; more = m; rest = e; long = refl; steps = λ q. omega (arith, at_none q) }
past l s m (x ∷ xs) ts e =
    let t = turn_of l s m x (xs ++ ts) e in
    let r = past (one_off l x) x t.more xs ts t.rest in
    record {
      now = r.now;
      last = r.last;
      more = r.more;
      rest = r.rest;
      long = r.long ∙ length-set l x _;
      steps = λ q. one_past l r.now x q xs t.inside (some_left l s x t.is t.inside) (r.steps q) (same? q x);
    }

-- ---- fair

inside_at : (l : List ℕ) (q : ℕ) → 0 < get_or l q 0 → Cmp q (length l) → q < length l
inside_at l q h (below w) = w
inside_at l q h (above w) = absurd (omega (arith, get_or-eq_default l 0 {n = q} w))

-- Two successive turns of p; q is another walk, with steps left where the first of them is taken.
pub fair_turns : (l : List ℕ) (s m : ℕ) (xs ys zs : List ℕ) (p q : ℕ) → (turns_of l s m).places ≡ xs ++ (p ∷ (ys ++ (p ∷ zs))) → turns_at p ys ≡ 0
    → (q ≡ p → ⊥) → turns_at q xs < get_or l q 0 → turns_at q ys ≡ 1
fair_turns l s m xs ys zs p q e none ne has =
    let b = past l s m xs (p ∷ (ys ++ (p ∷ zs))) e in
    let t = turn_of b.now b.last b.more p (ys ++ (p ∷ zs)) b.rest in
    let has_now : 0 < get_or b.now q 0 = let z = b.steps q in omega (arith, z) in
    let off : List ℕ = one_off b.now p in
    let n : length b.now ≡ length off = sym (length-set b.now p _) in
    (round (length b.now) p q ys zs off p t.more n t.inside t.inside (inside_at b.now q has_now (cmp q (length b.now))) ne
    (had off p t.more p ys zs t.rest) none t.rest).0
    (first_rank (length b.now) p q t.inside ne) (rw (off_other b.now p q ne) has_now)

-- ---- many calls are one

pub turns_zero : (l : List ℕ) (s : ℕ) → turns_of l s 0 ≡ rests l s
unfolding turns_of
turns_zero l s = refl

-- What stands after some turns, and b more.
abbrev pub then : Stretch → ℕ → List ℕ
then r b = r.places ++ (turns_of r.left r.last b).places

split_at : (l : List ℕ) (s a b : ℕ)
    → (chosen l s < length l → (turns_of (one_off l (chosen l s)) (chosen l s) (a + b)).places ≡ then
    (turns_of (one_off l (chosen l s)) (chosen l s) a) b)
    → Cmp (chosen l s) (length l) → (turns_of l s (suc a + b)).places ≡ then (turns_of l s (suc a)) b
split_at l s a b ih (below h) =
    ap (λ (k : ℕ). (turns_of l s k).places) (suc-add a b) ∙ ap (λ (r : Stretch). r.places) (turns_go l s (a + b) h)
    ∙ ap (λ (t : List ℕ). chosen l s ∷ t) (ih h) ∙ ap (λ (r : Stretch). then r b) (sym (turns_go l s a h))
split_at l s a b ih (above h) =
    ap (λ (r : Stretch). r.places) (turns_stop l s (suc a + b) h) ∙ ap (λ (r : Stretch). r.places) (sym (turns_stop l s b h))
    ∙ ap (λ (r : Stretch). then r b) (sym (turns_stop l s (suc a) h))

pub split_places : (l : List ℕ) (s a b : ℕ) → (turns_of l s (a + b)).places ≡ then (turns_of l s a) b
split_places l s zero b = ap (λ (k : ℕ). (turns_of l s k).places) (zero-add b) ∙ ap (λ (r : Stretch). then r b) (sym (turns_zero l s))
split_places l s (suc a) b = split_at l s a b (λ h. split_places (one_off l (chosen l s)) (chosen l s) a b) (cmp (chosen l s) (length l))

-- ---- each turn takes one step off, and nothing else does

abbrev Adds : List ℕ → ℕ → Stretch → Type 0
Adds l q r = get_or r.left q 0 + turns_at q r.places ≡ get_or l q 0

adds_none : (l : List ℕ) (s q : ℕ) → Adds l q (rests l s)
adds_none l s q = omega (arith, at_none q)

adds_at : (l : List ℕ) (s m q : ℕ) → (chosen l s < length l → Adds (one_off l (chosen l s)) q (turns_of (one_off l (chosen l s)) (chosen l s) m))
    → Cmp (chosen l s) (length l) → Adds l q (turns_of l s (suc m))
adds_at l s m q ih (below h) =
    rw (turns_go l s m h) (one_past l (turns_of (one_off l (chosen l s)) (chosen l s) m).left (chosen l s) q
    (turns_of (one_off l (chosen l s)) (chosen l s) m).places h (chosen_some l s h) (ih h) (same? q (chosen l s)))
adds_at l s m q ih (above h) = rw (turns_stop l s (suc m) h) (adds_none l s q)

pub turns_add : (l : List ℕ) (s m q : ℕ) → get_or (turns_of l s m).left q 0 + turns_at q (turns_of l s m).places ≡ get_or l q 0
turns_add l s zero q = rw (turns_zero l s) (adds_none l s q)
turns_add l s (suc m) q = adds_at l s m q (λ h. turns_add (one_off l (chosen l s)) (chosen l s) m q) (cmp (chosen l s) (length l))
