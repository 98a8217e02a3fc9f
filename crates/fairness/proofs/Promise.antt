-- Our call keeps to the rule, and no other function keeps the promise. That ours keeps all of it: Calls.antt.
use Rattle.std.proofs.Common.{ℕ, zero, suc, ◌≤◌, ◌<◌, ◌≡◌, refl, sym, ap, ◌∙◌, subst, Bool, true, false, true≢false, List, [], ◌∷◌, ◌++◌, arith}
use Rattle.std.proofs.Common.{length, get_or, drop, length-set}
use Rattle.places.specs.Places.{chosen, one_off, Stretch, turns_of, any_over, taken, Outcome, served}
use Rattle.places.proofs.Laws.{over_hit, over_miss, turns_stop, turns_go, fine, is_taken}
use Rattle.places.proofs.Partway.{served_refused, served_taken, chosen_some}
use Rattle.rounds.specs.Rounds.{ahead}
use Rattle.rounds.proofs.Cycle.{Cmp, below, above, cmp, ahead_tells}
use Rattle.rounds.proofs.Turns.{chosen_first, chosen_none_left, turns_zero}
use Rattle.turns.specs.declared.Turn.{Turn}
use Rattle.turns.specs.Table.{steps_of, with_steps}
use Rattle.turns.specs.Turns.{on_table}
use Rattle.turns.proofs.Copies.{length_steps, with_own}
use Rattle.fairness.specs.Promise.{Result, Server, Taken, IsNext, InTurn, Serves, refuses, TurnsRule}
use Rattle.fairness.specs.Promise.{Keeps, result_of, ours}

-- ---- what 29 leaves

over_at_lem : (x : ℕ) (l : List ℕ) → x ≤ 3650 → any_over l 3650 ≡ false → any_over (x ∷ l) 3650 ≡ false
over_at_lem x l h e = over_miss x l 3650 h ∙ e

none_over : (l : List ℕ) → ((p : ℕ) → get_or l p 0 ≤ 3650) → any_over l 3650 ≡ false
unfolding any_over
none_over [] h = refl
none_over (x ∷ l) h = over_at_lem x l (h 0) (none_over l (λ p. h (suc p)))

under_at : (x : ℕ) (l : List ℕ) → any_over (x ∷ l) 3650 ≡ false → (any_over l 3650 ≡ false → (p : ℕ) → get_or l p 0 ≤ 3650) → Cmp 3650 x →
    (p : ℕ) → get_or (x ∷ l) p 0 ≤ 3650
under_at x l e ih (below h) p = absurd (true≢false (sym (over_hit x l 3650 h) ∙ e))
under_at x l e ih (above h) zero = h
under_at x l e ih (above h) (suc p) = ih (sym (over_miss x l 3650 h) ∙ e) p

under : (l : List ℕ) → any_over l 3650 ≡ false → (p : ℕ) → get_or l p 0 ≤ 3650
under [] e p = omega arith
under (x ∷ l) e p = under_at x l e (λ g. under l g) (cmp 3650 x) p

module _ (table : List Turn) (place : ℕ) (list : List ℕ) where
  pub test_taken : Taken table place list → taken (steps_of table) place (length list) ≡ true
  test_taken t =
      let long = length_steps table in
      is_taken (steps_of table) place (length list)
      (record {
        some = rw long t.some;
        few = rw long t.few;
        inside = rw long t.inside;
        steps = none_over (steps_of table) t.steps;
        short = t.short;
      })

  pub taken_told : taken (steps_of table) place (length list) ≡ true → Taken table place list
  taken_told e =
      let f = fine (steps_of table) place (length list) e in
      let long = length_steps table in
      record {
        some = rw long at f.some;
        few = rw long at f.few;
        inside = rw long at f.inside;
        steps = under (steps_of table) f.steps;
        short = f.short;
      }

-- ---- turns in turn

is_next : (l : List ℕ) (s : ℕ) → s < length l → chosen l s < length l → IsNext l s (chosen l s)
is_next l s hs h =
    record {
      inside = h;
      some = chosen_some l s h;
      soonest =
          λ q hq some. sooner q hq some (cmp (ahead (length l) s q) (ahead (length l) s (chosen l s)));
    }
  where
    sooner : (q : ℕ) → q < length l → 0 < get_or l q 0 → Cmp (ahead (length l) s q) (ahead (length l) s (chosen l s)) →
        ahead (length l) s (chosen l s) ≤ ahead (length l) s q
    sooner q hq some (below w) = absurd (let z = chosen_first l s (chosen l s) q hs refl h hq w in omega arith)
    sooner q hq some (above w) = w

pub record Turning (l : List ℕ) (s m : ℕ) (r : Stretch) : Type 0 where
  pub in_turn : InTurn l s r.places r.left r.last
  pub room : length r.places ≤ m
  pub until : length r.places < m → (q : ℕ) → get_or r.left q 0 ≡ 0

turning_at : (l : List ℕ) (s m : ℕ) → s < length l →
    (chosen l s < length l → Turning (one_off l (chosen l s)) (chosen l s) m (turns_of (one_off l (chosen l s)) (chosen l s) m)) →
    Cmp (chosen l s) (length l) → Turning l s (suc m) (turns_of l s (suc m))
turning_at l s m hs ih (below h) =
    let t = ih h in
    rw (turns_go l s m h) (record { in_turn = (is_next l s hs h, t.in_turn); room = omega (arith, t.room); until = λ k. t.until (omega arith) })
turning_at l s m hs ih (above h) =
    rw (turns_stop l s (suc m) h) (record { in_turn = (refl, refl); room = omega arith; until = λ k. chosen_none_left l s hs h })

pub turning : (l : List ℕ) (s m : ℕ) → s < length l → Turning l s m (turns_of l s m)
turning l s zero hs = rw (turns_zero l s) (record { in_turn = (refl, refl); room = omega arith; until = λ k. absurd (omega arith) })
turning l s (suc m) hs =
    turning_at l s m hs (λ h. turning (one_off l (chosen l s)) (chosen l s) m (rw length-set h)) (cmp (chosen l s) (length l))

-- Two ways to take turns, each until there is no more room or none is left, are one.
pub record Same (l₁ l₂ ps qs : List ℕ) (s₁ s₂ : ℕ) : Type 0 where
  pub places : ps ≡ qs
  pub left : l₁ ≡ l₂
  pub last : s₁ ≡ s₂

abbrev Until : ℕ → List ℕ → List ℕ → Type 0
Until m places left = (length places ≤ m) × (length places < m → (q : ℕ) → get_or left q 0 ≡ 0)

same_next : (l : List ℕ) (s p q : ℕ) → s < length l → IsNext l s p → IsNext l s q → p ≡ q
same_next l s p q hs a b =
    let e : ahead (length l) s p ≡ ahead (length l) s q =
    let h = a.soonest q b.inside b.some in let k = b.soonest p a.inside a.some in omega (arith, h, k) in
    ahead_tells (length l) s p q hs a.inside b.inside e

idle : (l l₁ : List ℕ) (m q : ℕ) → l₁ ≡ l → (0 < m → (x : ℕ) → get_or l₁ x 0 ≡ 0) → 0 < m → 0 < get_or l q 0 → ⊥
idle l l₁ m q e none h some = let z = none h q in let w : get_or l q 0 ≡ 0 = rw e at z in omega (arith, w)

pub turns_once : (m : ℕ) (l : List ℕ) (s : ℕ) (ps qs l₁ l₂ : List ℕ) (s₁ s₂ : ℕ) → s < length l → InTurn l s ps l₁ s₁ → InTurn l s qs l₂ s₂ →
    Until m ps l₁ → Until m qs l₂ → Same l₁ l₂ ps qs s₁ s₂
turns_once m l s [] [] l₁ l₂ s₁ s₂ hs a b u v = record { places = refl; left = a.0 ∙ sym b.0; last = a.1 ∙ sym b.1 }
turns_once m l s [] (q ∷ qs) l₁ l₂ s₁ s₂ hs a b u v =
    absurd (idle l l₁ m q a.0 u.1 (let h = v.0 in omega (arith, h)) b.0.some)
turns_once m l s (p ∷ ps) [] l₁ l₂ s₁ s₂ hs a b u v =
    absurd (idle l l₂ m p b.0 v.1 (let h = u.0 in omega (arith, h)) a.0.some)
turns_once zero l s (p ∷ ps) (q ∷ qs) l₁ l₂ s₁ s₂ hs a b u v = absurd (let h = u.0 in omega (arith, h))
turns_once (suc m) l s (p ∷ ps) (q ∷ qs) l₁ l₂ s₁ s₂ hs a b u v =
    let e = same_next l s p q hs a.0 b.0 in
    let b₁ : InTurn (one_off l p) p qs l₂ s₂ = subst (λ (x : ℕ). InTurn (one_off l x) x qs l₂ s₂) (sym e) b.1 in
    let inside : p < length (one_off l p) = rw length-set a.0.inside in
    let r = turns_once m (one_off l p) p ps qs l₁ l₂ s₁ s₂ inside a.1 b₁
    ((let h = u.0 in omega (arith, h)), (λ h. u.1 (omega arith)))
    ((let h = v.0 in omega (arith, h)), (λ h. v.1 (omega arith))) in
    record { places = λ i. e i ∷ r.places i; left = r.left; last = r.last }

-- ---- the rule

abbrev Written : List Turn → List ℕ → List ℕ → List ℕ → ℕ → Result
Written table list places left last =
    record { number = 0; values = length places ∷ []; place = last; table = with_steps table left; list = places ++ drop (length places) list }

module _ (table : List Turn) (place : ℕ) (list : List ℕ) where
  abbrev o : Outcome
  o = served (steps_of table) place list

  abbrev turns : Stretch
  turns = turns_of (steps_of table) place (length list)

  pub our_refusal : taken (steps_of table) place (length list) ≡ false → ours table place list ≡ refuses 29 table place list
  our_refusal e =
      ap (λ (x : Outcome). result_of place (on_table table x)) (served_refused (steps_of table) place list e)
      ∙ ap (λ (t : List Turn). refuses 29 t place list) (with_own table)

  pub our_turns : taken (steps_of table) place (length list) ≡ true →
      ours table place list ≡ Written table list turns.places turns.left turns.last
  our_turns e = ap (λ (x : Outcome). result_of place (on_table table x)) (served_taken (steps_of table) place list e)

  our_serves : Taken table place list → Serves table place list (ours table place list)
  our_serves t =
      let r = turning (steps_of table) place (length list) (rw (length_steps table) t.inside) in
      record {
        places = turns.places;
        left = turns.left;
        last = turns.last;
        in_turn = r.in_turn;
        room = r.room;
        until = r.until;
        is = our_turns (test_taken table place list t);
      }

  not_test : ¬ (Taken table place list) → (t : Bool) → taken (steps_of table) place (length list) ≡ t → t ≡ false
  not_test n true e = absurd (n (taken_told table place list e))
  not_test n false e = refl

  pub our_rule : TurnsRule table place list (ours table place list)
  our_rule =
      record {
        not_taken = λ n. our_refusal (not_test n (taken (steps_of table) place (length list)) refl);
        accepted = our_serves;
      }

  -- ---- no other keeps it

  serves_once : Taken table place list → (a b : Result) → Serves table place list a → Serves table place list b → a ≡ b
  serves_once t a b x y =
      let r = turns_once (length list) (steps_of table) place x.places y.places x.left y.left x.last y.last
      (rw (length_steps table) t.inside) x.in_turn y.in_turn (x.room, x.until) (y.room, y.until) in
      x.is ∙ (λ i. Written table list (r.places i) (r.left i) (r.last i)) ∙ sym y.is

  pub rule_once : (a : Result) → TurnsRule table place list a → a ≡ ours table place list
  rule_once a r = go (taken (steps_of table) place (length list)) refl
    where
      go : (t : Bool) → taken (steps_of table) place (length list) ≡ t → a ≡ ours table place list
      go true e = let t = taken_told table place list e in serves_once t a (ours table place list) (r.accepted t) (our_serves t)
      go false e =
          let n : ¬ (Taken table place list) = λ t. true≢false (sym (test_taken table place list t) ∙ e) in
          r.not_taken n ∙ sym (our_refusal e)

pub ours_alone : (f : Server) → Keeps f → f ≡ ours
ours_alone f k = λ i. λ table place list. rule_once table place list (f table place list) (k.rule table place list) i
