-- What the promise of turns comes to: by fairness, by the steps taken off, and by the rule.
use Rattle.std.proofs.Common.{ℕ, zero, suc, ◌-◌, ◌<◌, ◌≡◌, refl, sym, ap, ◌∙◌, subst, ◌≢◌, Bool, true, false, true≢false, List, [], ◌∷◌, ◌++◌}
use Rattle.std.proofs.Common.{append_assoc, arith, length, get_or, drop, length-append, length-drop, length-set, drop_at}
use Rattle.walk.specs.declared.Walk.{Walk}
use Rattle.places.specs.Places.{one_off, taken}
use Rattle.rounds.specs.Rounds.{turns_at}
use Rattle.rounds.proofs.Cycle.{Same, same, other, same?}
use Rattle.rounds.proofs.Turns.{at_same, at_other, at_none, at_append}
use Rattle.turns.specs.declared.Turn.{Turn}
use Rattle.turns.specs.Table.{steps_of, with_steps}
use Rattle.turns.proofs.Copies.{length_steps, with_own}
use Rattle.fairness.specs.Promise.{Result, Server, Taken, InTurn, Serves, refuses, Call, named, HasLeft, Keeps, ours}
use Rattle.fairness.specs.Meant.{walks_of, count_in, Meant}
use Rattle.fairness.proofs.Promise.{test_taken, taken_told, ours_alone}
use Rattle.fairness.proofs.Calls.{all_that_while, our_soon}

-- ---- the first turn of p in a list, if any

data Found (p : ℕ) (l : List ℕ) : Type 0 where
  none : turns_at p l ≡ 0 → Found p l
  first : (a b : List ℕ) → l ≡ a ++ (p ∷ b) → turns_at p a ≡ 0 → Found p l

found_on : (p x : ℕ) (l : List ℕ) → (p ≡ x → ⊥) → Found p l → Found p (x ∷ l)
found_on p x l ne (none e) = none (at_other p x l ne ∙ e)
found_on p x l ne (first a b e z) = first (x ∷ a) b (ap (λ (t : List ℕ). x ∷ t) e) (at_other p x a ne ∙ z)

found_at : (p x : ℕ) (l : List ℕ) → Found p l → Same p x → Found p (x ∷ l)
found_at p x l f (same e) = first [] l (ap (λ (y : ℕ). y ∷ l) (sym e)) (at_none p)
found_at p x l f (other e) = found_on p x l e f

found : (p : ℕ) (l : List ℕ) → Found p l
found p [] = none (at_none p)
found p (x ∷ l) = found_at p x l (found p l) (same? p x)

-- ---- shares

module _ (f : Server) (k : Keeps f) (left : List ℕ) (place : ℕ) (calls : List Call) where
  abbrev Shares : List ℕ → List ℕ → List ℕ → ℕ → ℕ → Type 0
  Shares before between after p q =
      named f left place calls ≡ before ++ (p ∷ (between ++ (p ∷ after))) → HasLeft left (before ++ (p ∷ between)) q →
      turns_at q between ≡ suc (turns_at p between)

  shares_at : (before between after : List ℕ) (p q : ℕ) → q ≢ p →
      ((front rest : List ℕ) → length rest < length between → Shares front rest after p q) → Found p between → Shares before between after p q
  shares_at before between after p q ne ih (none z) e h =
      k.fair left place calls before between after p q e z ne (all_that_while left before between p q h) ∙ ap suc (sym z)
  shares_at before between after p q ne ih (first a b is z) e h =
      let parted : named f left place calls ≡ before ++ (p ∷ (a ++ (p ∷ (b ++ (p ∷ after))))) =
      e ∙ ap (λ (l : List ℕ). before ++ (p ∷ (l ++ (p ∷ after)))) is ∙ ap (λ (l : List ℕ). before ++ (p ∷ l)) (append_assoc a (p ∷ b) (p ∷ after)) in
      let one = k.fair left place calls before a (b ++ (p ∷ after)) p q parted z ne (λ some rest s.
      all_that_while left before between p q h some (rest ++ (p ∷ b)) (is ∙ ap (λ (l : List ℕ). l ++ (p ∷ b)) s ∙ append_assoc some rest (p ∷ b))) in
      let joined : (l : List ℕ) → before ++ (p ∷ (a ++ l)) ≡ (before ++ (p ∷ a)) ++ l = λ l. sym (append_assoc before (p ∷ a) l) in
      let has : HasLeft left ((before ++ (p ∷ a)) ++ (p ∷ b)) q =
      subst (λ (l : List ℕ). HasLeft left l q) (ap (λ (l : List ℕ). before ++ (p ∷ l)) is ∙ joined (p ∷ b)) h in
      let shorter : length b < length between = let n = ap length is ∙ length-append a (p ∷ b) in omega (arith, n) in
      let more = ih (before ++ (p ∷ a)) b shorter (parted ∙ joined (p ∷ (b ++ (p ∷ after)))) has in
      let qs = ap (turns_at q) is ∙ at_append q a (p ∷ b) in
      let ps = ap (turns_at p) is ∙ at_append p a (p ∷ b) in
      omega (arith, one, more, qs, ps, z, at_other q p b ne, at_same p p b refl)

  shares_by : (fuel : ℕ) (before between after : List ℕ) (p q : ℕ) → length between < fuel → q ≢ p → Shares before between after p q
  shares_by zero before between after p q h ne = absurd (omega arith)
  shares_by (suc fuel) before between after p q h ne =
      shares_at before between after p q ne (λ front rest s. shares_by fuel front rest after p q (omega arith) ne) (found p between)

  shares : (before between after : List ℕ) (p q : ℕ) → q ≢ p → Shares before between after p q
  shares before between after p q ne = shares_by (suc (length between)) before between after p q (omega arith) ne

  alone : (before after : List ℕ) (p q : ℕ) → named f left place calls ≡ before ++ (p ∷ (p ∷ after)) → q ≢ p →
      ¬ (HasLeft left (before ++ (p ∷ [])) q)
  alone before after p q e ne h = let z = shares before [] after p q ne e h in omega (arith, z, at_none q)

-- ---- one call

module _ (f : Server) (k : Keeps f) (table : List Turn) (place : ℕ) (list : List ℕ) where
  abbrev o : Result
  o = f table place list

  data Case : Type 0 where
    refused : o ≡ refuses 29 table place list → Case
    serving : Taken table place list → Serves table place list o → Case

  case_at : (t : Bool) → taken (steps_of table) place (length list) ≡ t → Case
  case_at true e = let t = taken_told table place list e in serving t ((k.rule table place list).accepted t)
  case_at false e =
      refused ((k.rule table place list).not_taken (λ t. let z : ◌≡◌ {A = Bool} true false = sym (test_taken table place list t) ∙ e in
      absurd (true≢false z)))

  case : Case
  case = case_at (taken (steps_of table) place (length list)) refl

  walks_with : (t : List Turn) (left : List ℕ) → walks_of (with_steps t left) ≡ walks_of t
  walks_with [] left = refl
  walks_with (x ∷ t) [] = refl
  walks_with (x ∷ t) (s ∷ left) = ap (λ (l : List Walk). x.walk ∷ l) (walks_with t left)

  walks_keep : Case → walks_of o.table ≡ walks_of table
  walks_keep (refused e) = ap (λ (x : Result). walks_of x.table) e
  walks_keep (serving t s) = ap (λ (x : Result). walks_of x.table) s.is ∙ walks_with table s.left

  abbrev Rest : Result → Type 0
  Rest x = drop (count_in x) x.list ≡ drop (count_in x) list

  rest_keeps : Case → Rest o
  rest_keeps (refused e) = subst Rest (sym e) refl
  rest_keeps (serving t s) = subst Rest (sym s.is) (drop_at s.places (drop (length s.places) list) (length s.places) refl)

  long_as_lent : Case → length o.list ≡ length list
  long_as_lent (refused e) = ap (λ (x : Result). length x.list) e
  long_as_lent (serving t s) =
      ap (λ (x : Result). length x.list) s.is ∙ length-append s.places (drop (length s.places) list)
      ∙ (let z = length-drop (length s.places) list in let h = s.room in omega (arith, z, h))

  last_inside : (l : List ℕ) (s : ℕ) (ps l₁ : List ℕ) (s₁ : ℕ) → s < length l → InTurn l s ps l₁ s₁ → s₁ < length l
  last_inside l s [] l₁ s₁ h a = rw a.1 h
  last_inside l s (p ∷ ps) l₁ s₁ h a =
      rw (length-set l p (get_or l p 0 - 1)) at (last_inside (one_off l p) p ps l₁ s₁ (rw length-set a.0.inside) a.1)

  place_inside : place < length table → Case → o.place < length table
  place_inside h (refused e) = rw (ap (λ (x : Result). x.place) e) h
  place_inside h (serving t s) =
      let z = last_inside (steps_of table) place s.places s.left s.last (rw (length_steps table) h) s.in_turn in
      rw (ap (λ (x : Result). x.place) s.is) (rw (length_steps table) at z)

  abbrev NoneLeft : Type 0
  NoneLeft =
      ((q : ℕ) → get_or (steps_of table) q 0 ≡ 0) × (o ≡ record { number = 0; values = 0 ∷ []; place = place; table = table; list = list })

  nothing : (ps l₁ : List ℕ) (s₁ : ℕ) → length ps ≡ 0 → InTurn (steps_of table) place ps l₁ s₁ →
      (length ps < length list → (q : ℕ) → get_or l₁ q 0 ≡ 0) → 0 < length list →
      o ≡ record { number = 0; values = length ps ∷ []; place = s₁; table = with_steps table l₁; list = ps ++ drop (length ps) list } → NoneLeft
  nothing [] l₁ s₁ z a until h e = (
    (λ q. let w = until h q in rw a.0 at w),
    e ∙ (λ i. record { number = 0; values = 0 ∷ []; place = a.1 i; table = with_steps table (a.0 i); list = list })
        ∙ ap (λ (t : List Turn). record { number = 0; values = 0 ∷ []; place = place; table = t; list = list }) (with_own table),
  )
  nothing (p ∷ ps) l₁ s₁ z a until h e = absurd (omega (arith, z))

  none_left : Taken table place list → 0 < length list → count_in o ≡ 0 → NoneLeft
  none_left t h z =
      let s = (k.rule table place list).accepted t in
      let count : length s.places ≡ 0 = sym (ap count_in s.is) ∙ z in
      nothing s.places s.left s.last count s.in_turn s.until h s.is

pub meant : (f : Server) → Keeps f → Meant f
meant f k =
    record {
      shares = λ left place calls before between after p q e ne h. shares f k left place calls before between after p q ne e h;
      soon = λ left place calls before between after p q e none ne h.
          let same : named f left place calls ≡ named ours left place calls = ap (λ (g : Server). named g left place calls) (ours_alone f k) in
          our_soon left place calls before between after p q (sym same ∙ e) none ne h;
      alone = λ left place calls before after p q e ne. alone f k left place calls before after p q e ne;
      never_more = λ left place calls q. let z = k.takes_off left place calls q in omega (arith, z);
      all_served = λ left place calls none q. let z = k.takes_off left place calls q in omega (arith, z, none q);
      walks_keep = λ table place list. walks_keep f k table place list (case f k table place list);
      rest_keeps = λ table place list. rest_keeps f k table place list (case f k table place list);
      long_as_lent = λ table place list. long_as_lent f k table place list (case f k table place list);
      place_inside = λ table place list h. place_inside f k table place list h (case f k table place list);
      none_left = λ table place list t h z. none_left f k table place list t h z;
    }
