-- Tests that stand for an order of rules, and what it is to be judged by one.
use Rattle.std.proofs.Common.{ℕ, ◌≡◌, refl, sym, ◌∙◌, ap, Bool, true, false, not, ◌&&◌, ◌||◌, true≢false, List, [], ◌∷◌, ◌++◌, ◌↔◌, ◌⊎◌, inl, inr}
use Rattle.std.proofs.Common.{eqb, eq-eqb, Ok, Err}
use mathlib.Core.Bool.{false≢true}
use borrow.Author.Tests.{not-true}
use Rattle.std.proofs.lemmas.Bool.{and_parts as both}
use Rattle.refusals.specs.declared.Refusal.{Refusal}
use Rattle.refusals.specs.declared.Refusal.TheVariants.{Pool, Length, Recovery, Attachments, Hazard, Discount, Accrual, Coupon, Withdrawn, Unissued, NoWalk, OverCeiling, OutOfSteps, OffTree, FlatHedge, OffScale, Elapsed, Periods}
use Rattle.refusals.specs.Refusals.{refusal_number}
use Rattle.refusals.specs.Tests.{Test, first}
use Rattle.refusals.proofs.FirstTest.{first_none, first_met, first_passed, first_fine}
use Rattle.walk.specs.Answers.{Said, accepted}
use Rattle.walk.specs.RefusalOrders.{RefusalOrder, is_early, Judges}
use Rattle.walk.specs.Accuracy.{EarlyRefusal}

-- ---- answers

-- The answer of a refused call: the number alone.
abbrev pub refusal : ℕ → Said
refusal n = record { number = n; values = [] }

pub refusal_some : (f : Refusal) → eqb (refusal_number f) 0 ≡ false
refusal_some Pool = refl
refusal_some Length = refl
refusal_some Recovery = refl
refusal_some Attachments = refl
refusal_some Hazard = refl
refusal_some Discount = refl
refusal_some Accrual = refl
refusal_some Coupon = refl
refusal_some Withdrawn = refl
refusal_some Unissued = refl
refusal_some NoWalk = refl
refusal_some OverCeiling = refl
refusal_some OutOfSteps = refl
refusal_some OffTree = refl
refusal_some FlatHedge = refl
refusal_some OffScale = refl
refusal_some Elapsed = refl
refusal_some Periods = refl

pub number_accepted : (a : Said) → a.number ≡ 0 → accepted a ≡ true
number_accepted a e = eq-eqb a.number 0 e

pub either : (b : Bool) → (b ≡ true) ⊎ (b ≡ false)
either true = inl refl
either false = inr refl

-- ---- orders

-- Every rule of an order holds.
abbrev pub Holds : RefusalOrder → Type 0
Holds [] = Unit {0}
Holds (t ∷ l) = t.0 × Holds l

-- No rule of an order has the number 0, which an accepted call answers.
abbrev pub numbered : RefusalOrder → Bool
numbered [] = true
numbered (t ∷ l) = not (eqb t.1 0) && numbered l

head_some : (t : Type 0 × ℕ) (l : RefusalOrder) → numbered (t ∷ l) ≡ true → eqb t.1 0 ≡ false
head_some t l e = not-true (eqb t.1 0) (both (not (eqb t.1 0)) (numbered l) e).0

tail_some : (t : Type 0 × ℕ) (l : RefusalOrder) → numbered (t ∷ l) ≡ true → numbered l ≡ true
tail_some t l e = (both (not (eqb t.1 0)) (numbered l) e).1

-- A call that keeps to every rule of its order is accepted.
pub holds_accepted : (m : RefusalOrder) (a : Said) → Judges m a → Holds m → accepted a ≡ true
unfolding Judges
holds_accepted [] a j h = number_accepted a j
holds_accepted (t ∷ l) a (inl p) h = absurd (p.0 h.0)
holds_accepted (t ∷ l) a (inr p) h = holds_accepted l a p.1 h.1

-- A call that is accepted keeps to every rule of its order.
pub accepted_holds : (m : RefusalOrder) (a : Said) → numbered m ≡ true → Judges m a → accepted a ≡ true → Holds m
unfolding Judges
accepted_holds [] a s j e = tt
accepted_holds (t ∷ l) a s (inl p) e = absurd (false≢true (sym (head_some t l s) ∙ sym (ap accepted p.1) ∙ e))
accepted_holds (t ∷ l) a s (inr p) e = (p.0, accepted_holds l a (tail_some t l s) p.1 e)

-- Together.
pub judged_accepted : (m : RefusalOrder) (a : Said) → numbered m ≡ true → Judges m a → (accepted a ≡ true) ↔ Holds m
judged_accepted m a s j = (accepted_holds m a s j, holds_accepted m a j)

-- No rule of an order has the number 9.
abbrev pub no_nine : RefusalOrder → Bool
no_nine [] = true
no_nine (t ∷ l) = not (eqb t.1 9) && no_nine l

-- The rule of an order by which a call is refused is early if it is the first, or early among the later ones and none before it has the number 9.
early_first : (t : Type 0 × ℕ) (l : RefusalOrder) (a : Said) → a ≡ refusal t.1 → is_early (t ∷ l) a.number ≡ true
unfolding is_early
early_first t l a e = rw (e, eq-eqb t.1 t.1 refl) refl

early_later : (t : Type 0 × ℕ) (l : RefusalOrder) (n : ℕ) → not (eqb t.1 9) ≡ true → is_early l n ≡ true → is_early (t ∷ l) n ≡ true
unfolding is_early
early_later t l n h e = rw (h, e) (go (eqb t.1 n))
  where
    go : (b : Bool) → (b || true) ≡ true
    go true = refl
    go false = refl

-- Where a rule 9 is broken, the call is refused early, and shows no value.
pub broken_refused : (m : RefusalOrder) (K : Type 0) (rest : RefusalOrder) (a : Said) → numbered (m ++ ((K, 9) ∷ rest)) ≡ true → no_nine m ≡ true → ¬ K
    → Judges (m ++ ((K, 9) ∷ rest)) a → EarlyRefusal (m ++ ((K, 9) ∷ rest)) a
unfolding Judges
broken_refused [] K rest a s u h (inl p) =
    record {
      refused = ap accepted p.1 ∙ head_some (K, 9) rest s;
      early = early_first (K, 9) rest a p.1;
      silent = ap (λ (b : Said). b.values) p.1;
    }
broken_refused [] K rest a s u h (inr p) = absurd (h p.0)
broken_refused (t ∷ m) K rest a s u h (inl p) =
    record {
      refused = ap accepted p.1 ∙ head_some t (m ++ ((K, 9) ∷ rest)) s;
      early = early_first t (m ++ ((K, 9) ∷ rest)) a p.1;
      silent = ap (λ (b : Said). b.values) p.1;
    }
broken_refused (t ∷ m) K rest a s u h (inr p) =
    let nine = both (not (eqb t.1 9)) (no_nine m) u in
    let r = broken_refused m K rest a (tail_some t (m ++ ((K, 9) ∷ rest)) s) nine.1 h p.1 in
    record { refused = r.refused; early = early_later t (m ++ ((K, 9) ∷ rest)) a.number nine.0 r.early; silent = r.silent }

-- Two answers to one order: both refused and the same, or both accepted.
abbrev pub Alike : Said → Said → Type 0
Alike a b = ((a ≡ b) × (accepted a ≡ false) × (accepted b ≡ false)) ⊎ ((accepted a ≡ true) × (accepted b ≡ true))

pub judged_once : (m : RefusalOrder) (a b : Said) → numbered m ≡ true → Judges m a → Judges m b → Alike a b
unfolding Judges
judged_once [] a b s p q = inr (number_accepted a p, number_accepted b q)
judged_once (t ∷ l) a b s (inl p) (inl q) =
    inl (p.1 ∙ sym q.1, ap accepted p.1 ∙ head_some t l s, ap accepted q.1 ∙ head_some t l s)
judged_once (t ∷ l) a b s (inl p) (inr q) = absurd (p.0 q.0)
judged_once (t ∷ l) a b s (inr p) (inl q) = absurd (q.0 p.0)
judged_once (t ∷ l) a b s (inr p) (inr q) = judged_once l a b (tail_some t l s) p.1 q.1

-- ---- tests

-- Tests that stand for an order: where the rules before it hold, each is false just where its rule holds, and its refusal has the rule's number.
abbrev pub Stands : List Test → RefusalOrder → Type 0
Stands [] [] = Unit {0}
Stands [] (r ∷ m) = ⊥
Stands (t ∷ l) [] = ⊥
Stands (t ∷ l) (r ∷ m) = ((t.0 ≡ false) ↔ r.0) × (refusal_number t.1 ≡ r.1) × (r.0 → Stands l m)

-- They find nothing just where every rule holds.
pub stands_fine : (l : List Test) (m : RefusalOrder) → Stands l m → (first l ≡ Ok tt) ↔ Holds m
stands_fine [] [] s = (λ e. tt, λ h. first_none)
stands_fine [] (r ∷ m) s = absurd s
stands_fine (t ∷ l) [] s = absurd s
stands_fine (t ∷ l) (r ∷ m) s =
    let i = first_fine t.0 t.1 l in (
      λ e. let p = i.0 e in let k = s.0.0 p.0 in (k, (stands_fine l m (s.2 k)).0 p.1),
      λ h. i.1 (s.0.1 h.0, (stands_fine l m (s.2 h.0)).1 h.1),
    )

-- An answer that follows the first test met is judged by the order.
pub stands_judges : (l : List Test) (m : RefusalOrder) (a : Said) → Stands l m → (first l ≡ Ok tt → a.number ≡ 0)
    → ((f : Refusal) → first l ≡ Err f → a ≡ refusal (refusal_number f)) → Judges m a
unfolding Judges
stands_judges [] [] a s fine refused = fine first_none
stands_judges [] (r ∷ m) a s fine refused = absurd s
stands_judges (t ∷ l) [] a s fine refused = absurd s
stands_judges (t ∷ l) (r ∷ m) a s fine refused = go (either t.0) (λ k. stands_judges l m a (s.2 k))
  where
    go : (t.0 ≡ true) ⊎ (t.0 ≡ false)
        → (r.0 → (first l ≡ Ok tt → a.number ≡ 0) → ((f : Refusal) → first l ≡ Err f → a ≡ refusal (refusal_number f)) → Judges m a)
        → ((¬ r.0) × (a ≡ refusal r.1)) ⊎ (r.0 × Judges m a)
    go (inl e) rest =
        inl (λ k. true≢false (sym e ∙ s.0.1 k), refused t.1 (first_met t.0 t.1 l e) ∙ ap refusal s.1)
    go (inr e) rest =
        let k = s.0.0 e in
        let p = first_passed t.0 t.1 l e in
        inr (k, rest k (λ n. fine (p ∙ n)) (λ f n. refused f (p ∙ n)))
