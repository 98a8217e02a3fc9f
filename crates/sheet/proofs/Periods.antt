-- Laws of periods.
use Rattle.std.proofs.Common.{ℕ, zero, suc, pred, ◌+◌, ◌-◌, ◌*◌, ◌≤◌, ◌<◌, zero-le, ◌≡◌, refl, ◌∙◌, ap, Bool, true, false, cond, List, [], ◌∷◌, arith}
use Rattle.std.proofs.Common.{le_refl, mul-le-mul_right, leb, le-leb, length, get_or, take, drop, length-drop, length-take-le, get_or-take}
use Rattle.std.proofs.Common.{get_or-drop}
use native.Mathlib.Decide.{dec_le, dec_lt}
use borrow.Author.Tests.{lt-leb}
use Rattle.sheet.specs.Terms.{Terms}
use Rattle.sheet.specs.Limits.{CurvesFit, StartsRise}
use Rattle.sheet.proofs.Parts.{part_whole}
use Rattle.sheet.specs.Periods.{begun, period_of, hazards_at, hazards_into, PeriodHolds}

-- two periods of two hazards, the second from step 3 on
record PeriodFigures : Type 0 where
  before : period_of (1 ∷ 3 ∷ []) 2 ≡ 0
  at_start : period_of (1 ∷ 3 ∷ []) 3 ≡ 1
  after : period_of (1 ∷ 3 ∷ []) 9 ≡ 1
  hazards_before : hazards_at 2 (1 ∷ 3 ∷ []) (10 ∷ 20 ∷ 30 ∷ 40 ∷ []) 2 ≡ 10 ∷ 20 ∷ []
  hazards_at_start : hazards_at 2 (1 ∷ 3 ∷ []) (10 ∷ 20 ∷ 30 ∷ 40 ∷ []) 3 ≡ 30 ∷ 40 ∷ []

period_figures : PeriodFigures
unfolding begun period_of hazards_at
period_figures = record { before = refl; at_start = refl; after = refl; hazards_before = refl; hazards_at_start = refl }

pub begun_most : (l : List ℕ) (s : ℕ) → begun l s ≤ length l
unfolding begun
begun_most [] s = le_refl 0
begun_most (a ∷ l) s = go (leb a s) (begun_most l s)
  where
    go : (b : Bool) → begun l s ≤ length l → cond b 1 0 + begun l s ≤ suc (length l)
    go true h = omega arith
    go false h = omega arith

pub period_there : (l : List ℕ) (s : ℕ) → 1 ≤ length l → period_of l s < length l
period_there l s h =
    let e : period_of l s ≡ pred (begun l s) = unfold period_of in refl in
    omega (arith, begun_most l s)

-- The part of the hazards that starts at those of a step's period.
pub hazards_part : (names : ℕ) (starts hazards : List ℕ) (s from to : ℕ) → from ≡ period_of starts s * names → to ≡ from + names →
    take (to - from) (drop from hazards) ≡ hazards_at names starts hazards s
unfolding hazards_at
hazards_part names starts hazards s from to e f =
    ap (λ (y : ℕ). take (y - from) (drop from hazards)) f ∙ part_whole hazards from names ∙ ap (λ (y : ℕ). take names (drop y hazards)) e

-- With as many hazards as names a period, those of a step's period are as many as names, and are read there.
module _ (x : Terms) (c : CurvesFit x) (s : ℕ) where
  pub hazards_there : period_of x.starts s * x.names + x.names ≤ length x.hazards
  hazards_there =
      let e : suc (period_of x.starts s) * x.names ≤ length x.starts * x.names = mul-le-mul_right x.names (period_there x.starts s c.starts.0) in
      omega (arith, c.hazards, e)

  pub hazards_long : length (hazards_into x s) ≡ x.names
  unfolding hazards_at
  hazards_long = length-take-le x.names _ (omega (arith, hazards_there, length-drop (period_of x.starts s * x.names) x.hazards))

  pub hazards_read : (k : ℕ) → k < x.names →
      get_or (hazards_into x s) k 0 ≡ get_or x.hazards (period_of x.starts s * x.names + k) 0
  unfolding hazards_at
  hazards_read k h = get_or-take x.names _ k 0 h ∙ get_or-drop (period_of x.starts s * x.names) x.hazards k 0

-- ---- of rising starts, those at or below a step come first

abbrev Climbs : List ℕ → Type 0
Climbs l = (j : ℕ) → suc j < length l → get_or l j 0 < get_or l (suc j) 0

record Counts (l : List ℕ) (s : ℕ) : Type 0 where
  before : (j : ℕ) → j < begun l s → get_or l j 0 ≤ s
  behind : (j : ℕ) → begun l s ≤ j → j < length l → s < get_or l j 0

begun_yes : (a : ℕ) (l : List ℕ) (s : ℕ) → a ≤ s → begun (a ∷ l) s ≡ suc (begun l s)
unfolding begun
begun_yes a l s h = rw (le-leb a s h) (omega arith)

begun_no : (a : ℕ) (l : List ℕ) (s : ℕ) → s < a → begun (a ∷ l) s ≡ begun l s
unfolding begun
begun_no a l s h = rw (lt-leb a s h) (omega arith)

cons_yes : (a : ℕ) (l : List ℕ) (s : ℕ) → a ≤ s → Counts l s → Counts (a ∷ l) s
cons_yes a l s h c = record { before = below; behind = above }
  where
    e : begun (a ∷ l) s ≡ suc (begun l s)
    e = begun_yes a l s h

    below : (j : ℕ) → j < begun (a ∷ l) s → get_or (a ∷ l) j 0 ≤ s
    below zero g = h
    below (suc j) g = c.before j (omega (arith, e))

    above : (j : ℕ) → begun (a ∷ l) s ≤ j → j < length (a ∷ l) → s < get_or (a ∷ l) j 0
    above zero g f = omega (arith, e)
    above (suc j) g f = c.behind j (omega (arith, e)) (omega arith)

cons_no : (a : ℕ) (l : List ℕ) (s : ℕ) → s < a → (0 < length l → a < get_or l 0 0) → Counts l s → Counts (a ∷ l) s
cons_no a l s h up c = record { before = λ j g. omega (arith, e, none); behind = above }
  where
    e : begun (a ∷ l) s ≡ begun l s
    e = begun_no a l s h

    none : begun l s ≡ 0
    none = go (dec_lt 0 (begun l s))
      where
        go : Dec (0 < begun l s) → begun l s ≡ 0
        go (yes g) = omega (arith, c.before 0 g, up (omega (arith, begun_most l s)))
        go (no g) = omega arith

    above : (j : ℕ) → begun (a ∷ l) s ≤ j → j < length (a ∷ l) → s < get_or (a ∷ l) j 0
    above zero g f = h
    above (suc j) g f = c.behind j (omega (arith, none)) (omega arith)

counts : (l : List ℕ) → Climbs l → (s : ℕ) → Counts l s
unfolding begun
counts [] up s = record { before = λ j g. zero-le; behind = λ j g f. omega arith }
counts (a ∷ l) up s = go (counts l (λ j g. up (suc j) (omega arith)) s) (dec_le a s)
  where
    go : Counts l s → Dec (a ≤ s) → Counts (a ∷ l) s
    go c (yes h) = cons_yes a l s h c
    go c (no h) = cons_no a l s (omega arith) (λ g. up 0 (omega arith)) c

pub holds : (x : Terms) → CurvesFit x → StartsRise x → (s : ℕ) → 1 ≤ s → PeriodHolds x.starts s
holds x c r s pos =
    record {
      there = period_there x.starts s c.starts.0;
      begins = k.before (period_of x.starts s) (omega (arith, e, b));
      ends = λ g. k.behind (suc (period_of x.starts s)) (omega (arith, e, b)) g;
    }
  where
    k : Counts x.starts s
    k = counts x.starts r.rise s

    b : 0 < begun x.starts s
    b = go (dec_lt 0 (begun x.starts s))
      where
        go : Dec (0 < begun x.starts s) → 0 < begun x.starts s
        go (yes g) = g
        go (no g) = absurd (omega (arith, r.first, k.behind 0 (omega arith) c.starts.0))

    e : period_of x.starts s ≡ pred (begun x.starts s)
    e = unfold period_of in refl
