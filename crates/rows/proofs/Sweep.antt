-- A list that is rewritten in place from the front: what is passed follows the rule f, what is to come is as it was.
use Rattle.std.proofs.Common.{ℕ, ◌+◌, ◌-◌, ◌≤◌, ◌<◌, ◌≡◌, refl, ap, sym, ◌∙◌, List, ◌++◌, arith, length, get_or, set, take, drop, length-set}
use Rattle.std.proofs.Common.{length-append, length-drop, get_or-set_same, get_or-set_other, length-take-le, get_or-take, get_or-drop}
use Rattle.std.proofs.Common.{get_or-append-add}
use native.Mathlib.Decide.{dec_lt, ℕ_discrete}
use lib.ListN.{get_or-append}
use Rattle.rows.specs.Tables.{tab}
use Rattle.rows.proofs.Tables.{is_tab}

pub record Swept (f : ℕ → ℕ) (xs ys : List ℕ) (k : ℕ) : Type 0 where
  pub same : length ys ≡ length xs
  pub passed : (i : ℕ) → i < k → get_or ys i 0 ≡ f i
  pub ahead : (i : ℕ) → k ≤ i → get_or ys i 0 ≡ get_or xs i 0

pub swept_none : (f : ℕ → ℕ) (xs : List ℕ) → Swept f xs xs 0
swept_none f xs = record { same = refl; passed = λ i h. absurd (omega arith); ahead = λ i h. refl }

pub swept_more : (f : ℕ → ℕ) (xs ys : List ℕ) (k v : ℕ) → Swept f xs ys k → k < length ys → v ≡ f k → Swept f xs (set ys k v) (k + 1)
swept_more f xs ys k v s h e = record {
  same = length-set ys k v ∙ s.same;
  passed = λ i q. go i q (ℕ_discrete i k);
  ahead = λ i q. get_or-set_other ys k i v 0 (omega arith) ∙ s.ahead i (omega arith);
}
  where
    go : (i : ℕ) → i < k + 1 → Dec (i ≡ k) → get_or (set ys k v) i 0 ≡ f i
    go i q (yes p) = ap (λ (j : ℕ). get_or (set ys k v) j 0) p ∙ get_or-set_same ys k v 0 h ∙ e ∙ ap f (sym p)
    go i q (no p) = get_or-set_other ys k i v 0 p ∙ s.passed i (omega (arith, p))

pub swept_all : (f : ℕ → ℕ) (xs ys : List ℕ) (k : ℕ) → Swept f xs ys k → k ≡ length xs → ys ≡ tab (length xs) f
swept_all f xs ys k s e = is_tab ys (length xs) f s.same (λ i q. s.passed i (omega arith))

pub swept_tab : {f : ℕ → ℕ} {xs ys : List ℕ} {k : ℕ} (n : ℕ) → Swept f xs ys k → length xs ≡ n → k ≡ n → ys ≡ tab n f
swept_tab {f} {xs} {ys} {k} n s long e = is_tab ys n f (s.same ∙ long) (λ i q. s.passed i (omega arith))

-- ---- a part that was lent and has come back as zs
abbrev pub put : ℕ → ℕ → List ℕ → List ℕ → List ℕ
put a k ys zs = take a ys ++ (zs ++ drop k (drop a ys))

module _ (a k : ℕ) (ys zs : List ℕ) (fit : a + k ≤ length ys) (as_many : length zs ≡ k) where
  pub put_before : (i : ℕ) → i < a → get_or (put a k ys zs) i 0 ≡ get_or ys i 0
  put_before i h =
      get_or-append (take a ys) _ 0 i (omega (arith, length-take-le a ys (omega arith)))
      ∙ get_or-take a ys i 0 h

  put_from : (i : ℕ) → get_or (put a k ys zs) (a + i) 0 ≡ get_or (zs ++ drop k (drop a ys)) i 0
  put_from i =
      let e : a ≡ length (take a ys) = omega (arith, length-take-le a ys (omega arith)) in
      ap (λ (n : ℕ). get_or (put a k ys zs) (n + i) 0) e ∙ get_or-append-add (take a ys) (zs ++ drop k (drop a ys)) i 0

  pub put_in : (i : ℕ) → i < k → get_or (put a k ys zs) (a + i) 0 ≡ get_or zs i 0
  put_in i h = put_from i ∙ get_or-append zs (drop k (drop a ys)) 0 i (omega arith)

  pub put_after : (i : ℕ) → get_or (put a k ys zs) (a + (k + i)) 0 ≡ get_or ys (a + (k + i)) 0
  put_after i =
      put_from (k + i)
      ∙ ap (λ (n : ℕ). get_or (zs ++ drop k (drop a ys)) (n + i) 0) (sym as_many)
      ∙ get_or-append-add zs (drop k (drop a ys)) i 0
      ∙ get_or-drop k (drop a ys) i 0
      ∙ get_or-drop a ys (k + i) 0

  pub length_put : length (put a k ys zs) ≡ length ys
  length_put =
      length-append (take a ys) (zs ++ drop k (drop a ys))
      ∙ omega (arith, length-append zs (drop k (drop a ys)), length-take-le a ys (omega arith), length-drop k (drop a ys), length-drop a ys)
