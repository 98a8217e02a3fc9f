-- A row that is pushed in place from its last count down to the count k.
use Rattle.std.proofs.Common.{ℕ, zero, suc, ◌+◌, ◌-◌, ◌*◌, ◌^◌, ◌≤◌, ◌<◌, ◌≡◌, refl, ap, ap₂, sym, ◌∙◌, List, ◌∷◌, le_refl, le_trans, le_of_eq}
use Rattle.std.proofs.Common.{mul-zero, mul-le-mul, mul-le-mul_left, add-one, arith, length, replicate, get_or, set, length-set, get_or-set_same}
use Rattle.std.proofs.Common.{get_or-set_other}
use native.Mathlib.Decide.{ℕ_discrete}
use lib.ListN.{get_or-eq_default}
use lib.Dec.{eqb-zero-suc}
use Rattle.cash.specs.Units.{B, half}
use Rattle.cash.proofs.Rounding.{half_most, half_whole}
use Rattle.tree.specs.Forward.{same, outflow, from_below, pushed}
use Rattle.rows.specs.Tables.{tab}
use Rattle.rows.proofs.Tables.{is_tab, filled_tab}
use Rattle.forward.specs.Steps.{step_tree, pushed_row}

half_none : half 0 ≡ 0
half_none = ap half (sym (mul-zero B)) ∙ half_whole 0

-- no count gives more than it holds
pub half_part : (held chance : ℕ) → chance ≤ B → half (held * chance) ≤ held
half_part held chance l = half_most _ _ (mul-le-mul_left held l)

pub product_most : (x y : ℕ) → x ≤ B → y ≤ B → x * y ≤ 18 * (B * B)
product_most x y h l = omega (arith, mul-le-mul h l)

pub product_fits : (x y : ℕ) → x ≤ B → y ≤ B → x * y < 2 ^ 64
unfolding B
product_fits x y h l = omega (arith, mul-le-mul h l)

-- what moves from each count of a row
pub moves : List ℕ → List ℕ → ℕ → ℕ
moves hazards row = outflow (step_tree hazards) 1 (λ k. get_or row k 0)

pub moves_is : (hazards row : List ℕ) (k : ℕ) → moves hazards row k ≡ half (get_or row k 0 * get_or hazards k 0)
unfolding moves outflow step_tree
moves_is hazards row k = refl

-- no default comes from the last count
pub moves_last : (hazards row : List ℕ) → moves hazards row (length hazards) ≡ 0
moves_last hazards row =
    moves_is hazards row (length hazards)
    ∙ ap (λ p. half (get_or row (length hazards) 0 * p)) (get_or-eq_default hazards 0 (le_refl (length hazards)))
    ∙ ap half (mul-zero (get_or row (length hazards) 0))
    ∙ half_none

-- a count after the moves m
pub settled : List ℕ → (ℕ → ℕ) → ℕ → ℕ
settled row m i = get_or row i 0 - m i + from_below m i

-- counts over k are done, k has given and not yet got, counts below k are as they were
pub record Pushing (m : ℕ → ℕ) (xs ys : List ℕ) (k : ℕ) : Type 0 where
  pub long : length ys ≡ length xs
  pub below : (i : ℕ) → i < k → get_or ys i 0 ≡ get_or xs i 0
  pub here : get_or ys k 0 ≡ get_or xs k 0 - m k
  pub done : (i : ℕ) → k < i → i < length xs → get_or ys i 0 ≡ settled xs m i

pub pushing_at : (m : ℕ → ℕ) (xs ys : List ℕ) (k i : ℕ) → Pushing m xs ys k → k ≡ i → Pushing m xs ys i
pushing_at m xs ys k i s e = rw e at s

pub pushing_none : (m : ℕ → ℕ) (xs : List ℕ) (n k : ℕ) → length xs ≡ n + 1 → m n ≡ 0 → k ≡ n → Pushing m xs xs k
pushing_none m xs n k e z p =
    record { long = refl; below = λ i h. refl; here = omega (arith, ap m p); done = λ i h l. absurd (omega arith) }

-- a count below still holds no more than it held
pub pushing_held : (m : ℕ → ℕ) (xs ys : List ℕ) (k i : ℕ) → Pushing m xs ys k → i < k → ((i : ℕ) → get_or xs i 0 ≤ B) → get_or ys i 0 ≤ B
pushing_held m xs ys k i s l most = le_trans (le_of_eq (s.below i l)) (most i)

-- what a count holds that has given and not yet got
pub pushing_most : (m : ℕ → ℕ) (xs ys : List ℕ) (j k : ℕ) → Pushing m xs ys j → j ≡ k → ((i : ℕ) → get_or xs i 0 ≤ B) → get_or ys k 0 ≤ B
pushing_most m xs ys j k s e most = omega (arith, s.here, most j, ap (λ (i : ℕ). get_or ys i 0) e)

-- the next move down: the count k + 1 gets it, the count k gives it
abbrev given : List ℕ → ℕ → ℕ → List ℕ
given ys k v = set ys (k + 1) (get_or ys (k + 1) 0 + v)

module _ (m : ℕ → ℕ) (xs ys : List ℕ) (j k v : ℕ) (s : Pushing m xs ys j) (e : j ≡ k + 1) (l : j < length xs) (q : v ≡ m k) where
  got : get_or (given ys k v) (k + 1) 0 ≡ settled xs m (k + 1)
  unfolding settled from_below
  got =
      let h : get_or ys (k + 1) 0 ≡ get_or xs (k + 1) 0 - m (k + 1) = rw e at s.here in
      get_or-set_same ys (k + 1) _ 0 (omega (arith, s.long))
      ∙ ap₂ (λ a b. a + b) h q
      ∙ ap (λ b. get_or xs (k + 1) 0 - m (k + 1) + from_below m b) (sym (add-one k))

  over : (i : ℕ) → k < i → i < length xs → Dec (i ≡ k + 1) → get_or (set (given ys k v) k (get_or ys k 0 - v)) i 0 ≡ settled xs m i
  over i h b (yes p) =
      get_or-set_other (given ys k v) k i _ 0 (omega arith) ∙ ap (λ (i : ℕ). get_or (given ys k v) i 0) p ∙ got ∙ ap (settled xs m) (sym p)
  over i h b (no p) =
      get_or-set_other (given ys k v) k i _ 0 (omega arith) ∙ get_or-set_other ys (k + 1) i _ 0 p ∙ s.done i (omega (arith, p)) b

  pub pushing_more : Pushing m xs (set (given ys k v) k (get_or ys k 0 - v)) k
  pushing_more = record {
    long = length-set (given ys k v) k _ ∙ length-set ys (k + 1) _ ∙ s.long;
    below = λ i h.
        get_or-set_other (given ys k v) k i _ 0 (omega arith) ∙ get_or-set_other ys (k + 1) i _ 0 (omega arith) ∙ s.below i (omega arith);
    here = get_or-set_same (given ys k v) k _ 0 (omega (arith, length-set ys (k + 1) (get_or ys (k + 1) 0 + v), s.long))
        ∙ ap₂ (λ a b. a - b) (s.below k (omega arith)) q;
    done = λ i h b. over i h b (ℕ_discrete i (k + 1));
  }

settled_all : (m : ℕ → ℕ) (xs ys : List ℕ) → Pushing m xs ys 0 → (i : ℕ) → i < length xs → get_or ys i 0 ≡ settled xs m i
unfolding settled from_below
settled_all m xs ys s zero l = omega (arith, s.here)
settled_all m xs ys s (suc i) l = s.done (suc i) (omega arith) l

-- at the count 0 the whole row is pushed
pub pushing_all : (hazards xs ys : List ℕ) → Pushing (moves hazards xs) xs ys 0 → ys ≡ pushed_row hazards xs
unfolding pushed_row pushed moves settled
pushing_all hazards xs ys s = is_tab ys (length xs) _ s.long (settled_all (moves hazards xs) xs ys s)

-- a fresh row: B at the count 0, and nothing later
pub fresh_row : (n : ℕ) → 0 < n → set (replicate n 0) 0 B ≡ tab n (λ k. B * same 0 k)
unfolding tab same
fresh_row zero l = absurd (omega arith)
fresh_row (suc n) l = ap₂ (λ b r. b ∷ r) (omega arith) (filled_tab n 0 (λ k. B * same 0 (suc k)) (λ k. rw eqb-zero-suc (omega arith)))
