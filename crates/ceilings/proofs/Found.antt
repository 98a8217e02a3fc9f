-- Laws of a search for an entry over its ceiling.
use Rattle.std.proofs.Common.{ℕ, zero, suc, ◌+◌, ◌-◌, ◌*◌, ◌/◌, ◌%◌, ◌≤◌, ◌<◌, ◌≡◌, refl, ap, sym, ◌∙◌, Bool, true, false, ◌||◌, List, [], arith}
use Rattle.std.proofs.Common.{length, get_or, drop, ltb, lit≤, ltb-false, lt-ltb, le-ltb}
use native.Mathlib.Decide.{ℕ_discrete}
use lib.Arith.{digits_lt, digits_div, digits_mod}
use Rattle.cash.specs.Units.{B}
use Rattle.sheet.specs.Terms.{Terms, sum_of, terms_of, bare}
use Rattle.sheet.specs.Limits.{TermsWithin}
use Rattle.tree.specs.Sheet.{pool_loss_of, loss_of, width_of, default_most, premium_most}
use Rattle.tree.proofs.Sheets.{loss_most}
use Rattle.rows.specs.Tables.{entry, any}
use Rattle.rows.specs.Rows.{row_length, node_in, any_over, soiled}
use Rattle.rows.specs.Rollable.{Rollable}
use Rattle.sheet.specs.declared.Pool.{Pool}
use Rattle.rows.proofs.Search.{or_left, or_right, neither, met_left, met_right, any_hit, any_missed, any_none, any_cong}
use Rattle.tranches.proofs.Losses.{width_most, ceiling_bare}

-- ---- a search place by place

-- A test does not hold at any of the first n places, in rows of w counts.
pub record Clean (w : ℕ) (f : ℕ → ℕ → Bool) (n : ℕ) : Type 0 where
  pub under : (j k : ℕ) → k < w → j * w + k < n → f j k ≡ false

pub clean_more : (w : ℕ) (f : ℕ → ℕ → Bool) (j k n : ℕ) → Clean w f n → n ≡ j * w + k → k < w → f j k ≡ false → Clean w f (n + 1)
clean_more w f j k n c e h t = record { under = λ i l q p. go i l q p (ℕ_discrete (i * w + l) n) }
  where
    go : (i l : ℕ) → l < w → i * w + l < n + 1 → Dec (i * w + l ≡ n) → f i l ≡ false
    go i l q p (yes d) =
        let same : i * w + l ≡ j * w + k = d ∙ e in
        let i_is : i ≡ j = sym (digits_div i q) ∙ ap (λ y. y / w) same ∙ digits_div j h in
        let l_is : l ≡ k = sym (digits_mod i q) ∙ ap (λ y. y % w) same ∙ digits_mod j h in
        rw (i_is, l_is) t
    go i l q p (no d) = c.under i l q (omega arith)

-- a place of the rows
pub place_inside : (r w j k place : ℕ) → j < r → k < w → place ≡ j * w + k → place < r * w
place_inside r w j k place h l e = omega (arith, digits_lt {q = j} {m = r} {r = k} {c = w} h l, e)

pub over_found : (r w : ℕ) (f : ℕ → ℕ → Bool) (j k : ℕ) → j < r → k < w → f j k ≡ true → any r (λ j. any w (f j)) ≡ true
over_found r w f j k hj hk e = any_hit r (λ j. any w (f j)) j hj (any_hit w (f j) k hk e)

pub over_none : (r w : ℕ) (f : ℕ → ℕ → Bool) → Clean w f (r * w) → any r (λ j. any w (f j)) ≡ false
over_none r w f c =
    any_missed r (λ j. any w (f j))
    (λ j hj. any_missed w (f j) (λ k hk. c.under j k hk (digits_lt {q = j} {m = r} {r = k} {c = w} hj hk)))

-- ---- what the search asks at a place

-- Whether one of the two legs is over its ceiling.
abbrev pub over_at : Terms → ℕ → List ℕ → List ℕ → ℕ → ℕ → Bool
over_at x most d p j k = ltb (default_most x j k) (entry (suc x.names) d j k) || ltb (most + (x.names - k)) (entry (suc x.names) p j k)

module _ (x : Terms) (most : ℕ) (d p : List ℕ) (j k place : ℕ) (place_is : place ≡ j * suc x.names + k) where
  pub over_default : (left : ℕ) → left ≡ default_most x j k → left < get_or d place 0 → over_at x most d p j k ≡ true
  unfolding entry
  over_default left e h = met_left (ltb (default_most x j k) (entry (suc x.names) d j k)) (ltb (most + (x.names - k)) (entry (suc x.names) p j k)) (lt-ltb _ _ (rw (e, place_is) at h))

  pub over_premium : most + (x.names - k) < get_or p place 0 → over_at x most d p j k ≡ true
  unfolding entry
  over_premium h = met_right (ltb (default_most x j k) (entry (suc x.names) d j k)) (ltb (most + (x.names - k)) (entry (suc x.names) p j k)) (lt-ltb _ _ (rw place_is at h))

  pub under_both : (left : ℕ) → left ≡ default_most x j k → get_or d place 0 ≤ left → get_or p place 0 ≤ most + (x.names - k) → over_at x most d p j k ≡ false
  unfolding entry
  under_both left e h q = neither (ltb (default_most x j k) (entry (suc x.names) d j k)) (ltb (most + (x.names - k)) (entry (suc x.names) p j k)) (le-ltb _ _ (rw (e, place_is) at h)) (le-ltb _ _ (rw place_is at q))

-- ---- one search of both rows is a search of each

or_swap : (a b c d : Bool) → ((a || b) || (c || d)) ≡ ((a || c) || (b || d))
or_swap true b c d = refl
or_swap false true c d = sym (met_right c true refl)
or_swap false false c d = refl

any_or : (n : ℕ) (f g : ℕ → Bool) → any n (λ i. f i || g i) ≡ (any n f || any n g)
unfolding any
any_or zero f g = refl
any_or (suc n) f g = ap (λ (b : Bool). b || (f n || g n)) (any_or n f g) ∙ or_swap (any n f) (any n g) (f n) (g n)

-- What the search finds, by a pool and lists that are those of the sheet x, is that its rows are soiled.
module _ (pool : Pool) (attachments starts hazards discounts accruals elapsed : List ℕ) (x : Terms)
    (x_is : terms_of pool attachments starts hazards discounts accruals elapsed ≡ x) (a c : List ℕ) (a_is : a ≡ x.attachments) (c_is : c ≡ x.accruals) where
  abbrev whole : Terms
  whole = terms_of pool attachments starts hazards discounts accruals elapsed

  module _ (d p : List ℕ) (i most : ℕ) (e : most ≡ sum_of (drop i c) + 2 * (pool.steps - i)) where
    most_is : (k : ℕ) → most + (pool.names - k) ≡ premium_most whole i k
    unfolding premium_most
    most_is k = omega (arith, e, ap (λ (l : List ℕ). sum_of (drop i l)) c_is, ap (λ (y : Terms). sum_of (drop i y.accruals)) x_is)

    ceiling_is : default_most (bare pool a) ≡ default_most whole
    ceiling_is =
        (λ t. default_most (bare pool (a_is t)))
        ∙ (λ t. default_most (bare pool (sym x_is t).attachments))
        ∙ ceiling_bare pool attachments starts hazards discounts accruals elapsed

    pub soiled_is : any (suc pool.tranches) (λ j. any (suc pool.names) (λ k. over_at (bare pool a) most d p j k)) ≡ soiled x i d p
    unfolding soiled any_over node_in
    soiled_is =
        let r : ℕ = suc pool.tranches in
        let w : ℕ = suc pool.names in
        (λ t. any r (λ j. any w (λ k. ltb (ceiling_is t j k) (entry w d j k) || ltb (most_is k t) (entry w p j k))))
        ∙ any_cong r _ _ (λ j h. any_or w (λ k. ltb (default_most whole j k) (entry w d j k)) (λ k. ltb (premium_most whole i k) (entry w p j k)))
        ∙ any_or r (λ j. any w (λ k. ltb (default_most whole j k) (entry w d j k))) (λ j. any w (λ k. ltb (premium_most whole i k) (entry w p j k)))
        ∙ (λ t. soiled (x_is t) i d p)

-- The lists that set no ceiling play no part, and the others may be parts of the sheet's numbers.
module _ (pool : Pool) (attachments starts hazards discounts accruals elapsed a c : List ℕ) (a_is : a ≡ attachments) (c_is : c ≡ accruals) where
  soiled_whole : (i : ℕ) (d p : List ℕ) →
      soiled (terms_of pool attachments [] [] [] accruals []) i d p ≡ soiled (terms_of pool attachments starts hazards discounts accruals elapsed) i d p
  unfolding soiled any_over node_in default_most width_of loss_of pool_loss_of premium_most
  soiled_whole i d p = refl

  pub soiled_part : (i : ℕ) (d p : List ℕ) →
      soiled (terms_of pool a [] [] [] c []) i d p ≡ soiled (terms_of pool attachments starts hazards discounts accruals elapsed) i d p
  soiled_part i d p = (λ t. soiled (terms_of pool (a_is t) [] [] [] (c_is t) []) i d p) ∙ soiled_whole i d p

-- ---- rows that keep to their ceilings can be walked back

none_over : (x : Terms) (most : ℕ → ℕ → ℕ) (row : List ℕ) → any_over x most row ≡ false → (j k : ℕ) → j ≤ x.tranches → k ≤ x.names → node_in x row j k ≤ most j k
unfolding any_over
none_over x most row e j k p q =
    ltb-false _ _ (any_none (suc x.names) _ (any_none (suc x.tranches) _ e j (omega arith)) k (omega arith))

-- the units for names and steps are few
pub premium_most_low : (x : Terms) → TermsWithin x → (i k : ℕ) → premium_most x i k ≤ sum_of (drop i x.accruals) + B
unfolding premium_most
premium_most_low x l i k = omega (arith, l.tranches.pool.names, l.tranches.pool.steps, few)
  where
    few : 7425 ≤ B
    few = unfold B in lit≤ tt

pub unsoiled_rollable : (x : Terms) (d p : List ℕ) (position count : ℕ) → TermsWithin x → length d ≡ row_length x → length p ≡ row_length x
    → position ≤ x.steps → count ≤ position → soiled x position d p ≡ false → Rollable x d p position count
unfolding soiled default_most
unsoiled_rollable x d p position count l dl pl a b e =
    record {
      limits = l;
      position_most = a;
      count_most = b;
      defaults_long = dl;
      premiums_long = pl;
      defaults_most = λ j k u v.
          omega (arith, none_over x (default_most x) d (or_left (any_over x (default_most x) d) (any_over x (λ j k. premium_most x position k) p) e) j k u v, loss_most x j k v, width_most x l.tranches j);
      premiums_most = λ j k u v.
          omega (arith, premium_most_low x l position k, none_over x (λ j k. premium_most x position k) p (or_right (any_over x (default_most x) d) (any_over x (λ j k. premium_most x position k) p) e) j k u v);
    }
