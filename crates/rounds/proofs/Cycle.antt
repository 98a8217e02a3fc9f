-- Places on a cycle: how far one lies ahead of another, and where it stands in the round from p. Assumes nothing.
use Rattle.std.proofs.Common.{◌≡◌, refl, ap, ◌∙◌, Bool, true, false, cond, ℕ, suc, ◌+◌, ◌-◌, ◌<◌, ◌≤◌, arith, ltb, eqb, lt-ltb, le-ltb, ltb-true}
use Rattle.std.proofs.Common.{ltb-false, eqb-true}
use borrow.Author.Tests.{eqb-false}
use Rattle.places.specs.Places.{next_place}
use Rattle.rounds.specs.Rounds.{ahead}
use Rattle.places.proofs.Laws.{next_more, next_wrap}

pub data Cmp (a b : ℕ) : Type 0 where
  below : a < b → Cmp a b
  above : b ≤ a → Cmp a b

cmp_at : (a b : ℕ) (t : Bool) → ltb a b ≡ t → Cmp a b
cmp_at a b true e = below (ltb-true a b e)
cmp_at a b false e = above (ltb-false a b e)

pub cmp : (a b : ℕ) → Cmp a b
cmp a b = cmp_at a b (ltb a b) refl

pub data Same (a b : ℕ) : Type 0 where
  same : a ≡ b → Same a b
  other : (a ≡ b → ⊥) → Same a b

same_at : (a b : ℕ) (t : Bool) → eqb a b ≡ t → Same a b
same_at a b true e = same (eqb-true a b e)
same_at a b false e = other (eqb-false a b e)

pub same? : (a b : ℕ) → Same a b
same? a b = same_at a b (eqb a b) refl

-- Where x stands in the round from p: 0 for p itself, then in cyclic order.
unfoldable pub rank : ℕ → ℕ → ℕ → ℕ
rank n p x = cond (ltb x p) (x + n - p) (x - p)

pub ahead_up : (n s x : ℕ) → s < x → ahead n s x ≡ x - s
unfolding ahead
ahead_up n s x h = rw (lt-ltb s x h)

pub ahead_round : (n s x : ℕ) → x ≤ s → ahead n s x ≡ x + n - s
unfolding ahead
ahead_round n s x h = rw (le-ltb s x h)

pub rank_lt : (n p x : ℕ) → x < p → rank n p x ≡ x + n - p
unfolding rank
rank_lt n p x h = rw (lt-ltb x p h)

pub rank_ge : (n p x : ℕ) → p ≤ x → rank n p x ≡ x - p
unfolding rank
rank_ge n p x h = rw (le-ltb x p h)

module _ (n : ℕ) where
  ahead_some_at : (s x : ℕ) → s < n → Cmp s x → 1 ≤ ahead n s x
  ahead_some_at s x hs (below h) = omega (arith, ahead_up n s x h)
  ahead_some_at s x hs (above h) = omega (arith, ahead_round n s x h)

  pub ahead_some : (s x : ℕ) → s < n → 1 ≤ ahead n s x
  ahead_some s x hs = ahead_some_at s x hs (cmp s x)

  -- Past the next place, all others are one step nearer.
  on_at : (s x : ℕ) → s < n → x < n → (x ≡ next_place n s → ⊥) → Cmp s x → Cmp (s + 1) n → Cmp (next_place n s) x →
      ahead n s x ≡ suc (ahead n (next_place n s) x)
  on_at s x hs hx ne (below h) (below m) (below g) = omega (arith, ahead_up n s x h, next_more n s m, ahead_up n (next_place n s) x g)
  on_at s x hs hx ne (below h) (below m) (above g) = absurd (ne (omega (arith, next_more n s m)))
  on_at s x hs hx ne (below h) (above m) g = absurd (omega arith)
  on_at s x hs hx ne (above h) (below m) (below g) = absurd (omega (arith, next_more n s m))
  on_at s x hs hx ne (above h) (below m) (above g) = omega (arith, ahead_round n s x h, next_more n s m, ahead_round n (next_place n s) x g)
  on_at s x hs hx ne (above h) (above m) (below g) = omega (arith, ahead_round n s x h, next_wrap n s m, ahead_up n (next_place n s) x g)
  on_at s x hs hx ne (above h) (above m) (above g) = absurd (ne (omega (arith, next_wrap n s m)))

  pub ahead_on : (s x : ℕ) → s < n → x < n → (x ≡ next_place n s → ⊥) → ahead n s x ≡ suc (ahead n (next_place n s) x)
  ahead_on s x hs hx ne = on_at s x hs hx ne (cmp s x) (cmp (s + 1) n) (cmp (next_place n s) x)

  next_at : (s : ℕ) → s < n → Cmp (s + 1) n → ahead n s (next_place n s) ≡ 1
  next_at s hs (below m) = ap (ahead n s) (next_more n s m) ∙ ahead_up n s (s + 1) (omega arith) ∙ (let z : s + 1 - s ≡ 1 = omega arith in z)
  next_at s hs (above m) = ap (ahead n s) (next_wrap n s m) ∙ ahead_round n s 0 (omega arith) ∙ (let z : 0 + n - s ≡ 1 = omega arith in z)

  pub ahead_next : (s : ℕ) → s < n → ahead n s (next_place n s) ≡ 1
  ahead_next s hs = next_at s hs (cmp (s + 1) n)

  module _ (p : ℕ) (hp : p < n) where
    ahead_at : (s y : ℕ) → s < n → y < n → (y ≡ p → ⊥) → ahead n s y ≤ ahead n s p → Cmp s y → Cmp s p → Cmp y p → rank n p s < rank n p y
    ahead_at s y hs hy ne h (below a) (below b) (below c) = omega (arith, ahead_up n s y a, ahead_up n s p b, rank_lt n p y c, rank_lt n p s b)
    ahead_at s y hs hy ne h (below a) (below b) (above c) = absurd (ne (omega (arith, ahead_up n s y a, ahead_up n s p b)))
    ahead_at s y hs hy ne h (below a) (above b) (below c) = absurd (omega arith)
    ahead_at s y hs hy ne h (below a) (above b) (above c) = omega (arith, rank_ge n p y c, rank_ge n p s b)
    ahead_at s y hs hy ne h (above a) (below b) (below c) = absurd (omega (arith, ahead_round n s y a, ahead_up n s p b))
    ahead_at s y hs hy ne h (above a) (below b) (above c) = absurd (omega arith)
    ahead_at s y hs hy ne h (above a) (above b) (below c) = omega (arith, rank_lt n p y c, rank_ge n p s b)
    ahead_at s y hs hy ne h (above a) (above b) (above c) = absurd (ne (omega (arith, ahead_round n s y a, ahead_round n s p b)))

    -- What is served before p stands later in the round.
    pub behind_last : (s y : ℕ) → s < n → y < n → (y ≡ p → ⊥) → ahead n s y ≤ ahead n s p → rank n p s < rank n p y
    behind_last s y hs hy ne h = ahead_at s y hs hy ne h (cmp s y) (cmp s p) (cmp y p)

    between_at : (s q y : ℕ) → s < n → q < n → y < n → rank n p s < rank n p q → rank n p q < rank n p y → Cmp s p → Cmp q p → Cmp y p → Cmp s q →
        Cmp s y → ahead n s q < ahead n s y
    between_at s q y hs hq hy h k (below a) (below b) (below c) (below d) (below e) =
        omega (arith, rank_lt n p q b, rank_lt n p y c, ahead_up n s q d, ahead_up n s y e)
    between_at s q y hs hq hy h k (below a) (below b) (below c) (below d) (above e) =
        absurd (omega (arith, rank_lt n p s a, rank_lt n p q b, rank_lt n p y c))
    between_at s q y hs hq hy h k (below a) (below b) (below c) (above d) e = absurd (omega (arith, rank_lt n p s a, rank_lt n p q b))
    between_at s q y hs hq hy h k (below a) (below b) (above c) d e = absurd (omega (arith, rank_lt n p q b, rank_ge n p y c))
    between_at s q y hs hq hy h k (below a) (above b) c d e = absurd (omega (arith, rank_lt n p s a, rank_ge n p q b))
    between_at s q y hs hq hy h k (above a) (below b) (below c) (below d) e = absurd (omega arith)
    between_at s q y hs hq hy h k (above a) (below b) (below c) (above d) (below e) = absurd (omega arith)
    between_at s q y hs hq hy h k (above a) (below b) (below c) (above d) (above e) =
        omega (arith, rank_lt n p q b, rank_lt n p y c, ahead_round n s q d, ahead_round n s y e)
    between_at s q y hs hq hy h k (above a) (below b) (above c) d e = absurd (omega (arith, rank_lt n p q b, rank_ge n p y c))
    between_at s q y hs hq hy h k (above a) (above b) (below c) (below d) (below e) = absurd (omega arith)
    between_at s q y hs hq hy h k (above a) (above b) (below c) (below d) (above e) = omega (arith, ahead_up n s q d, ahead_round n s y e)
    between_at s q y hs hq hy h k (above a) (above b) (below c) (above d) e = absurd (omega (arith, rank_ge n p s a, rank_ge n p q b))
    between_at s q y hs hq hy h k (above a) (above b) (above c) (below d) (below e) =
        omega (arith, rank_ge n p q b, rank_ge n p y c, ahead_up n s q d, ahead_up n s y e)
    between_at s q y hs hq hy h k (above a) (above b) (above c) (below d) (above e) =
        absurd (omega (arith, rank_ge n p s a, rank_ge n p q b, rank_ge n p y c))
    between_at s q y hs hq hy h k (above a) (above b) (above c) (above d) e = absurd (omega (arith, rank_ge n p s a, rank_ge n p q b))

    -- What stands between in the round lies between on the cycle.
    pub between : (s q y : ℕ) → s < n → q < n → y < n → rank n p s < rank n p q → rank n p q < rank n p y → ahead n s q < ahead n s y
    between s q y hs hq hy h k = between_at s q y hs hq hy h k (cmp s p) (cmp q p) (cmp y p) (cmp s q) (cmp s y)

    last_at : (s q : ℕ) → s < n → q < n → rank n p s < rank n p q → Cmp s p → Cmp q p → Cmp s q → ahead n s q < ahead n s p
    last_at s q hs hq h (below a) (below b) (below d) = omega (arith, ahead_up n s q d, ahead_up n s p a)
    last_at s q hs hq h (below a) (below b) (above d) = absurd (omega (arith, rank_lt n p s a, rank_lt n p q b))
    last_at s q hs hq h (below a) (above b) d = absurd (omega (arith, rank_lt n p s a, rank_ge n p q b))
    last_at s q hs hq h (above a) (below b) (below d) = absurd (omega arith)
    last_at s q hs hq h (above a) (below b) (above d) = omega (arith, ahead_round n s q d, ahead_round n s p a)
    last_at s q hs hq h (above a) (above b) (below d) = omega (arith, ahead_up n s q d, ahead_round n s p a)
    last_at s q hs hq h (above a) (above b) (above d) = absurd (omega (arith, rank_ge n p s a, rank_ge n p q b))

    -- p ends the round.
    pub ends_round : (s q : ℕ) → s < n → q < n → rank n p s < rank n p q → ahead n s q < ahead n s p
    ends_round s q hs hq h = last_at s q hs hq h (cmp s p) (cmp q p) (cmp s q)

    rank_at : (q y : ℕ) → q < n → y < n → rank n p q ≡ rank n p y → Cmp q p → Cmp y p → q ≡ y
    rank_at q y hq hy e (below a) (below b) = omega (arith, rank_lt n p q a, rank_lt n p y b)
    rank_at q y hq hy e (below a) (above b) = absurd (omega (arith, rank_lt n p q a, rank_ge n p y b))
    rank_at q y hq hy e (above a) (below b) = absurd (omega (arith, rank_ge n p q a, rank_lt n p y b))
    rank_at q y hq hy e (above a) (above b) = omega (arith, rank_ge n p q a, rank_ge n p y b)

    pub rank_tells : (q y : ℕ) → q < n → y < n → rank n p q ≡ rank n p y → q ≡ y
    rank_tells q y hq hy e = rank_at q y hq hy e (cmp q p) (cmp y p)

  self_rank : (p : ℕ) → rank n p p ≡ 0
  self_rank p = rank_ge n p p (omega arith) ∙ (let z : p - p ≡ 0 = omega arith in z)

  rank_pos_at : (p q : ℕ) → p < n → (q ≡ p → ⊥) → Cmp q p → 1 ≤ rank n p q
  rank_pos_at p q hp ne (below a) = omega (arith, rank_lt n p q a)
  rank_pos_at p q hp ne (above a) = omega (arith, rank_ge n p q a, ne)

  pub first_rank : (p q : ℕ) → p < n → (q ≡ p → ⊥) → rank n p p < rank n p q
  first_rank p q hp ne = omega (arith, self_rank p, rank_pos_at p q hp ne (cmp q p))

-- ---- places tell themselves apart by how far they lie ahead

tells_at : (n s p q : ℕ) → p < n → q < n → s < n → ahead n s p ≡ ahead n s q → Cmp s p → Cmp s q → p ≡ q
tells_at n s p q hp hq hs e (below a) (below b) = omega (arith, e, ahead_up n s p a, ahead_up n s q b)
tells_at n s p q hp hq hs e (below a) (above b) = absurd (omega (arith, e, ahead_up n s p a, ahead_round n s q b))
tells_at n s p q hp hq hs e (above a) (below b) = absurd (omega (arith, e, ahead_round n s p a, ahead_up n s q b))
tells_at n s p q hp hq hs e (above a) (above b) = omega (arith, e, ahead_round n s p a, ahead_round n s q b)

pub ahead_tells : (n s p q : ℕ) → s < n → p < n → q < n → ahead n s p ≡ ahead n s q → p ≡ q
ahead_tells n s p q hs hp hq e = tells_at n s p q hp hq hs e (cmp s p) (cmp s q)

most_at : (n s x : ℕ) → s < n → x < n → Cmp s x → ahead n s x ≤ n
most_at n s x hs hx (below a) = omega (arith, ahead_up n s x a)
most_at n s x hs hx (above a) = omega (arith, ahead_round n s x a)

pub ahead_most : (n s x : ℕ) → s < n → x < n → ahead n s x ≤ n
ahead_most n s x hs hx = most_at n s x hs hx (cmp s x)
