-- A table whose rows of w entries are worked on, one after another.
use Rattle.std.proofs.Common.{ℕ, ◌+◌, ◌-◌, ◌*◌, ◌≤◌, ◌<◌, ◌≡◌, refl, ap, sym, ◌∙◌, subst, List, arith, length, get_or, take, drop, length-drop}
use Rattle.std.proofs.Common.{ext_get_or, length-take-le, get_or-take, get_or-drop}
use native.Mathlib.Decide.{dec_lt, ℕ_discrete}
use Rattle.std.specs.Fork.{slice_chunk}
use Rattle.rows.specs.Tables.{tab, entry, grid}
use Rattle.rows.proofs.Tables.{get_d_tab, is_grid}
use Rattle.rows.proofs.Parts.{room}
use Rattle.rows.proofs.Sweep.{put, put_before, put_in, put_after, length_put}

pub chunk_long : (xs : List ℕ) (r w j : ℕ) → length xs ≡ r * w → j < r → length (slice_chunk xs w j) ≡ w
chunk_long xs r w j long h = length-take-le w (drop (j * w) xs) (omega (arith, length-drop (j * w) xs, room j r w h))

pub chunk_at : (xs : List ℕ) (w j k : ℕ) → k < w → get_or (slice_chunk xs w j) k 0 ≡ get_or xs (j * w + k) 0
chunk_at xs w j k h = get_or-take w (drop (j * w) xs) k 0 h ∙ get_or-drop (j * w) xs k 0

pub chunk_entry : (xs : List ℕ) (w j k : ℕ) → k < w → get_or (slice_chunk xs w j) k 0 ≡ entry w xs j k
unfolding entry
chunk_entry xs w j k h = chunk_at xs w j k h

chunk_same : (xs ys : List ℕ) (r w j : ℕ) → length xs ≡ r * w → length ys ≡ r * w → j < r
    → ((k : ℕ) → k < w → get_or xs (j * w + k) 0 ≡ get_or ys (j * w + k) 0) → slice_chunk xs w j ≡ slice_chunk ys w j
chunk_same xs ys r w j p q h e =
    ext_get_or 0 _ _ (chunk_long xs r w j p h ∙ sym (chunk_long ys r w j q h))
    (λ k l.
    let m : k < w = omega (arith, chunk_long xs r w j p h) in
    chunk_at xs w j k m ∙ e k m ∙ sym (chunk_at ys w j k m))

-- Rows xs stand at ys: of those below j each is worked on by R, and the others are as they were.
pub record Worked (R : ℕ → List ℕ → List ℕ → Type 0) (r w : ℕ) (xs ys : List ℕ) (j : ℕ) : Type 0 where
  pub same : length ys ≡ length xs
  pub passed : (i : ℕ) → i < j → R i (slice_chunk xs w i) (slice_chunk ys w i)
  pub ahead : (i : ℕ) → j ≤ i → i < r → slice_chunk ys w i ≡ slice_chunk xs w i

-- the row j comes back as zs
module _ (ys zs : List ℕ) (r w j : ℕ) (long : length ys ≡ r * w) (inside : j < r) (as_many : length zs ≡ w) where
  fit : j * w + w ≤ length ys
  fit = omega (arith, room j r w inside)

  put_long : length (put (j * w) w ys zs) ≡ r * w
  put_long = length_put (j * w) w ys zs fit as_many ∙ long

  pub chunk_put : slice_chunk (put (j * w) w ys zs) w j ≡ zs
  chunk_put =
      ext_get_or 0 _ zs (chunk_long _ r w j put_long inside ∙ sym as_many)
      (λ k l.
      let m : k < w = omega (arith, chunk_long _ r w j put_long inside) in
      chunk_at _ w j k m ∙ put_in (j * w) w ys zs fit as_many k m)

  pub chunk_kept : (i : ℕ) → i < r → (i ≡ j → ⊥) → slice_chunk (put (j * w) w ys zs) w i ≡ slice_chunk ys w i
  chunk_kept i h ne = chunk_same _ ys r w i put_long long h (λ k m. go k m (dec_lt i j))
    where
      go : (k : ℕ) → k < w → Dec (i < j) → get_or (put (j * w) w ys zs) (i * w + k) 0 ≡ get_or ys (i * w + k) 0
      go k m (yes p) = put_before (j * w) w ys zs fit as_many (i * w + k) (omega (arith, room i j w p))
      go k m (no p) =
          let q : j < i = omega (arith, ne) in
          let n : ℕ = i * w + k - (j * w + w) in
          let e : i * w + k ≡ j * w + (w + n) = omega (arith, room j i w q) in
          ap (λ (y : ℕ). get_or (put (j * w) w ys zs) y 0) e
          ∙ put_after (j * w) w ys zs fit as_many n
          ∙ ap (λ (y : ℕ). get_or ys y 0) (sym e)

pub worked_more : (R : ℕ → List ℕ → List ℕ → Type 0) (r w : ℕ) (xs ys zs : List ℕ) (j : ℕ) → Worked R r w xs ys j
    → length xs ≡ r * w → j < r → length zs ≡ w → R j (slice_chunk xs w j) zs → Worked R r w xs (put (j * w) w ys zs) (j + 1)
worked_more R r w xs ys zs j s long inside as_many h =
    record {
      same = length_put (j * w) w ys zs (omega (arith, room j r w inside, s.same)) as_many ∙ s.same;
      passed = λ i q. go i q (ℕ_discrete i j);
      ahead = λ i p q. chunk_kept ys zs r w j (s.same ∙ long) inside as_many i q (omega arith) ∙ s.ahead i (omega arith) q;
    }
  where
    go : (i : ℕ) → i < j + 1 → Dec (i ≡ j) → R i (slice_chunk xs w i) (slice_chunk (put (j * w) w ys zs) w i)
    go i q (yes p) =
        subst (λ n. R n (slice_chunk xs w n) (slice_chunk (put (j * w) w ys zs) w n)) (sym p)
        (subst (R j (slice_chunk xs w j)) (sym (chunk_put ys zs r w j (s.same ∙ long) inside as_many)) h)
    go i q (no p) =
        subst (R i (slice_chunk xs w i)) (sym (chunk_kept ys zs r w j (s.same ∙ long) inside as_many i (omega arith) p)) (s.passed i (omega (arith, p)))

-- the turn's row is lent from a on, m long
module _ {R : ℕ → List ℕ → List ℕ → Type 0} {r w : ℕ} {xs ys : List ℕ} {j : ℕ} (s : Worked R r w xs ys j) (inside : j < r) (a m : ℕ) (a_is : a ≡ j * w) (m_is : m ≡ w) where
  pub worked_here : take m (drop a ys) ≡ slice_chunk xs w j
  worked_here = (λ t. take (m_is t) (drop (a_is t) ys)) ∙ s.ahead j (omega arith) inside

  pub worked_next : (zs : List ℕ) → length xs ≡ r * w → length zs ≡ length (take m (drop a ys)) → R j (slice_chunk xs w j) zs → Worked R r w xs (put a m ys zs) (j + 1)
  worked_next zs long as_many h =
      rw (m_is, a_is) (worked_more R r w xs ys zs j s long inside (as_many ∙ ap length worked_here ∙ chunk_long xs r w j long inside) h)

-- rows that follow a rule each are the rule's rows
pub chunks_grid : (l : List ℕ) (r w : ℕ) (f : ℕ → ℕ → ℕ) → 0 < w → length l ≡ r * w
    → ((j : ℕ) → j < r → slice_chunk l w j ≡ tab w (f j)) → l ≡ grid r w f
chunks_grid l r w f z long h =
    is_grid l r w f z long
    (λ j k p q. sym (chunk_entry l w j k q) ∙ ap (λ (c : List ℕ). get_or c k 0) (h j p) ∙ get_d_tab w (f j) k q)
