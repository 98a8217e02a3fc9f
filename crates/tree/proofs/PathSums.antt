-- Laws of the sums over lists of moves: the first move, sums and multiples, the total chance, and the exact value by its first move.
use Rattle.std.proofs.Common.{ℕ, zero, suc, ◌+◌, ◌-◌, ◌*◌, ◌^◌, ◌≤◌, ◌<◌, mul_assoc, mul-add, add-mul, mul_left_comm, add-sub_of_le, mul-one, one-mul}
use Rattle.std.proofs.Common.{pow-suc, zero-mul, mul-le-mul_left, eq-or-lt_of_le, ◌≡◌, refl, sym, ◌∙◌, ap, ap₂, Bool, true, false, ◌&&◌, cond, List}
use Rattle.std.proofs.Common.{[], ◌∷◌, ◌++◌, map, ◌⊎◌, inl, inr, arith, length, leb, T, le→leb}
use native.Mathlib.Nat.{pow-succ', pow-zero}
use mathlib.Core.Path.{fun_ext}
use Rattle.cash.specs.Units.{B}
use Rattle.tree.specs.Paths.{Move, survive, default, count_after, Cash, Tree, Fair, chance, all_moves, keeps, those, paths, weight, paid, total, path_sum, exact}

-- ---- sums over lists

total_append : (f : List Move → ℕ) (l r : List (List Move)) → total f (l ++ r) ≡ total f l + total f r
unfolding total
total_append f [] r = omega arith
total_append f (ms ∷ l) r = omega (arith, total_append f l r)

total_map : (f : List Move → ℕ) (g : List Move → List Move) (l : List (List Move)) → total f (map g l) ≡ total (λ ms. f (g ms)) l
unfolding total
total_map f g [] = refl
total_map f g (ms ∷ l) = omega (arith, total_map f g l)

total_add : (f g : List Move → ℕ) (l : List (List Move)) → total (λ ms. f ms + g ms) l ≡ total f l + total g l
unfolding total
total_add f g [] = refl
total_add f g (ms ∷ l) = omega (arith, total_add f g l)

total_times : (c : ℕ) (f : List Move → ℕ) (l : List (List Move)) → total (λ ms. c * f ms) l ≡ c * total f l
unfolding total
total_times c f [] = omega arith
total_times c f (ms ∷ l) = omega (arith, total_times c f l)

-- ---- the lists for which a test holds

those_append : (ok : List Move → Bool) (l r : List (List Move)) → those ok (l ++ r) ≡ those ok l ++ those ok r
unfolding those
those_append ok [] r = refl
those_append ok (ms ∷ l) r = go (ok ms) (those_append ok l r)
  where
    go : (b : Bool) → those ok (l ++ r) ≡ those ok l ++ those ok r →
        cond b (ms ∷ those ok (l ++ r)) (those ok (l ++ r)) ≡ cond b (ms ∷ those ok l) (those ok l) ++ those ok r
    go true e = ap (λ x. ms ∷ x) e
    go false e = e

those_map : (ok : List Move → Bool) (g : List Move → List Move) (l : List (List Move)) → those ok (map g l) ≡ map g (those (λ ms. ok (g ms)) l)
unfolding those
those_map ok g [] = refl
those_map ok g (ms ∷ l) = go (ok (g ms)) (those_map ok g l)
  where
    go : (b : Bool) → those ok (map g l) ≡ map g (those (λ x. ok (g x)) l) →
        cond b (g ms ∷ those ok (map g l)) (those ok (map g l)) ≡ map g (cond b (ms ∷ those (λ x. ok (g x)) l) (those (λ x. ok (g x)) l))
    go true e = ap (λ x. g ms ∷ x) e
    go false e = e

those_none : (l : List (List Move)) → those (λ ms. false) l ≡ []
unfolding those
those_none [] = refl
those_none (ms ∷ l) = those_none l

-- the lists that begin with the move m, of which the rest is a list from the count after m
begin : (n k : ℕ) (m : Move) (f : List Move → ℕ) (l : List (List Move)) →
    total f (those (keeps n k) (map (λ ms. m ∷ ms) l)) ≡ cond (leb (count_after k m) n) (total (λ ms. f (m ∷ ms)) (those (keeps n (count_after k m)) l)) 0
unfolding keeps total
begin n k m f l =
    ap (total f) (those_map (keeps n k) (λ ms. m ∷ ms) l)
    ∙ total_map f (λ ms. m ∷ ms) (those (λ ms. keeps n k (m ∷ ms)) l)
    ∙ go (leb (count_after k m) n)
  where
    go : (b : Bool) →
        total (λ ms. f (m ∷ ms)) (those (λ ms. b && keeps n (count_after k m) ms) l) ≡ cond b (total (λ ms. f (m ∷ ms)) (those (keeps n (count_after k m)) l)) 0
    go true = refl
    go false = ap (total (λ ms. f (m ∷ ms))) (those_none l)

-- ---- a default from a count, which has a chance only below the number of names

pub default_case : (t : Tree) → Fair t → (s k : ℕ) → k ≤ t.names → (k < t.names) ⊎ (t.hazard s k ≡ 0)
default_case t fair s k l = go (eq-or-lt_of_le l)
  where
    go : (k ≡ t.names) ⊎ (k < t.names) → (k < t.names) ⊎ (t.hazard s k ≡ 0)
    go (inl e) = inr (ap (t.hazard s) e ∙ fair.last s)
    go (inr g) = inl g

pub default_eq : (t : Tree) → Fair t → (s k : ℕ) → k ≤ t.names → (a b : ℕ) → (k < t.names → a ≡ b) → t.hazard s k * a ≡ t.hazard s k * b
default_eq t fair s k l a b f = go (default_case t fair s k l)
  where
    go : (k < t.names) ⊎ (t.hazard s k ≡ 0) → t.hazard s k * a ≡ t.hazard s k * b
    go (inl g) = ap (λ x. t.hazard s k * x) (f g)
    go (inr e) = rw e (zero-mul a ∙ sym (zero-mul b))

pub default_le : (t : Tree) → Fair t → (s k : ℕ) → k ≤ t.names → (a b : ℕ) → (k < t.names → a ≤ b) → t.hazard s k * a ≤ t.hazard s k * b
default_le t fair s k l a b f = go (default_case t fair s k l)
  where
    go : (k < t.names) ⊎ (t.hazard s k ≡ 0) → t.hazard s k * a ≤ t.hazard s k * b
    go (inl g) = mul-le-mul_left (t.hazard s k) (f g)
    go (inr e) = rw e (omega arith)

-- ---- the first move

guarded : (b : Bool) (c x : ℕ) → T b ⊎ (c ≡ 0) → cond b (c * x) 0 ≡ c * x
guarded true c x h = refl
guarded false c x (inr e) = omega (arith, ap (λ y. y * x) e)
guarded false c x (inl a) = elim a [ ]

-- the lists that begin with m: the chance of m, times the sum over the lists that follow
first : (t : Tree) (f : List Move → ℕ) (h i k : ℕ) (m : Move) → T (leb (count_after k m) t.names) ⊎ (chance t (suc i) k m ≡ 0) →
    total (λ ms. weight t i k ms * f ms) (those (keeps t.names k) (map (λ ms. m ∷ ms) (all_moves h)))
    ≡ chance t (suc i) k m * path_sum t (λ ms. f (m ∷ ms)) h (suc i) (count_after k m)
unfolding weight path_sum paths
first t f h i k m g =
    begin t.names k m (λ ms. weight t i k ms * f ms) (all_moves h)
    ∙ ap (λ x. cond (leb (count_after k m) t.names) x 0) (simp (mul_assoc, total_times))
    ∙ guarded (leb (count_after k m) t.names) _ _ g

-- the sum over the lists of one move more, by the first move
pub path_sum_step : (t : Tree) → Fair t → (f : List Move → ℕ) (h i k : ℕ) → k ≤ t.names →
    path_sum t f (suc h) i k ≡
    t.hazard (suc i) k * path_sum t (λ ms. f (default ∷ ms)) h (suc i) (suc k)
    + (B - t.hazard (suc i) k) * path_sum t (λ ms. f (survive ∷ ms)) h (suc i) k
unfolding path_sum paths all_moves
path_sum_step t fair f h i k l =
    ap (total W) (those_append (keeps t.names k) (map (λ ms. default ∷ ms) (all_moves h)) (map (λ ms. survive ∷ ms) (all_moves h)))
    ∙ total_append W (those (keeps t.names k) (map (λ ms. default ∷ ms) (all_moves h))) (those (keeps t.names k) (map (λ ms. survive ∷ ms) (all_moves h)))
    ∙ ap₂ (λ x y. x + y) (first t f h i k default (go (default_case t fair (suc i) k l))) (first t f h i k survive (inl (le→leb _ _ l)))
  where
    W : List Move → ℕ
    W ms = weight t i k ms * f ms

    go : (k < t.names) ⊎ (t.hazard (suc i) k ≡ 0) → T (leb (suc k) t.names) ⊎ (t.hazard (suc i) k ≡ 0)
    go (inl g) = inl (le→leb _ _ g)
    go (inr e) = inr e

pub path_sum_zero : (t : Tree) (f : List Move → ℕ) (i k : ℕ) → path_sum t f 0 i k ≡ f []
unfolding path_sum paths all_moves those keeps total weight
path_sum_zero t f i k = omega arith

pub path_sum_add : (t : Tree) (f g : List Move → ℕ) (h i k : ℕ) → path_sum t (λ ms. f ms + g ms) h i k ≡ path_sum t f h i k + path_sum t g h i k
unfolding path_sum
path_sum_add t f g h i k = simp (mul-add, total_add)

pub path_sum_times : (t : Tree) (c : ℕ) (f : List Move → ℕ) (h i k : ℕ) → path_sum t (λ ms. c * f ms) h i k ≡ c * path_sum t f h i k
unfolding path_sum
path_sum_times t c f h i k =
    ap (λ F. total F (paths t.names h k)) (fun_ext (λ ms. mul_left_comm (weight t i k ms) c (f ms)))
    ∙ total_times c (λ ms. weight t i k ms * f ms) (paths t.names h k)

-- ---- the total chance

-- chances p and B - p of one figure
pub mixed : (p x : ℕ) → p ≤ B → p * x + (B - p) * x ≡ B * x
mixed p x h = sym (add-mul p (B - p) x) ∙ ap (λ y. y * x) (add-sub_of_le h)

longer : (t : Tree) (c h i k : ℕ) → path_sum t (λ ms. c ^ suc (length ms)) h i k ≡ c * path_sum t (λ ms. c ^ length ms) h i k
longer t c h i k = ap (λ F. path_sum t F h i k) (fun_ext (λ ms. pow-succ' c (length ms))) ∙ path_sum_times t c (λ ms. c ^ length ms) h i k

-- the weights of all lists, each times a power of c, add to (B c) ^ h
chances : (t : Tree) → Fair t → (c h i k : ℕ) → k ≤ t.names → path_sum t (λ ms. c ^ length ms) h i k ≡ B ^ h * c ^ h
chances t fair c zero i k l = path_sum_zero t (λ ms. c ^ length ms) i k ∙ simp (pow-zero, one-mul)
chances t fair c (suc h) i k l =
    path_sum_step t fair (λ ms. c ^ length ms) h i k l
    ∙ ap₂ (λ x y. x + y)
    (default_eq t fair (suc i) k l _ (c * (B ^ h * c ^ h)) (λ g. longer t c h (suc i) (suc k) ∙ ap (λ x. c * x) (chances t fair c h (suc i) (suc k) g)))
    (ap (λ x. (B - t.hazard (suc i) k) * x) (longer t c h (suc i) k ∙ ap (λ x. c * x) (chances t fair c h (suc i) k l)))
    ∙ mixed (t.hazard (suc i) k) (c * (B ^ h * c ^ h)) (fair.sure (suc i) k)
    ∙ simp pow-suc (omega arith)

one_pow : (h : ℕ) → 1 ^ h ≡ 1
one_pow zero = refl
one_pow (suc h) = pow-suc 1 h ∙ ap (λ x. x * 1) (one_pow h)

-- the chances of all lists of h moves add to certainty
pub total_chance : (t : Tree) → Fair t → (h i k : ℕ) → k ≤ t.names → path_sum t (λ ms. 1) h i k ≡ B ^ h
total_chance t fair h i k l =
    ap (λ F. path_sum t F h i k) (fun_ext (λ ms. sym (one_pow (length ms))))
    ∙ chances t fair 1 h i k l
    ∙ ap (λ x. B ^ h * x) (one_pow h)
    ∙ mul-one (B ^ h)

-- ---- the exact value by its first move

-- cash brought back by d is d times the cash
paid_back : (t : Tree) (u : Cash) (d i k : ℕ) (ms : List Move) → paid t u d i k ms ≡ d * paid t u 1 i k ms
unfolding paid
paid_back t u d i k [] = omega arith
paid_back t u d i k (m ∷ ms) =
    rw (paid_back t u (d * t.discount (suc i)) (suc i) (count_after k m) ms, paid_back t u (1 * t.discount (suc i)) (suc i) (count_after k m) ms) (omega arith)

twice : (h : ℕ) → 2 * suc h ≡ suc (suc (2 * h))
twice h = omega arith

powers : (h : ℕ) → B ^ h * B ^ h ≡ B ^ (2 * h)
powers zero = simp pow-zero
powers (suc h) = rw twice (simp pow-suc (omega (arith, ap (λ x. x * (B * B)) (powers h))))

-- the cash of the lists that begin with m
branch : (t : Tree) → Fair t → (u : Cash) (h i k : ℕ) (m : Move) → count_after k m ≤ t.names →
    path_sum t (λ ms. paid t u 1 i k (m ∷ ms)) h (suc i) (count_after k m)
    ≡ t.discount (suc i) * (exact t u h (suc i) (count_after k m) + u (suc i) k m * B ^ (2 * h))
unfolding paid exact
branch t fair u h i k m l =
    ap (λ F. path_sum t F h (suc i) (count_after k m)) (fun_ext (λ ms. ap (λ x. 1 * v * c * B ^ length ms + x) (paid_back t u (1 * v) (suc i) (count_after k m) ms)))
    ∙ path_sum_add t (λ ms. 1 * v * c * B ^ length ms) (λ ms. 1 * v * paid t u 1 (suc i) (count_after k m) ms) h (suc i) (count_after k m)
    ∙ ap₂ (λ x y. x + y)
    (path_sum_times t (1 * v * c) (λ ms. B ^ length ms) h (suc i) (count_after k m)
    ∙ ap (λ x. 1 * v * c * x) (chances t fair B h (suc i) (count_after k m) l ∙ powers h))
    (path_sum_times t (1 * v) (paid t u 1 (suc i) (count_after k m)) h (suc i) (count_after k m))
    ∙ omega arith
  where
    v : ℕ
    v = t.discount (suc i)

    c : ℕ
    c = u (suc i) k m

pub exact_step : (t : Tree) → Fair t → (u : Cash) (h i k : ℕ) → k ≤ t.names →
    exact t u (suc h) i k ≡
    t.discount (suc i) * (t.hazard (suc i) k * (exact t u h (suc i) (suc k) + u (suc i) k default * B ^ (2 * h))
    + (B - t.hazard (suc i) k) * (exact t u h (suc i) k + u (suc i) k survive * B ^ (2 * h)))
exact_step t fair u h i k l =
    unfold exact in path_sum_step t fair (paid t u 1 i k) h i k l
    ∙ ap₂ (λ x y. x + y)
    (default_eq t fair (suc i) k l _ _ (λ g. branch t fair u h i k default g))
    (ap (λ x. (B - t.hazard (suc i) k) * x) (branch t fair u h i k survive l))
    ∙ omega arith

pub exact_zero : (t : Tree) (u : Cash) (i k : ℕ) → exact t u 0 i k ≡ 0
unfolding exact paid
exact_zero t u i k = path_sum_zero t (paid t u 1 i k) i k
