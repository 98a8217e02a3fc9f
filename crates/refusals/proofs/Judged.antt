-- A test, and the proposition that holds just where the test is false.
use Rattle.std.proofs.Common.{ℕ, ◌≤◌, ◌<◌, ◌≡◌, refl, sym, ap, Bool, true, false, not, ◌||◌, ◌↔◌, ◌⊎◌, inl, inr, ⊎_elim, arith, ltb, leb, eqb}
use Rattle.std.proofs.Common.{ltb-false, leb-false, eqb-true, le-ltb, eq-eqb, ne_eqb}
use borrow.Author.Tests.{eqb-false, not-false, lt-leb}
use Rattle.rows.specs.Tables.{any}
use Rattle.rows.proofs.Search.{or_left, or_right, neither, any_missed, any_none}
use Rattle.lists.specs.Outside.{outside}
use Rattle.refusals.specs.Tests.{differs}

-- The proposition holds and the test is false, or it does not hold and the test is true.
abbrev pub Judged : Bool → Type 0 → Type 0
Judged b K = (K × (b ≡ false)) ⊎ ((¬ K) × (b ≡ true))

pub never : true ≡ false → ⊥
never e = let z : ◌≡◌ {A = ℕ} 0 1 = cc in omega arith

pub judged : {b : Bool} {K : Type 0} → (b ≡ false) ↔ K → Judged b K
judged {b} {K} m = go b m
  where
    go : (t : Bool) → (t ≡ false) ↔ K → Judged t K
    go false n = inl (n.0 refl, refl)
    go true n = inr (λ k. never (n.1 k), refl)

-- What a function that runs the test returns.
pub kept : {b : Bool} {K : Type 0} → (b ≡ false) ↔ K → K → false ≡ b
kept m k = sym (m.1 k)

pub broken : {b : Bool} {K : Type 0} → (b ≡ false) ↔ K → ¬ K → true ≡ b
broken m n = ⊎_elim (λ j. absurd (n j.0)) (λ j. sym j.1) (judged m)

pub or_fine : {a b : Bool} {P Q : Type 0} → (a ≡ false) ↔ P → (b ≡ false) ↔ Q → ((a || b) ≡ false) ↔ (P × Q)
or_fine {a} {b} p q = (λ e. (p.0 (or_left a b e), q.0 (or_right a b e)), λ m. neither a b (p.1 m.0) (q.1 m.1))

pub most_fine : (most y : ℕ) → (ltb most y ≡ false) ↔ (y ≤ most)
most_fine most y = (ltb-false most y, le-ltb most y)

pub rise_fine : (next before : ℕ) → (leb next before ≡ false) ↔ (before < next)
rise_fine next before = (leb-false next before, lt-leb next before)

pub outside_fine : (least most y : ℕ) → (outside least most y ≡ false) ↔ ((least ≤ y) × (y ≤ most))
outside_fine least most y = or_fine (most_fine y least) (most_fine most y)

pub differs_fine : (a b : ℕ) → (differs a b ≡ false) ↔ (a ≡ b)
differs_fine a b = (λ e. eqb-true a b (not-false (eqb a b) e), λ e. ap not (eq-eqb a b e))

pub some_fine : (a : ℕ) → (eqb a 0 ≡ false) ↔ (1 ≤ a)
some_fine a = (λ e. let n : a ≡ 0 → ⊥ = eqb-false a 0 e in omega arith, λ h. ne_eqb a 0 (λ e. omega arith))

-- If a test at a number is false just where P holds there, then no test of the first n is met just where P holds at each of them.
pub any_fine : (n : ℕ) {f : ℕ → Bool} {P : ℕ → Type 0} → ((i : ℕ) → (f i ≡ false) ↔ P i) → (any n f ≡ false) ↔ ((i : ℕ) → i < n → P i)
any_fine n {f} m = (λ e i h. (m i).0 (any_none n f e i h), λ p. any_missed n f (λ i h. (m i).1 (p i h)))
