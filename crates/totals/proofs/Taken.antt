-- The test of a book is whether it is taken.
use Rattle.std.proofs.Common.{ap, ◌∙◌, drop, drop_of_length-le, drop-cons, false, ◌<◌, ℕ, zero, suc, ◌≤◌, ◌≡◌, refl, sym, Bool, true, ◌&&◌}
use Rattle.std.proofs.Common.{true≢false, List, [], ◌∷◌, arith, eq-eqb, eqb-true, le-leb, leb-true, eqb, leb, ℤ, pos, nat_abs, length, get_or}
use borrow.Author.Tests.{lt-leb}
use borrow.Author.Tests.{lt-leb}
use Rattle.totals.specs.Totals.{Within, Taken, all_within, taken}

pub both : (a b : Bool) → (a && b) ≡ true → (a ≡ true) × (b ≡ true)
both true b e = (refl, e)
both false b e = absurd (true≢false (sym e))

-- ---- a list

within_more : (most : ℕ) (x : ℤ) (l : List ℤ) → all_within most (x ∷ l) ≡ (leb (nat_abs x) most && all_within most l)
unfolding all_within
within_more most x l = refl

within_none : (most : ℕ) → all_within most [] ≡ true
unfolding all_within
within_none most = refl

pub within_told : (most : ℕ) (l : List ℤ) → all_within most l ≡ true → Within most l
within_told most [] e i h = absurd (omega arith)
within_told most (x ∷ l) e i h =
    let (a, b) = both (leb (nat_abs x) most) (all_within most l) (sym (within_more most x l) ∙ e) in
    go (leb-true (nat_abs x) most a) (within_told most l b) i h
  where
    go : nat_abs x ≤ most → Within most l → Within most (x ∷ l)
    go a b zero h = a
    go a b (suc i) h = b i (omega arith)

pub within_tests : (most : ℕ) (l : List ℤ) → Within most l → all_within most l ≡ true
within_tests most [] w = within_none most
within_tests most (x ∷ l) w =
    within_more most x l ∙ simp (le-leb (nat_abs x) most (w 0 (omega arith)), within_tests most l (λ i h. w (suc i) (omega arith)))

-- The test part way: what was passed was within.
module _ (most : ℕ) (l : List ℤ) where
  pub record Passed (i : ℕ) : Type 0 where
    pub inside : i ≤ length l
    pub rest : all_within most (drop i l) ≡ all_within most l

  module _ (i : ℕ) (p : Passed i) where
    entry : i < length l → all_within most l ≡ (leb (nat_abs (get_or l i (pos 0))) most && all_within most (drop (suc i) l))
    entry h = sym p.rest ∙ ap (all_within most) (drop-cons l i (pos 0) h) ∙ within_more most (get_or l i (pos 0)) (drop (suc i) l)

    pub far : i < length l → most < nat_abs (get_or l i (pos 0)) → false ≡ all_within most l
    far h o = sym (entry h ∙ simp (lt-leb (nat_abs (get_or l i (pos 0))) most o))

    pub near : i < length l → nat_abs (get_or l i (pos 0)) ≤ most → Passed (suc i)
    near h o =
        record {
          inside = omega arith;
          rest = sym (entry h ∙ simp (le-leb (nat_abs (get_or l i (pos 0))) most o));
        }

    pub passed_all : length l ≤ i → true ≡ all_within most l
    passed_all h =
        sym (
        sym p.rest ∙ ap (all_within most) (drop_of_length-le l h) ∙ within_none most
        )

-- ---- the book

module _ (nominals values : List ℤ) where
  pub taken_told : taken nominals values ≡ true → Taken nominals values
  taken_told e =
      let (a, r) = both (eqb (length nominals) (length values)) _ e in
      let (b, q) = both (leb (length nominals) 4_096) _ r in
      let (c, d) = both (all_within 1_000_000 nominals) _ q in
      record {
        alike = eqb-true (length nominals) (length values) a;
        few = leb-true (length nominals) 4_096 b;
        nominals_within = within_told 1_000_000 nominals c;
        values_within = within_told 200_000_000_000_000_000 values d;
      }

  pub taken_tests : Taken nominals values → taken nominals values ≡ true
  taken_tests t =
      simp (
        eq-eqb (length nominals) (length values) t.alike,
        le-leb (length nominals) 4_096 t.few,
        within_tests 1_000_000 nominals t.nominals_within,
        within_tests 200_000_000_000_000_000 values t.values_within,
      )
