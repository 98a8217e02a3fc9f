-- Legs that pay together what another pays: their exact values add exactly, their rounded values within their distances.
use Rattle.std.proofs.Common.{ℕ, zero, suc, ◌+◌, ◌*◌, ◌^◌, ◌≤◌, ◌<◌, ◌≡◌, refl, sym, ◌∙◌, ap, ap₂, List, [], ◌∷◌, arith}
use native.Mathlib.Nat.{one-le-pow}
use mathlib.Core.Path.{fun_ext}
use Rattle.cash.specs.Units.{B}
use Rattle.cash.specs.Near.{Near}
use Rattle.cash.specs.Sums.{sum_to}
use Rattle.cash.proofs.Nearness.{near_trans, near_as, near_swap, near_cancel}
use Rattle.cash.proofs.Rounding.{B_positive}
use Rattle.cash.proofs.Sums.{sum_cong, sum_times, sum_const, near_sum}
use Rattle.tree.specs.Paths.{Move, count_after, Cash, Tree, Fair, paid, path_sum, exact}
use Rattle.tree.specs.Backward.{Leg, Agrees, leg_value, leg_exact, leg_halves}
use Rattle.tree.proofs.PathSums.{path_sum_add}
use Rattle.tree.proofs.Distances.{leg_distance}

paid_add : (t : Tree) (u c : Cash) (d i k : ℕ) (ms : List Move) → paid t (λ s a m. u s a m + c s a m) d i k ms ≡ paid t u d i k ms + paid t c d i k ms
unfolding paid
paid_add t u c d i k [] = refl
paid_add t u c d i k (m ∷ ms) = omega (arith, paid_add t u c (d * t.discount (suc i)) (suc i) (count_after k m) ms)

pub exact_add : (t : Tree) (u c : Cash) (h i k : ℕ) → exact t (λ s a m. u s a m + c s a m) h i k ≡ exact t u h i k + exact t c h i k
unfolding exact
exact_add t u c h i k = ap (λ F. path_sum t F h i k) (fun_ext (paid_add t u c 1 i k)) ∙ path_sum_add t (paid t u 1 i k) (paid t c 1 i k) h i k

exact_sum : (t : Tree) (r : ℕ) (u : ℕ → Cash) (h i k : ℕ) → exact t (λ s a m. sum_to r (λ j. u j s a m)) h i k ≡ sum_to r (λ j. exact t (u j) h i k)
unfolding sum_to
exact_sum t zero u h i k = omega (arith, exact_add t (λ s a m. 0) (λ s a m. 0) h i k)
exact_sum t (suc r) u h i k =
    exact_add t (λ s a m. sum_to r (λ j. u j s a m)) (u r) h i k ∙ ap (λ x. x + exact t (u r) h i k) (exact_sum t r u h i k)

-- The legs g 0 to g (r - 1) pay together exactly what the leg p pays.
abbrev pub Spans : ℕ → (ℕ → Leg) → Leg → Type 0
Spans r g p = (s k : ℕ) (m : Move) → sum_to r (λ j. (g j).exactly s k m) ≡ p.exactly s k m

pub legs_exact : (t : Tree) (r : ℕ) (g : ℕ → Leg) (p : Leg) → Spans r g p → (h i k : ℕ) → sum_to r (λ j. leg_exact t (g j) h i k) ≡ leg_exact t p h i k
unfolding leg_exact
legs_exact t r g p spans h i k =
    sym (exact_sum t r (λ j. (g j).exactly) h i k) ∙ ap (λ u. exact t u h i k) (fun_ext (λ s. fun_ext (λ a. fun_ext (λ m. spans s a m))))

-- within the half units of all the rows used, whatever the rounding of each
pub legs_add : (t : Tree) → Fair t → (r : ℕ) (g : ℕ → Leg) (p : Leg) → ((j : ℕ) → Agrees (g j)) → Agrees p → Spans r g p → (h i k : ℕ) → k ≤ t.names →
    Near (sum_to r (λ j. leg_halves (g j) h i) + leg_halves p h i) (2 * sum_to r (λ j. leg_value t (g j) h i k)) (2 * leg_value t p h i k)
legs_add t fair r g p each whole spans h i k l =
    near_cancel S (one-le-pow (2 * h + 1) B B_positive)
    (near_as (near_trans parts (near_swap (leg_distance t fair p whole h i k l))) (omega arith) refl (omega arith))
  where
    S : ℕ
    S = B ^ (2 * h + 1)

    swapped : (x : ℕ) → 2 * (x * S) ≡ 2 * S * x
    swapped x = omega arith

    turned : (x : ℕ) → x * S ≡ S * x
    turned x = omega arith

    parts : Near (sum_to r (λ j. leg_halves (g j) h i) * S) (2 * sum_to r (λ j. leg_value t (g j) h i k) * S) (2 * leg_exact t p h i k)
    parts =
        near_as (near_sum r (λ j. leg_halves (g j) h i * S) _ _ (λ j j<r. leg_distance t fair (g j) (each j) h i k l))
        (omega (arith, sum_cong r (λ j. leg_halves (g j) h i * S) (λ j. S * leg_halves (g j) h i) (λ j j<r. turned (leg_halves (g j) h i)), sum_times S r (λ j. leg_halves (g j) h i)))
        (ap (sum_to r) (fun_ext (λ j. swapped (leg_value t (g j) h i k))) ∙ sum_times (2 * S) r (λ j. leg_value t (g j) h i k) ∙ omega arith)
        (sum_times 2 r (λ j. leg_exact t (g j) h i k) ∙ ap (λ x. 2 * x) (legs_exact t r g p spans h i k))

-- where all rows are rounded alike, r + 1 times that
pub legs_alike : (r x : ℕ) (g : ℕ → Leg) (p : Leg) (h i : ℕ) → ((j : ℕ) → j < r → leg_halves (g j) h i ≡ x) → leg_halves p h i ≡ x →
    sum_to r (λ j. leg_halves (g j) h i) + leg_halves p h i ≡ (r + 1) * x
legs_alike r x g p h i e f = ap₂ (λ a b. a + b) (sum_cong r _ (λ j. x) e ∙ sum_const x r) f ∙ omega arith
