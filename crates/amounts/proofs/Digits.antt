-- The digits of a number in two parts, and how they are written.
use Rattle.std.proofs.Common.{ℕ, zero, suc, ◌+◌, ◌*◌, ◌-◌, ◌/◌, ◌%◌, ◌^◌, ◌<◌, ◌≤◌, ◌≡◌, refl, sym, ap, ◌∙◌, subst, List, [], ◌∷◌, ◌++◌, append_assoc}
use Rattle.std.proofs.Common.{append-nil, mul_assoc, mul-le-mul, mul_comm, mul-one, pow-suc, arith, length, length-append, set}
use lib.Seq.{sets}
use Rattle.lines.specs.Text.{decimal, Wrote}
use Rattle.lines.proofs.Laws.{decimal_large, wrote_both, wrote_byte}
use Rattle.amounts.specs.Amounts.{padded}

pub padded_more : (k n : ℕ) → padded (suc k) n ≡ padded k (n / 10) ++ ((48 + n % 10) ∷ [])
unfolding padded
padded_more k n = refl

padded_none : (n : ℕ) → padded 0 n ≡ []
unfolding padded
padded_none n = refl

pub length_padded : (k n : ℕ) → length (padded k n) ≡ k
length_padded zero n = ap length (padded_none n)
length_padded (suc k) n =
    ap length (padded_more k n) ∙ length-append (padded k (n / 10)) ((48 + n % 10) ∷ []) ∙ omega (arith, length_padded k (n / 10))

one_le : (k : ℕ) → 1 ≤ 10 ^ k
one_le zero = omega arith
one_le (suc k) = omega (arith, pow-suc 10 k, one_le k)

-- Behind the digits of the high part, k digits of the low one.
pub joined : (k h l : ℕ) → 1 ≤ h → l < 10 ^ k → decimal (h * 10 ^ k + l) ≡ decimal h ++ padded k l
joined zero h l some small =
    ap decimal (omega (arith, mul-one h)) ∙ sym (append-nil (decimal h)) ∙ ap (λ (t : List ℕ). decimal h ++ t) (sym (padded_none l))
joined (suc k) h l some small =
    decimal_large n (omega (arith, tens, least))
    ∙ ap (λ (x : ℕ). decimal x ++ ((48 + n % 10) ∷ [])) (let z : n / 10 ≡ h * 10 ^ k + l / 10 = omega (arith, tens) in z)
    ∙ ap (λ (x : ℕ). decimal (h * 10 ^ k + l / 10) ++ ((48 + x) ∷ [])) (let z : n % 10 ≡ l % 10 = omega (arith, tens) in z)
    ∙ ap (λ (t : List ℕ). t ++ ((48 + l % 10) ∷ [])) (joined k h (l / 10) some (omega (arith, pow-suc 10 k)))
    ∙ append_assoc (decimal h) (padded k (l / 10)) ((48 + l % 10) ∷ []) ∙ ap (λ (t : List ℕ). decimal h ++ t) (sym (padded_more k l))
  where
    n : ℕ
    n = h * 10 ^ suc k + l

    tens : h * 10 ^ suc k ≡ 10 * (h * 10 ^ k)
    tens = ap (λ (x : ℕ). h * x) (pow-suc 10 k) ∙ sym (mul_assoc h (10 ^ k) 10) ∙ mul_comm (h * 10 ^ k) 10

    least : 1 ≤ h * 10 ^ k
    least = let z = mul-le-mul some (one_le k) in omega (arith, z)

-- Writing the last digits.
pub padded_end : (before : List ℕ) (at k n : ℕ) → k < 1 → Wrote before at (padded k n) before at
padded_end before at k n h =
    record {
      bytes = ap (sets before at) (sym none);
      stop = omega (arith, ap length none);
    }
  where
    none : padded k n ≡ []
    none = ap (λ (j : ℕ). padded j n) (let z : k ≡ 0 = omega arith in z) ∙ padded_none n

pub padded_step : (before mid : List ℕ) (at k n m : ℕ) → 1 ≤ k → Wrote before at (padded (k - 1) (n / 10)) mid m →
    Wrote before at (padded k n) (set mid m (48 + n % 10)) (m + 1)
padded_step before mid at k n m h w =
    subst (λ (t : List ℕ). Wrote before at t (set mid m (48 + n % 10)) (m + 1))
    (sym (padded_more (k - 1) n) ∙ ap (λ (j : ℕ). padded j n) (let z : suc (k - 1) ≡ k = omega arith in z))
    (wrote_both w (wrote_byte mid m (48 + n % 10)))
