-- The long division of signed numbers: after i digits, the quotient and the rest, each by sign and size.
use Rattle.std.proofs.Common.{◌≡◌, refl, sym, ◌∙◌, ap, subst, Bool, true, false, ℕ, zero, ◌+◌, ◌*◌, ◌/◌, ◌%◌, ◌^◌, ◌<◌, ◌≤◌, mul-one, mul_assoc}
use Rattle.std.proofs.Common.{pow-suc, le-div_iff_mul-le, arith, eq-eqb, ne_eqb, le-leb, add-one, ℤ, pos, nat_abs, ◌+ℤ◌, ◌-ℤ◌}
use borrow.Author.Tests.{lt-leb}
use lib.Signed.{quot_z, rem_z}
use Rattle.std.specs.declared.result.Result.TheVariants.{Ok, Err}
use Rattle.hedges.specs.declared.NoRatio.TheVariants.{Flat, OffScale}
use Rattle.hedges.specs.Hedges.{negative, unlike, with_sign, ratio_of, hedge_of}
use Rattle.hedges.proofs.Machine.{two}
use Rattle.hedges.proofs.Signs.{signed_of, plus, quot, rem}
use Rattle.hedges.proofs.Division.{next_quotient, next_rest}

abbrev pub sign : ℤ → ℤ → Bool
sign s d = unlike (negative s) (negative d)

-- the tranche's jump with i zeros behind it
abbrev pub scaled : ℤ → ℕ → ℕ
scaled s i = nat_abs s * 10 ^ i

abbrev pub quotient_at : ℤ → ℤ → ℕ → ℤ
quotient_at s d i = with_sign (sign s d) (scaled s i / nat_abs d)

abbrev pub rest_at : ℤ → ℤ → ℕ → ℤ
rest_at s d i = with_sign (negative s) (scaled s i % nat_abs d)

more : (s : ℤ) (i : ℕ) → scaled s i * 10 ≡ scaled s (i + 1)
more s i = mul_assoc (nat_abs s) (10 ^ i) 10 ∙ ap (λ (n : ℕ). nat_abs s * n) (sym (pow-suc 10 i)) ∙ ap (λ (j : ℕ). nat_abs s * 10 ^ j) (sym (add-one i))

module _ (s d : ℤ) (h : zero < nat_abs d) where
  pub first_quotient : quot_z s d ≡ quotient_at s d 0
  first_quotient =
      two quot_z (signed_of s) (signed_of d) ∙ quot (negative s) (negative d) (nat_abs s) (nat_abs d) h
      ∙ ap (λ (n : ℕ). with_sign (sign s d) (n / nat_abs d)) (sym (mul-one (nat_abs s)))

  pub first_rest : rem_z s d ≡ rest_at s d 0
  first_rest =
      two rem_z (signed_of s) (signed_of d) ∙ rem (negative s) (negative d) (nat_abs s) (nat_abs d)
      ∙ ap (λ (n : ℕ). with_sign (negative s) (n % nat_abs d)) (sym (mul-one (nat_abs s)))

  -- from the numbers that a turn reads: r, the rest tenfold, and q, the quotient tenfold
  module _ (i : ℕ) where
    pub digit : {r d' : ℤ} → r ≡ with_sign (negative s) (scaled s i % nat_abs d * 10) → d' ≡ d → quot_z r d' ≡ with_sign (sign s d) (scaled s i % nat_abs d * 10 / nat_abs d)
    digit e f = two quot_z e (f ∙ signed_of d) ∙ quot (negative s) (negative d) (scaled s i % nat_abs d * 10) (nat_abs d) h

    pub quotient_next : {q r : ℤ} → q ≡ with_sign (sign s d) (scaled s i / nat_abs d * 10) → r ≡ with_sign (sign s d) (scaled s i % nat_abs d * 10 / nat_abs d) → q +ℤ r ≡ quotient_at s d (i + 1)
    quotient_next e f =
        two ◌+ℤ◌ e f ∙ plus (sign s d) (scaled s i / nat_abs d * 10) (scaled s i % nat_abs d * 10 / nat_abs d)
        ∙ ap (with_sign (sign s d)) (next_quotient (scaled s i) (nat_abs d) h ∙ ap (λ (n : ℕ). n / nat_abs d) (more s i))

    pub rest_next : {r d' : ℤ} → r ≡ with_sign (negative s) (scaled s i % nat_abs d * 10) → d' ≡ d → rem_z r d' ≡ rest_at s d (i + 1)
    rest_next e f =
        two rem_z e (f ∙ signed_of d) ∙ rem (negative s) (negative d) (scaled s i % nat_abs d * 10) (nat_abs d)
        ∙ ap (with_sign (negative s)) (next_rest (scaled s i) (nat_abs d) h ∙ ap (λ (n : ℕ). n % nat_abs d) (more s i))

-- ---- the answer
pub flat : (s d : ℤ) → nat_abs d ≡ 0 → hedge_of s d ≡ Err Flat
unfolding hedge_of
flat s d e = simp (eq-eqb (nat_abs d) 0 e)

module _ (s d : ℤ) (h : zero < nat_abs d) where
  pub off_scale : 1_000_000 ≤ scaled s 0 / nat_abs d → hedge_of s d ≡ Err OffScale
  unfolding hedge_of
  off_scale l = simp (ne_eqb (nat_abs d) 0 (λ e. omega arith), le-leb (1_000_000 * nat_abs d) (nat_abs s) (omega (arith, (le-div_iff_mul-le h).0 l)))

  pub answered : nat_abs s < 1_000_000 * nat_abs d → hedge_of s d ≡ Ok (ratio_of s d)
  unfolding hedge_of
  answered l = simp (ne_eqb (nat_abs d) 0 (λ e. omega arith), lt-leb (1_000_000 * nat_abs d) (nat_abs s) l)

pub one_less : {u : Bool} (n : ℕ) → u ≡ true → with_sign u n -ℤ pos 1 ≡ with_sign u (n + 1)
unfolding with_sign
one_less {u} n e = subst (λ (v : Bool). with_sign v n -ℤ pos 1 ≡ with_sign v (n + 1)) (sym e) (plus true n 1)

pub one_more : {u : Bool} (n : ℕ) → u ≡ false → with_sign u n +ℤ pos 1 ≡ with_sign u (n + 1)
unfolding with_sign
one_more {u} n e = subst (λ (v : Bool). with_sign v n +ℤ pos 1 ≡ with_sign v (n + 1)) (sym e) refl
