-- `hedges::hedge_ratio` meets its contract. The invariant: after `counter` digits the quotient and the rest are those of the tranche
-- with so many zeros behind it, divided by the index.
use Rattle.std.proofs.Common.{◌≡◌, refl, sym, ◌∙◌, ap, Bool, true, false, ℕ, ◌+◌, ◌*◌, ◌/◌, ◌%◌, ◌^◌, ◌≤◌, ◌<◌, mod-lt, div-lt_iff_lt-mul}
use Rattle.std.proofs.Common.{div-le_self, arith, ℤ, pos, nat_abs, ◌+ℤ◌, ◌-ℤ◌, ◌*ℤ◌, w64, SFits, to_z, of_z}
use lib.Signed.{quot_z, rem_z}
use Rattle.std.specs.declared.result.Result.TheVariants.{Ok, Err}
use Rattle.hedges.specs.declared.NoRatio.TheVariants.{OffScale}
use Rattle.hedges.specs.Hedges.{negative, with_sign, millionths, ratio_of, hedge_of}
use Rattle.hedges.proofs.Machine.{fits_signed, back_signed}
use Rattle.hedges.proofs.Negated.{read, read_is}
use Rattle.hedges.proofs.Signs.{size_of, zero_of, times}
use Rattle.hedges.proofs.Division.{quotient_small, down, up}
use Rattle.hedges.proofs.Long.{sign, scaled, quotient_at, rest_at, first_quotient, first_rest, digit, quotient_next, rest_next, flat, off_scale, answered, one_less, one_more}
use Rattle.hedges.proofs.hedge_ratio.Goals as goal
use Rattle.hedges.proofs.hedge_ratio.Goals.{Start, Else-index-eq0, In-loop, After-loop}

-- ---- what is read of the two parameters is the parameters
same : {t t' d d' : ℤ} → t' ≡ t → d' ≡ d → hedge_of t' d' ≡ hedge_of t d
same e f = λ i. hedge_of (e i) (f i)

-- ---- the index is not 0
record Sizes (t d : ℤ) : Type 0 where
  apart : 0 < nat_abs d
  tranche : nat_abs t ≤ 200_000_000_000_000_000
  index : nat_abs d ≤ 200_000_000_000_000_000

divisor : (d : ℤ) → (of_z w64 d ≡ 0 → ⊥) → 0 < of_z w64 d
divisor d n = omega (arith, n)

sizes : (t d : ℤ) → SFits w64 t → SFits w64 d → (nat_abs t ≤ 200_000_000_000_000_000) × (nat_abs d ≤ 200_000_000_000_000_000)
    → (of_z w64 d ≡ 0 → ⊥) → Sizes (read t) (read d)
sizes t d f g h n =
    let z : nat_abs (read d) ≡ 0 → ⊥ = λ e. n (ap (of_z w64) (sym (read_is d g) ∙ zero_of (read d) e)) in
    record {
      apart = omega (arith, z);
      tranche = omega (arith, ap nat_abs (read_is t f), h.0);
      index = omega (arith, ap nat_abs (read_is d g), h.1);
    }

sized : {z : ℤ} (s : Bool) (n : ℕ) → z ≡ with_sign s n → nat_abs z ≡ n
sized s n e = ap nat_abs e ∙ size_of s n

-- ---- the first quotient and rest
module _ {t d : ℤ} (z : Sizes t d) where
  whole : quot_z t d ≡ quotient_at t d 0
  whole = first_quotient t d z.apart

  whole-small : scaled t 0 / nat_abs d < 2 ^ 63
  whole-small = omega (arith, div-le_self (scaled t 0) (nat_abs d), z.tranche)

  whole-size : nat_abs (read (quot_z t d)) ≡ scaled t 0 / nat_abs d
  whole-size = sized _ _ (back_signed _ _ whole whole-small)

  on_scale : {m : ℕ} → m ≡ nat_abs (read (quot_z t d)) → m < 1_000_000 → nat_abs t < 1_000_000 * nat_abs d
  on_scale e h =
      let l : scaled t 0 / nat_abs d < 1_000_000 = omega (arith, whole-size) in
      omega (arith, (div-lt_iff_lt-mul z.apart).0 l)

  refused : {m : ℕ} → m ≡ nat_abs (read (quot_z t d)) → 1_000_000 ≤ m → Err OffScale ≡ hedge_of t d
  refused e h = sym (off_scale t d z.apart (omega (arith, whole-size)))

  rest-small : (i : ℕ) → scaled t i % nat_abs d < nat_abs d
  rest-small i = mod-lt (scaled t i) z.apart

  rest-fits : (i : ℕ) → scaled t i % nat_abs d < 2 ^ 63
  rest-fits i = omega (arith, rest-small i, z.index)

-- ---- a turn
record Turn (t d q r : ℤ) (n : ℕ) : Type 0 where
  sizes : Sizes t d
  on_scale : nat_abs t < 1_000_000 * nat_abs d
  digits : n ≤ 6
  quotient : q ≡ quotient_at t d n
  rest : r ≡ rest_at t d n

turn : {t d q r : ℤ} {n m : ℕ} → Sizes t d → m ≡ nat_abs (read (quot_z t d)) → m < 1_000_000
    → n ≤ 6 → (q ≡ quotient_at t d n) × (r ≡ rest_at t d n) → Turn t d q r n
turn z e h l v = record { sizes = z; on_scale = on_scale z e h; digits = l; quotient = v.0; rest = v.1 }

module _ {t d q r : ℤ} {n : ℕ} (v : Turn t d q r n) where
  below : (i : ℕ) → i ≤ 6 → scaled t i / nat_abs d < 1_000_000_000_000
  below i h = quotient_small (nat_abs t) (nat_abs d) i v.sizes.apart v.on_scale h

  ten-quotients : q *ℤ pos 10 ≡ with_sign (sign t d) (scaled t n / nat_abs d * 10)
  ten-quotients = ap (λ (z : ℤ). z *ℤ pos 10) v.quotient ∙ times _ _ 10

  ten-rests : r *ℤ pos 10 ≡ with_sign (negative t) (scaled t n % nat_abs d * 10)
  ten-rests = ap (λ (z : ℤ). z *ℤ pos 10) v.rest ∙ times _ _ 10

  ten-quotients-small : scaled t n / nat_abs d * 10 < 2 ^ 63
  ten-quotients-small = omega (arith, below n v.digits)

  ten-rests-small : scaled t n % nat_abs d * 10 < 2 ^ 63
  ten-rests-small = omega (arith, rest-small v.sizes n, v.sizes.index)

  ten-quotients-fit : SFits w64 (q *ℤ pos 10)
  ten-quotients-fit = fits_signed _ _ ten-quotients ten-quotients-small

  ten-rests-fit : SFits w64 (r *ℤ pos 10)
  ten-rests-fit = fits_signed _ _ ten-rests ten-rests-small

  -- the rest tenfold, as it is read again
  rest_read : read (r *ℤ pos 10) ≡ with_sign (negative t) (scaled t n % nat_abs d * 10)
  rest_read = back_signed _ _ ten-rests ten-rests-small

  next-digit : quot_z (read (r *ℤ pos 10)) d ≡ with_sign (sign t d) (scaled t n % nat_abs d * 10 / nat_abs d)
  next-digit = digit t d v.sizes.apart n rest_read refl

  next-digit-small : scaled t n % nat_abs d * 10 / nat_abs d < 2 ^ 63
  next-digit-small = omega (arith, div-le_self (scaled t n % nat_abs d * 10) (nat_abs d), ten-rests-small)

  next-digit-fits : SFits w64 (quot_z (read (r *ℤ pos 10)) d)
  next-digit-fits = fits_signed _ _ next-digit next-digit-small

  next_quotient : read (q *ℤ pos 10) +ℤ read (quot_z (read (r *ℤ pos 10)) d) ≡ quotient_at t d (n + 1)
  next_quotient =
      quotient_next t d v.sizes.apart n
      (back_signed _ _ ten-quotients ten-quotients-small)
      (back_signed _ _ next-digit next-digit-small)

  next_quotient-small : n < 6 → scaled t (n + 1) / nat_abs d < 2 ^ 63
  next_quotient-small h = omega (arith, below (n + 1) (omega arith))

  next_rest : rem_z (read (r *ℤ pos 10)) d ≡ rest_at t d (n + 1)
  next_rest = rest_next t d v.sizes.apart n rest_read refl

-- ---- after six digits
module _ {t d q r : ℤ} {n : ℕ} (v : Turn t d q r n) (six : 6 ≤ n) where
  are_six : n ≡ 6
  are_six = omega (arith, v.digits)

  last_rest : nat_abs r ≡ scaled t 6 % nat_abs d
  last_rest = sized _ _ v.rest ∙ ap (λ (i : ℕ). scaled t i % nat_abs d) are_six

  last-quotient : q ≡ quotient_at t d 6
  last-quotient = v.quotient ∙ ap (λ (i : ℕ). quotient_at t d i) are_six

  rests-fit : {x : ℕ} → x ≡ nat_abs r → x * 2 < 2 ^ 64
  rests-fit e = omega (arith, last_rest, rest-small v.sizes 6, v.sizes.index)

  -- the ratio, where six digits and the rounding give its size
  answer : (m : ℕ) → (2 * scaled t 6 + nat_abs d) / (2 * nat_abs d) ≡ m → {w : ℤ}
      → w ≡ with_sign (sign t d) m → Ok w ≡ hedge_of t d
  unfolding ratio_of millionths
  answer m e f = ap Ok (f ∙ ap (with_sign (sign t d)) (sym e)) ∙ sym (answered t d v.sizes.apart v.on_scale)

  rounded_down : {x y : ℕ} → x ≡ nat_abs r → y ≡ nat_abs d → x * 2 < y → Ok q ≡ hedge_of t d
  rounded_down e f l = answer _ (down (scaled t 6) (nat_abs d) v.sizes.apart (omega (arith, last_rest))) last-quotient

  -- the ratio of six digits, one further from 0
  away-down : {b : Bool} → b ≡ sign t d → b ≡ true → q -ℤ pos 1 ≡ with_sign (sign t d) (scaled t 6 / nat_abs d + 1)
  away-down e f = ap (λ (z : ℤ). z -ℤ pos 1) last-quotient ∙ one_less _ (sym e ∙ f)

  away-up : {b : Bool} → b ≡ sign t d → b ≡ false → q +ℤ pos 1 ≡ with_sign (sign t d) (scaled t 6 / nat_abs d + 1)
  away-up e f = ap (λ (z : ℤ). z +ℤ pos 1) last-quotient ∙ one_more _ (sym e ∙ f)

  one-more-small : scaled t 6 / nat_abs d + 1 < 2 ^ 63
  one-more-small = omega (arith, below v 6 (omega arith))

  rounded_up : {x y : ℕ} {w : ℤ} → x ≡ nat_abs r → y ≡ nat_abs d → y ≤ x * 2
      → w ≡ with_sign (sign t d) (scaled t 6 / nat_abs d + 1) → Ok (read w) ≡ hedge_of t d
  rounded_up e f l g =
      answer _ (up (scaled t 6) (nat_abs d) v.sizes.apart (omega (arith, last_rest))) (back_signed _ _ g one-more-small)

-- ---- what is known past the first test, in the loop, and after it
as_given : (c : Start) → hedge_of (read c.args.tranche) (read c.args.index) ≡ hedge_of c.args.tranche c.args.index
as_given c = same (read_is _ c.ranges.tranche) (read_is _ c.ranges.index)

apart : (c : Else-index-eq0) → Sizes (read c.args.tranche) (read c.args.index)
apart c = sizes _ _ c.ranges.tranche c.ranges.index c.requires c.if-index-eq0.false

met : (c : In-loop) → Turn (read c.args.tranche) (read c.args.index) (to_z w64 c.loop.quotient-bits) (to_z w64 c.loop.rest-bits) c.loop.counter
met c =
    turn (sizes _ _ c.ranges.tranche c.ranges.index c.requires c.if-index-eq0.false)
    c.unsigned_abs.ensures.value c.if-unsigned_abs-ge1000000.false c.loop.auto.counter-end c.loop.invariant

ended : (c : After-loop) → Turn (read c.args.tranche) (read c.args.index) (to_z w64 c.loop.quotient-bits) (to_z w64 c.loop.rest-bits) c.loop.counter
ended c =
    turn (sizes _ _ c.ranges.tranche c.ranges.index c.requires c.if-index-eq0.false)
    c.unsigned_abs.ensures.value c.if-unsigned_abs-ge1000000.false c.loop.auto.counter-end c.loop.invariant

pub returns-then-index-eq0 : goal.returns-then-index-eq0
returns-then-index-eq0 c =
    let a = c.args in
    sym (flat a.tranche a.index (ap nat_abs (sym (read_is a.index c.ranges.index) ∙ ap (to_z w64) c.if-index-eq0.true)))

pub returns-then-unsigned_abs-ge1000000 : goal.returns-then-unsigned_abs-ge1000000
returns-then-unsigned_abs-ge1000000 c =
    let z = apart (goal.at.returns-then-unsigned_abs-ge1000000 c).Else-index-eq0 in
    refused z c.unsigned_abs.ensures.value c.if-unsigned_abs-ge1000000.true ∙ as_given (goal.at.returns-then-unsigned_abs-ge1000000 c).Start

pub loop-init : goal.loop-init
loop-init c =
    let z = apart (goal.at.loop-init c).Else-index-eq0 in
    (back_signed _ _ (whole z) (whole-small z), back_signed _ _ (first_rest _ _ z.apart) (rest-fits z 0))

pub overflow_mul-quotient : goal.overflow_mul-quotient
overflow_mul-quotient c = ten-quotients-fit (met c)

pub overflow_mul-quotient-in-loop : goal.overflow_mul-quotient-in-loop
overflow_mul-quotient-in-loop c = ten-rests-fit (met c)

pub nonzero_div-quotient-in-loop : goal.nonzero_div-quotient-in-loop
nonzero_div-quotient-in-loop c = (divisor c.args.index c.if-index-eq0.false, next-digit-fits (met c))

pub overflow_add-quotient : goal.overflow_add-quotient
overflow_add-quotient c =
    let v = met c in
    fits_signed _ _ (next_quotient v) (next_quotient-small v c.loop-test.true)

pub overflow_mul-rest : goal.overflow_mul-rest
overflow_mul-rest c = overflow_mul-quotient-in-loop c

pub nonzero_rem-rest-in-loop : goal.nonzero_rem-rest-in-loop
nonzero_rem-rest-in-loop c = nonzero_div-quotient-in-loop c

pub loop-preserved : goal.loop-preserved
loop-preserved c =
    let v = met c in (
      back_signed _ _ (next_quotient v) (next_quotient-small v c.loop-test.true),
      back_signed _ _ (next_rest v) (rest-fits v.sizes (c.loop.counter + 1)),
    )

pub overflow_mul-unsigned_abs : goal.overflow_mul-unsigned_abs
overflow_mul-unsigned_abs c =
    let v = ended (goal.at.overflow_mul-unsigned_abs c).After-loop in
    omega (arith, rests-fit v c.loop-test.false c.unsigned_abs-2.ensures.value)

pub returns-then-unsigned_abs : goal.returns-then-unsigned_abs
returns-then-unsigned_abs c =
    let v = ended (goal.at.returns-then-unsigned_abs c).After-loop in
    rounded_down v c.loop-test.false c.unsigned_abs-2.ensures.value c.unsigned_abs-3.ensures.value c.if-unsigned_abs.true
    ∙ as_given (goal.at.returns-then-unsigned_abs c).Start

pub overflow_sub-result : goal.overflow_sub-result
overflow_sub-result c =
    let v = ended (goal.at.overflow_sub-result c).After-loop in
    let six = c.loop-test.false in
    fits_signed _ _ (away-down v six c.unlike_signs.ensures c.if-unlike_signs.true) (one-more-small v six)

pub overflow_add-result : goal.overflow_add-result
overflow_add-result c =
    let v = ended (goal.at.overflow_add-result c).After-loop in
    let six = c.loop-test.false in
    fits_signed _ _ (away-up v six c.unlike_signs.ensures c.if-unlike_signs.false) (one-more-small v six)

pub returns-then-unlike_signs : goal.returns-then-unlike_signs
returns-then-unlike_signs c =
    let v = ended (goal.at.returns-then-unlike_signs c).After-loop in
    let six = c.loop-test.false in
    rounded_up v six c.unsigned_abs-2.ensures.value c.unsigned_abs-3.ensures.value c.if-unsigned_abs.false
    (away-down v six c.unlike_signs.ensures c.if-unlike_signs.true)
    ∙ as_given (goal.at.returns-then-unlike_signs c).Start

pub returns-else-unlike_signs : goal.returns-else-unlike_signs
returns-else-unlike_signs c =
    let v = ended (goal.at.returns-else-unlike_signs c).After-loop in
    let six = c.loop-test.false in
    rounded_up v six c.unsigned_abs-2.ensures.value c.unsigned_abs-3.ensures.value c.if-unsigned_abs.false
    (away-up v six c.unlike_signs.ensures c.if-unlike_signs.false)
    ∙ as_given (goal.at.returns-else-unlike_signs c).Start
