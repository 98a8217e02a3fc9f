-- `signed` is a whole number in print, and no other text is.
use Rattle.std.proofs.Common.{ℕ, zero, suc, ◌+◌, ◌*◌, ◌-◌, ◌/◌, ◌%◌, ◌≤◌, ◌<◌, ◌≡◌, refl, sym, ap, ◌∙◌, subst, ⊎_elim, List, [], ◌∷◌, ◌++◌, arith, ℤ}
use Rattle.std.proofs.Common.{pos, negsuc, length, length-append, get_or, take, drop, take_all, take-suc, length-take-le, get_or-take}
use Rattle.lines.specs.Text.{decimal, signed}
use Rattle.lines.proofs.Laws.{lt_or_ge, decimal_small, decimal_large}
use Rattle.amounts.specs.Printed.{read_on, IsDecimal, IsPrinted}

-- ---- what is read

read_last : (n : ℕ) (text : List ℕ) (d : ℕ) → read_on n (text ++ (d ∷ [])) ≡ 10 * read_on n text + (d - 48)
unfolding read_on
read_last n [] d = refl
read_last n (b ∷ text) d = read_last (10 * n + (b - 48)) text d

read_grows : (n : ℕ) (text : List ℕ) → n ≤ read_on n text
unfolding read_on
read_grows n [] = omega arith
read_grows n (b ∷ text) = omega (arith, read_grows (10 * n + (b - 48)) text)

read_zero : (text : List ℕ) → length text ≡ 1 → get_or text 0 0 ≡ 48 → read_on 0 text ≡ 0
unfolding read_on
read_zero [] e h = absurd (omega (arith, e))
read_zero (b ∷ []) e h = omega (arith, h)
read_zero (b ∷ (c ∷ text)) e h = absurd (omega (arith, e))

read_some : (text : List ℕ) → 49 ≤ get_or text 0 0 → 1 ≤ read_on 0 text
unfolding read_on
read_some [] h = absurd (omega (arith, h))
read_some (b ∷ text) h = omega (arith, h, read_grows (10 * 0 + (b - 48)) text)

-- ---- one digit more

last_of : (text : List ℕ) (d i : ℕ) → i ≡ length text → get_or (text ++ (d ∷ [])) i 0 ≡ d
last_of [] d zero e = refl
last_of [] d (suc i) e = absurd (omega (arith, e))
last_of (b ∷ text) d zero e = absurd (omega (arith, e))
last_of (b ∷ text) d (suc i) e = last_of text d i (omega (arith, e))

before_last : (text : List ℕ) (d i : ℕ) → i < length text → get_or (text ++ (d ∷ [])) i 0 ≡ get_or text i 0
before_last [] d i h = absurd (omega (arith, h))
before_last (b ∷ text) d zero h = refl
before_last (b ∷ text) d (suc i) h = before_last text d i (omega (arith, h))

one_digit : (n : ℕ) → n < 10 → IsDecimal n ((48 + n) ∷ [])
unfolding read_on
one_digit n h =
    record {
      some = omega arith;
      digits = here;
      value = omega arith;
      plain = λ e. refl;
    }
  where
    here : (i : ℕ) → i < 1 → (48 ≤ get_or ((48 + n) ∷ []) i 0) × (get_or ((48 + n) ∷ []) i 0 ≤ 57)
    here zero l = (omega arith, omega arith)
    here (suc i) l = absurd (omega (arith, l))

more_digits : (n : ℕ) (text : List ℕ) → 1 ≤ n / 10 → IsDecimal (n / 10) text → IsDecimal n (text ++ ((48 + n % 10) ∷ []))
more_digits n text large p =
    record {
      some = omega (arith, long);
      digits =
          λ i h.
          ⊎_elim (λ (l : i < length text). inner i l) (λ (l : length text ≤ i). outer i (omega (arith, l, h, long)))
          (lt_or_ge i (length text));
      value = read_last 0 text (48 + n % 10) ∙ omega (arith, p.value);
      plain = λ e. absurd (nonzero (sym (before_last text (48 + n % 10) 0 (omega (arith, p.some))) ∙ e));
    }
  where
    long : length (text ++ ((48 + n % 10) ∷ [])) ≡ length text + 1
    long = length-append text ((48 + n % 10) ∷ [])

    inner : (i : ℕ) → i < length text → (48 ≤ get_or (text ++ ((48 + n % 10) ∷ [])) i 0) × (get_or (text ++ ((48 + n % 10) ∷ [])) i 0 ≤ 57)
    inner i l = subst (λ (b : ℕ). (48 ≤ b) × (b ≤ 57)) (sym (before_last text (48 + n % 10) i l)) (p.digits i l)

    outer : (i : ℕ) → i ≡ length text → (48 ≤ get_or (text ++ ((48 + n % 10) ∷ [])) i 0) × (get_or (text ++ ((48 + n % 10) ∷ [])) i 0 ≤ 57)
    outer i e = subst (λ (b : ℕ). (48 ≤ b) × (b ≤ 57)) (sym (last_of text (48 + n % 10) i e)) (omega arith, omega arith)

    nonzero : get_or text 0 0 ≡ 48 → ⊥
    nonzero e = omega (arith, large, p.value, read_zero text (p.plain e) e)

-- ---- `decimal` is the digits

by_tens : (f n : ℕ) → n ≤ f → IsDecimal n (decimal n)
by_tens zero n h = subst (IsDecimal n) (sym (decimal_small n (omega (arith, h)))) (one_digit n (omega (arith, h)))
by_tens (suc f) n h =
    ⊎_elim (λ (small : n < 10). subst (IsDecimal n) (sym (decimal_small n small)) (one_digit n small))
    (λ (large : 10 ≤ n).
    subst (IsDecimal n) (sym (decimal_large n large))
    (more_digits n (decimal (n / 10)) (omega (arith, large)) (by_tens f (n / 10) (omega (arith, h, large)))))
    (lt_or_ge n 10)

pub decimal_printed : (n : ℕ) → IsDecimal n (decimal n)
decimal_printed n = by_tens n n (omega arith)

-- ---- and nothing else is

-- A text is its last byte behind the others.
last_apart : (k : ℕ) (text : List ℕ) → length text ≡ suc k → text ≡ take k text ++ (get_or text k 0 ∷ [])
last_apart k text e = sym (take_all (suc k) text (omega (arith, e))) ∙ take-suc text k 0 (omega (arith, e))

module _ (n : ℕ) (text : List ℕ) (p : IsDecimal n text) where
  first_digit : 1 < length text → 49 ≤ get_or text 0 0
  first_digit h =
      ⊎_elim
      (λ (l : get_or text 0 0 < 49). absurd (omega (arith, h, p.plain (omega (arith, l, (p.digits 0 (omega (arith, h))).0)))))
      (λ (l : 49 ≤ get_or text 0 0). l) (lt_or_ge (get_or text 0 0) 49)

  -- One digit is that of n.
  alone_one : length text ≡ 1 → text ≡ decimal n
  unfolding read_on
  alone_one e =
      let one : text ≡ get_or text 0 0 ∷ [] = last_apart 0 text e in
      let value : 10 * 0 + (get_or text 0 0 - 48) ≡ n = sym (ap (read_on 0) one) ∙ p.value in
      let within = p.digits 0 (omega (arith, e)) in
      one ∙ ap (λ (b : ℕ). b ∷ []) (omega (arith, value, within.0))
      ∙ sym (decimal_small n (omega (arith, value, within.1)))

  -- Before the last digit of more than one stand the digits of a tenth.
  module _ (k : ℕ) (e : length text ≡ suc (suc k)) where
    abbrev before : List ℕ
    before = take (suc k) text

    abbrev last : ℕ
    last = get_or text (suc k) 0

    long : length before ≡ suc k
    long = length-take-le (suc k) text (omega (arith, e))

    leading : get_or before 0 0 ≡ get_or text 0 0
    leading = get_or-take (suc k) text 0 0 (omega arith)

    some_before : 1 ≤ read_on 0 before
    some_before = read_some before (omega (arith, leading, first_digit (omega (arith, e))))

    value_is : n ≡ 10 * read_on 0 before + (last - 48)
    value_is = sym p.value ∙ ap (read_on 0) (last_apart (suc k) text e) ∙ read_last 0 before last

    last_within : (48 ≤ last) × (last ≤ 57)
    last_within = p.digits (suc k) (omega (arith, e))

    tenth : IsDecimal (read_on 0 before) before
    tenth =
        record {
          some = omega (arith, long);
          digits =
              λ i h. subst (λ (b : ℕ). (48 ≤ b) × (b ≤ 57)) (sym (get_or-take (suc k) text i 0 (omega (arith, h, long))))
              (p.digits i (omega (arith, h, long, e)));
          value = refl;
          plain = λ z. absurd (omega (arith, z, leading, first_digit (omega (arith, e))));
        }

    alone_more : before ≡ decimal (read_on 0 before) → text ≡ decimal n
    alone_more h =
        let high : read_on 0 before ≡ n / 10 = omega (arith, value_is, last_within.0, last_within.1) in
        let low : last ≡ 48 + n % 10 = omega (arith, value_is, last_within.0, last_within.1) in
        last_apart (suc k) text e ∙ ap (λ (l : List ℕ). l ++ (last ∷ [])) (h ∙ ap decimal high)
        ∙ ap (λ (b : ℕ). decimal (n / 10) ++ (b ∷ [])) low ∙ sym (decimal_large n (omega (arith, high, some_before)))

alone : (k n : ℕ) (text : List ℕ) → length text ≡ suc k → IsDecimal n text → text ≡ decimal n
alone zero n text e p = alone_one n text p e
alone (suc k) n text e p =
    alone_more n text p k e (alone k (read_on 0 (take (suc k) text)) (take (suc k) text) (long n text p k e) (tenth n text p k e))

pub decimal_alone : (n : ℕ) (text : List ℕ) → IsDecimal n text → text ≡ decimal n
decimal_alone n text p = alone (length text - 1) n text (omega (arith, p.some)) p

-- ---- either sign

pub printed_signed : (z : ℤ) → IsPrinted z (signed z)
unfolding signed
printed_signed (pos n) = decimal_printed n
printed_signed (negsuc n) = (refl, decimal_printed (suc n))

-- Text that begins with a byte is that byte before the rest.
first_apart : (text : List ℕ) (b : ℕ) → get_or text 0 0 ≡ suc b → text ≡ suc b ∷ drop 1 text
first_apart [] b e = absurd (omega (arith, e))
first_apart (c ∷ text) b e = ap (λ (d : ℕ). d ∷ text) e

pub printed_alone : (z : ℤ) (text : List ℕ) → IsPrinted z text → text ≡ signed z
unfolding signed
printed_alone (pos n) text p = decimal_alone n text p
printed_alone (negsuc n) text (sign, p) =
    first_apart text 44 sign ∙ ap (λ (l : List ℕ). 45 ∷ l) (decimal_alone (suc n) (drop 1 text) p)

-- ---- a text is of one number

-- Digits and signs are above every byte that stands between numbers.
decimal_bytes : (n : ℕ) (text : List ℕ) → IsDecimal n text → (i : ℕ) → i < length text → 45 ≤ get_or text i 0
decimal_bytes n text p i h = omega (arith, (p.digits i h).0)

pub printed_bytes : (z : ℤ) (text : List ℕ) → IsPrinted z text → (i : ℕ) → i < length text → 45 ≤ get_or text i 0
printed_bytes (pos n) text p i h = decimal_bytes n text p i h
printed_bytes (negsuc n) text (sign, p) zero h = omega (arith, sign)
printed_bytes (negsuc n) [] (sign, p) (suc i) h = absurd (omega (arith, h))
printed_bytes (negsuc n) (b ∷ text) (sign, p) (suc i) h = decimal_bytes (suc n) text p i (omega (arith, h))

pub printed_once : (y z : ℤ) (text : List ℕ) → IsPrinted y text → IsPrinted z text → y ≡ z
printed_once (pos m) (pos n) text p q = ap pos (sym p.value ∙ q.value)
printed_once (pos m) (negsuc n) text p (sign, q) = absurd (omega (arith, sign, (p.digits 0 p.some).0))
printed_once (negsuc m) (pos n) text (sign, p) q = absurd (omega (arith, sign, (q.digits 0 q.some).0))
printed_once (negsuc m) (negsuc n) text (sign, p) (other, q) =
    let e : suc m ≡ suc n = sym p.value ∙ q.value in
    ap negsuc (omega (arith, e))
