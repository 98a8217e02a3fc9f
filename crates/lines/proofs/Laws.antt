-- Laws of the definitions that the contracts of `lines` cite.
use Rattle.std.proofs.Common.{ℕ, zero, suc, ◌+◌, ◌/◌, ◌%◌, ◌^◌, ◌≤◌, ◌<◌, ◌≡◌, refl, sym, ap, ◌∙◌, subst, Bool, true, false, ◌⊎◌, inl, inr, ⊎_elim}
use Rattle.std.proofs.Common.{List, [], ◌∷◌, ◌++◌, add-zero, add-suc, suc-add, pow-suc, arith, lt-ltb, le-ltb, ltb-true, ltb-false, ltb, lit≤, ℤ, pos}
use Rattle.std.proofs.Common.{negsuc, nat_abs, length, take, drop, set, length-append, take_at, length-take-le}
use lib.Seq.{sets, sets-eq, length-sets}
use Rattle.lines.specs.Text.{spell, decimal, signed, field, Wrote}

by_test : (n m : ℕ) (t : Bool) → ltb n m ≡ t → (n < m) ⊎ (m ≤ n)
by_test n m true e = inl (ltb-true n m e)
by_test n m false e = inr (ltb-false n m e)

pub lt_or_ge : (n m : ℕ) → (n < m) ⊎ (m ≤ n)
lt_or_ge n m = by_test n m (ltb n m) refl

-- text after text is the two together
pub sets_append : (l : List ℕ) (i : ℕ) (a b : List ℕ) → sets (sets l i a) (i + length a) b ≡ sets l i (a ++ b)
sets_append l i [] b = rw add-zero
sets_append l i (x ∷ a) b = rw (add-suc, ← suc-add) (sets_append (set l i x) (suc i) a b)

-- enough fuel is enough
pub spell_fuel : (f g n : ℕ) → n ≤ f → n ≤ g → spell f n ≡ spell g n
spell_fuel zero zero n hf hg = refl
spell_fuel zero (suc g) n hf hg = rw (lt-ltb n 10 (omega arith), spell)
spell_fuel (suc f) zero n hf hg = rw (lt-ltb n 10 (omega arith), spell)
spell_fuel (suc f) (suc g) n hf hg =
    let shorter : 10 ≤ n → spell f (n / 10) ≡ spell g (n / 10) = λ large. spell_fuel f g (n / 10) (omega arith) (omega arith) in
    ⊎_elim (λ (small : n < 10). rw (lt-ltb n 10 small, spell))
    (λ (large : 10 ≤ n). rw (le-ltb n 10 large, spell) (cc (shorter large)))
    (lt_or_ge n 10)

pub decimal_small : (n : ℕ) → n < 10 → decimal n ≡ (48 + n) ∷ []
unfolding decimal
decimal_small n h = spell_fuel n (suc n) n (omega arith) (omega arith) ∙ rw (lt-ltb n 10 h, spell)

pub decimal_large : (n : ℕ) → 10 ≤ n → decimal n ≡ decimal (n / 10) ++ ((48 + n % 10) ∷ [])
unfolding decimal
decimal_large n h =
    spell_fuel n (suc n) n (omega arith) (omega arith)
    ∙ rw (le-ltb n 10 h, spell) (ap (λ (l : List ℕ). l ++ ((48 + n % 10) ∷ [])) (spell_fuel n (n / 10) (n / 10) (omega arith) (omega arith)))

-- what is written in two parts
pub wrote_both : {before mid after a b : List ℕ} {at m e : ℕ} → Wrote before at a mid m → Wrote mid m b after e → Wrote before at (a ++ b) after e
wrote_both {before} {mid} {after} {a} {b} {at} {m} {e} p q = record {
  bytes = q.bytes ∙ rw (p.bytes, p.stop) (sets_append before at a b);
  stop = simp length-append (omega (arith, p.stop, q.stop));
}

-- one byte
pub wrote_byte : (before : List ℕ) (at x : ℕ) → Wrote before at (x ∷ []) (set before at x) (at + 1)
wrote_byte before at x = record { bytes = refl; stop = refl }

pub length_small : (n : ℕ) → n < 10 → length (decimal n) ≡ 1
length_small n h = rw (decimal_small n h)

pub length_large : (n : ℕ) → 10 ≤ n → length (decimal n) ≡ length (decimal (n / 10)) + 1
length_large n h = rw (decimal_large n h) (length-append (decimal (n / 10)) ((48 + n % 10) ∷ []))

-- a number below ten
pub wrote_small : (before : List ℕ) (at n : ℕ) → n < 10 → Wrote before at (decimal n) (set before at (48 + n)) (at + 1)
wrote_small before at n h = rw (decimal_small n h) (wrote_byte before at (48 + n))

-- the last digit
pub wrote_large : (before mid : List ℕ) (at n m : ℕ) → 10 ≤ n → Wrote before at (decimal (n / 10)) mid m → Wrote before at (decimal n) (set mid m (48 + n % 10)) (m + 1)
wrote_large before mid at n m h w = rw (decimal_large n h) (wrote_both w (wrote_byte mid m (48 + n % 10)))

-- a byte and then text
pub wrote_after : {before after text : List ℕ} {at e : ℕ} (x : ℕ) → Wrote (set before at x) (at + 1) text after e → Wrote before at (x ∷ text) after e
wrote_after {before} {after} {text} {at} {e} x w = wrote_both (wrote_byte before at x) w

-- the same text
pub wrote_text : {before after t u : List ℕ} {at e : ℕ} → t ≡ u → Wrote before at t after e → Wrote before at u after e
wrote_text {before} {after} {at = at} {e = e} q w = subst (λ (l : List ℕ). Wrote before at l after e) q w

-- the buffer keeps its length
pub wrote_long : {before after text : List ℕ} {at e : ℕ} → Wrote before at text after e → length after ≡ length before
wrote_long {before} {after} {text} {at} {e} w = ap length w.bytes ∙ length-sets before at text

-- nothing is written
pub wrote_none : (before : List ℕ) (at : ℕ) → Wrote before at [] before at
wrote_none before at = record { bytes = refl; stop = sym (add-zero at) }

-- what stands before the end of what was written
pub wrote_take : {before after text : List ℕ} {at e : ℕ} → Wrote before at text after e → e ≤ length before → take e after ≡ take at before ++ text
wrote_take {before} {after} {text} {at} {e} w room =
    let fits : at + length text ≤ length before = omega (arith, w.stop) in
    let long : length (take at before ++ text) ≡ e = length-append (take at before) text ∙ ap (λ (k : ℕ). k + length text) (length-take-le at before (omega arith)) ∙ sym w.stop in
    ap (take e) (w.bytes ∙ sets-eq text before at fits) ∙ take_at (take at before ++ text) (drop (at + length text) before) e long

-- how long a number is: at most k digits below 10 ^ k
digits : (k n : ℕ) → n < 10 ^ suc k → length (decimal n) ≤ suc k
digits zero n h = omega (arith, length_small n (omega arith))
digits (suc k) n h =
    ⊎_elim (λ (small : n < 10). omega (arith, length_small n small))
    (λ (large : 10 ≤ n). omega (arith, length_large n large, digits k (n / 10) (omega (arith, pow-suc 10 (suc k)))))
    (lt_or_ge n 10)

pub length_decimal : (k n : ℕ) → 1 ≤ k → n < 10 ^ k → length (decimal n) ≤ k
length_decimal zero n l h = absurd (omega arith)
length_decimal (suc k) n l h = digits k n h

-- an unsigned field has a space more
pub length_count : (k n : ℕ) → 1 ≤ k → n < 10 ^ k → length (field (pos n)) ≤ k + 1
unfolding field signed
length_count k n l h = omega (arith, length_decimal k n l h)

-- a signed field a space and a sign
pub length_signed : (k : ℕ) (x : ℤ) → 1 ≤ k → nat_abs x < 10 ^ k → length (field x) ≤ k + 2
unfolding field signed
length_signed k (pos n) l h = omega (arith, length_decimal k n l h)
length_signed k (negsuc n) l h = omega (arith, length_decimal k (suc n) l h)

-- a field of 64 bits has at most 21 bytes: 20 digits, or 19 and a sign
pub length_field_pos : (n : ℕ) → n < 2 ^ 64 → length (field (pos n)) ≤ 21
length_field_pos n h = length_count 20 n (lit≤ tt) (omega arith)

pub length_field : (x : ℤ) → nat_abs x ≤ 2 ^ 63 → length (field x) ≤ 21
length_field x h = length_signed 19 x (lit≤ tt) (omega arith)
