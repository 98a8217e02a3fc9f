-- Laws of a test that holds at one of some numbers, or at none.
use Rattle.std.proofs.Common.{ℕ, zero, suc, ◌<◌, ◌≡◌, refl, Bool, true, false, ◌||◌, arith, le_refl}
use native.Mathlib.Nat.{le_step}
use native.Mathlib.Decide.{ℕ_discrete}
use Rattle.rows.specs.Tables.{any}

-- ---- one test or another

pub or_left : (a b : Bool) → (a || b) ≡ false → a ≡ false
or_left true b e = e
or_left false b e = refl

pub or_right : (a b : Bool) → (a || b) ≡ false → b ≡ false
or_right true b e = cc
or_right false b e = e

pub neither : (a b : Bool) → a ≡ false → b ≡ false → (a || b) ≡ false
neither a b p q = rw (p, q)

pub met_left : (a b : Bool) → a ≡ true → (a || b) ≡ true
met_left a b p = rw p

pub met_right : (a b : Bool) → b ≡ true → (a || b) ≡ true
met_right true b p = refl
met_right false b p = p

-- ---- a test at each of the first n numbers

pub any_hit : (n : ℕ) (f : ℕ → Bool) (i : ℕ) → i < n → f i ≡ true → any n f ≡ true
unfolding any
any_hit zero f i h e = absurd (omega arith)
any_hit (suc n) f i h e = go (ℕ_discrete i n) (any_hit n f i)
  where
    go : Dec (i ≡ n) → (i < n → f i ≡ true → any n f ≡ true) → (any n f || f n) ≡ true
    go (yes q) r = met_right (any n f) (f n) (rw q at e)
    go (no q) r = met_left (any n f) (f n) (r (omega arith) e)

pub any_missed : (n : ℕ) (f : ℕ → Bool) → ((i : ℕ) → i < n → f i ≡ false) → any n f ≡ false
unfolding any
any_missed zero f h = refl
any_missed (suc n) f h = neither (any n f) (f n) (any_missed n f (λ i q. h i (omega arith))) (h n (omega arith))

-- where it holds nowhere, it does not hold here
pub any_none : (n : ℕ) (f : ℕ → Bool) → any n f ≡ false → (i : ℕ) → i < n → f i ≡ false
unfolding any
any_none zero f e i h = absurd (omega arith)
any_none (suc n) f e i h = go (ℕ_discrete i n) (any_none n f (or_left (any n f) (f n) e) i)
  where
    go : Dec (i ≡ n) → (i < n → f i ≡ false) → f i ≡ false
    go (yes q) r = rw q (or_right (any n f) (f n) e)
    go (no q) r = r (omega arith)

pub any_cong : (n : ℕ) (f g : ℕ → Bool) → ((i : ℕ) → i < n → f i ≡ g i) → any n f ≡ any n g
unfolding any
any_cong zero f g h = refl
any_cong (suc n) f g h = λ t. any_cong n f g (λ i q. h i (le_step q)) t || h n (le_refl (suc n)) t
