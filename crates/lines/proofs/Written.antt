-- How the sign of an `i64` is written.
use Rattle.std.proofs.Common.{◌<◌, ◌≡◌, refl, Bool, true, false, ◌∷◌, arith, ltb-true, ℤ, pos, negsuc, nat_abs, w64, SFits}
use lib.Signed.{lt_z}
use Rattle.hedges.proofs.Negated.{read, read_is, true_ne_false}
use Rattle.lines.specs.Text.{decimal, signed}

pub signed_neg : (x : ℤ) → SFits w64 x → lt_z (read x) (pos 0) ≡ true → signed x ≡ 45 ∷ decimal (nat_abs x)
unfolding signed
signed_neg (pos n) f e = let h : n < 0 = ltb-true n 0 (rw (read_is (pos n) f) at e) in absurd (omega (arith, h))
signed_neg (negsuc n) f e = refl

pub signed_pos : (x : ℤ) → SFits w64 x → lt_z (read x) (pos 0) ≡ false → signed x ≡ decimal (nat_abs x)
unfolding signed
signed_pos (pos n) f e = refl
signed_pos (negsuc n) f e = let z : ◌≡◌ {A = Bool} true false = (rw (read_is (negsuc n) f) at e) in absurd (true_ne_false z)
