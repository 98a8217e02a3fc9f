-- Numbers as the definitions print them.
use Rattle.std.proofs.Common.{◌≡◌, refl, [], ◌∷◌, pos, negsuc}
use Rattle.lines.specs.Text.{decimal, signed, field}

zero_is : decimal 0 ≡ 48 ∷ []
unfolding decimal
zero_is = refl

digits_in_order : decimal 9070 ≡ 57 ∷ 48 ∷ 55 ∷ 48 ∷ []
unfolding decimal
digits_in_order = refl

no_sign : field (pos 10) ≡ 32 ∷ 49 ∷ 48 ∷ []
unfolding field signed decimal
no_sign = refl

-- `negsuc 99` is -100
minus : field (negsuc 99) ≡ 32 ∷ 45 ∷ 49 ∷ 48 ∷ 48 ∷ []
unfolding field signed decimal
minus = refl
