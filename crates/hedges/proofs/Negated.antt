-- An `i64` as it is read.
use Rattle.std.proofs.Common.{◌≡◌, subst, Bool, true, false, T, ℤ, w64, SFits, of_z, to_z}
use mir.ValLaws.{to_z-of_z}

-- z, written as 64 bits and read back
abbrev pub read : ℤ → ℤ
read z = to_z w64 (of_z w64 z)

pub read_is : (z : ℤ) → SFits w64 z → read z ≡ z
read_is z f = to_z-of_z w64 z f

pub true_ne_false : ◌≡◌ {A = Bool} true false → ⊥
true_ne_false e = subst T e tt
