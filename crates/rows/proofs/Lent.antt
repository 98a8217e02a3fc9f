-- The rows of a sheet and the front of an array, lent.
use Rattle.std.proofs.Common.{ℕ, zero, suc, ◌+◌, ◌*◌, ◌≤◌, ◌≡◌, refl, mul-le-mul, add-one, arith, get_or, take, replicate}

-- 9 rows of 126 counts are enough
pub enough : (r n : ℕ) → r ≤ 8 → n ≤ 125 → (r + 1) * (n + 1) ≤ 1134
enough r n a b = mul-le-mul {n₁ = r + 1} {m₁ = n + 1} {n₂ = 9} {m₂ = 126} (omega arith) (omega arith)

-- the rows of a sheet, as the code counts them
pub row_size : (r n : ℕ) → (r + 1) * (n + 1) ≡ suc r * suc n
row_size r n = λ t. add-one r t * add-one n t

-- zeros at every place, and past the end
pub zeros_front : (k m i : ℕ) → ◌≡◌ {A = ℕ} (get_or (take k (replicate m 0)) i 0) 0
zeros_front zero m i = refl
zeros_front (suc k) zero i = refl
zeros_front (suc k) (suc m) zero = refl
zeros_front (suc k) (suc m) (suc i) = zeros_front k m i
