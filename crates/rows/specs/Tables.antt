-- Lists made by a rule, and rows tranche by tranche, then by count (document 01, 'Walking back').
use Rattle.std.specs.Prelude.{ℕ, zero, suc, ◌+◌, ◌*◌, ◌/◌, ◌%◌, Bool, false, ◌||◌, List, [], ◌∷◌, get_or}

-- f 0, .., f (n - 1)
unfoldable pub tab : ℕ → (ℕ → ℕ) → List ℕ
tab zero f = []
tab (suc n) f = let h = f zero in h ∷ tab n (λ k. f (suc k))

-- What stands in rows of w counts at tranche j and count k.
unfoldable pub entry : ℕ → List ℕ → ℕ → ℕ → ℕ
entry w rows j k = get_or rows (j * w + k) 0

-- The rows of r tranches of w counts whose entries follow a rule.
unfoldable pub grid : ℕ → ℕ → (ℕ → ℕ → ℕ) → List ℕ
grid r w f = tab (r * w) (λ i. f (i / w) (i % w))

-- Whether a test holds at one of the first n numbers.
unfoldable pub any : ℕ → (ℕ → Bool) → Bool
any zero f = false
any (suc n) f = any n f || f n
