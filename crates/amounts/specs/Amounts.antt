-- Numbers of more than 64 bits (T-09): in billions and units, with a sign, and their last digits.
use Rattle.std.specs.Prelude.{ℕ, zero, suc, ◌+◌, ◌*◌, ◌/◌, ◌%◌, ◌≤◌, ◌<◌, ◌≡◌, true, List, [], ◌∷◌, ◌++◌, ℤ}
use Rattle.hedges.specs.Hedges.{with_sign}
use Rattle.amounts.specs.declared.Amount.{Amount}
use Rattle.amounts.specs.declared.Figure.{Figure}

-- The number of so many billions and units, be the units a billion or more.
abbrev pub size_of : Amount → ℕ
size_of a = a.billions * 1_000_000_000 + a.units

-- Less than a billion units: each number has one such amount.
abbrev pub Carried : Amount → Type 0
Carried a = a.units < 1_000_000_000

-- The number of a figure.
abbrev pub figure_of : Figure → ℤ
figure_of f = with_sign f.below (size_of f.size)

-- A figure that can be written: less than a billion units, and 0 is not below 0.
pub record Proper (f : Figure) : Type 0 where
  pub carried : Carried f.size
  pub some : f.below ≡ true → 1 ≤ size_of f.size

-- A figure is that of z.
pub record Shows (z : ℤ) (f : Figure) : Type 0 where
  pub number : figure_of f ≡ z
  pub proper : Proper f

-- The last k digits of n in ASCII, be they zeros.
unfoldable pub padded : ℕ → ℕ → List ℕ
padded zero n = []
padded (suc k) n = padded k (n / 10) ++ ((48 + n % 10) ∷ [])
