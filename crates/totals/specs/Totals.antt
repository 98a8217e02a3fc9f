-- T-09, a book: positions, each a nominal in pools and a net value W, and the exact totals of nominal times W. Nominals and values are lent apart; a
-- position is what stands at one place of both.
use Rattle.std.specs.Prelude.{ℕ, ◌≤◌, ◌<◌, ◌≡◌, Bool, true, ◌&&◌, List, [], ◌∷◌, eqb, leb, ℤ, pos, negsuc, nat_abs, ◌+ℤ◌, ◌*ℤ◌, length, get_or}

-- ---- the totals

-- What a product adds to the gains, and to the losses: it is by the product's sign, whatever the signs of nominal and W are.
abbrev pub gain_of : ℤ → ℤ
gain_of (pos k) = pos k
gain_of (negsuc k) = pos 0

abbrev pub loss_of : ℤ → ℤ
loss_of (pos k) = pos 0
loss_of (negsuc k) = negsuc k

-- A part of each product nominal × W, added over the positions.
unfoldable pub total_of : (ℤ → ℤ) → List ℤ → List ℤ → ℤ
total_of part [] values = pos 0
total_of part (nominal ∷ nominals) [] = pos 0
total_of part (nominal ∷ nominals) (value ∷ values) = part (nominal *ℤ value) +ℤ total_of part nominals values

abbrev pub total : List ℤ → List ℤ → ℤ
total = total_of (λ product. product)

abbrev pub gains : List ℤ → List ℤ → ℤ
gains = total_of gain_of

abbrev pub losses : List ℤ → List ℤ → ℤ
losses = total_of loss_of

-- ---- the book that is taken

-- Each entry is at most so far from 0, on either side.
abbrev pub Within : ℕ → List ℤ → Type 0
Within most l = (i : ℕ) → i < length l → nat_abs (get_or l i (pos 0)) ≤ most

-- Lists of like length, at most 4,096 positions, each nominal and each W within its range.
pub record Taken (nominals values : List ℤ) : Type 0 where
  pub alike : length nominals ≡ length values
  pub few : length nominals ≤ 4_096
  pub nominals_within : Within 1_000_000 nominals
  pub values_within : Within 200_000_000_000_000_000 values

-- The same as a test.
unfoldable pub all_within : ℕ → List ℤ → Bool
all_within most [] = true
all_within most (x ∷ l) = leb (nat_abs x) most && all_within most l

abbrev pub taken : List ℤ → List ℤ → Bool
taken nominals values =
    eqb (length nominals) (length values)
    && (leb (length nominals) 4_096 && (all_within 1_000_000 nominals && all_within 200_000_000_000_000_000 values))
