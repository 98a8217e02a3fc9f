-- What the row functions do, on plain lists, and what keeps each within 64 bits (document 01, 'Walking back').
use Rattle.std.specs.Prelude.{ℕ, suc, ◌+◌, ◌-◌, ◌*◌, ◌≤◌, ◌<◌, ◌≡◌, Bool, cond, not, List, length, get_or, ltb, eqb}
use Rattle.cash.specs.Units.{B}
use Rattle.cash.specs.Losses.{pool_loss, default_payment, premium_payment, elapsed_payment}
use Rattle.tree.specs.Backward.{roll_node}
use Rattle.sheet.specs.Terms.{Terms}
use Rattle.tree.specs.Sheet.{loss_of}
use Rattle.rows.specs.Tables.{tab, entry, any}

-- One count of a tranche's row one step back; hazards and default cash stand by count.
unfoldable pub rolled_at : List ℕ → ℕ → List ℕ → List ℕ → ℕ → ℕ
rolled_at hazards discount cash row k = roll_node (get_or hazards k 0) discount (get_or row (suc k) 0 + get_or cash k 0) (get_or row k 0)

-- The same in rows of w counts a tranche, at tranche j.
unfoldable pub rolled_in : ℕ → List ℕ → ℕ → List ℕ → List ℕ → ℕ → ℕ → ℕ
rolled_in w hazards discount cash rows j k =
    roll_node (get_or hazards k 0) discount (entry w rows j (suc k) + entry w cash j k) (entry w rows j k)

-- An entry with the premium of an accrual added.
unfoldable pub accrued_at : ℕ → List ℕ → List ℕ → ℕ → ℕ
accrued_at accrual outstandings rows i = get_or rows i 0 + premium_payment accrual (get_or outstandings i 0)

-- L(k) by count. ('Arithmetic and cash', as the three below)
unfoldable pub pool_losses : ℕ → ℕ → List ℕ
pool_losses names recovery = tab (suc names) (pool_loss names recovery)

-- The points between which the pool's loss is tranche j's; the index has all of it.
unfoldable pub lower_of : Terms → ℕ → ℕ
lower_of x j = cond (ltb j x.tranches) (get_or x.attachments j 0) 0

unfoldable pub upper_of : Terms → ℕ → ℕ
upper_of x j = cond (ltb j x.tranches) (get_or x.attachments (suc j) 0) (B - x.recovery)

-- What a default from the count k takes from tranche j. None comes from the last count.
unfoldable pub payment_of : Terms → ℕ → ℕ → ℕ
payment_of x j k = cond (ltb k x.names) (default_payment (loss_of x j k) (loss_of x j (suc k))) 0

-- What a default from the count k pays of the premium earned up to it, by what is outstanding at each count. None comes from the last count. (T-01)
unfoldable pub earned_at : ℕ → ℕ → List ℕ → ℕ → ℕ
earned_at names fraction outstandings k =
    cond (ltb k names) (elapsed_payment fraction (get_or outstandings k 0) (get_or outstandings (suc k) 0)) 0

-- The same in rows of n + 1 counts a tranche, at tranche j.
unfoldable pub earned_in : ℕ → ℕ → List ℕ → ℕ → ℕ → ℕ
earned_in names fraction outstandings j k =
    cond (ltb k names) (elapsed_payment fraction (entry (suc names) outstandings j k) (entry (suc names) outstandings j (suc k))) 0

-- What is outstanding of a tranche, by count: at most the pool, and less with each default.
pub record Falling (names : ℕ) (outstandings : List ℕ) : Type 0 where
  pub long : length outstandings ≡ suc names
  pub most : (k : ℕ) → k ≤ names → get_or outstandings k 0 ≤ B
  pub falls : (k : ℕ) → k < names → get_or outstandings (suc k) 0 ≤ get_or outstandings k 0

-- The same of r tranches.
pub record FallingRows (r names : ℕ) (outstandings : List ℕ) : Type 0 where
  pub long : length outstandings ≡ r * suc names
  pub most : (j k : ℕ) → j < r → k ≤ names → entry (suc names) outstandings j k ≤ B
  pub falls : (j k : ℕ) → j < r → k < names → entry (suc names) outstandings j (suc k) ≤ entry (suc names) outstandings j k

-- Whether an accrual or a fraction is among the c steps before step i: one that is not 0. ('Sheet and units', and T-01)
unfoldable pub due_in : List ℕ → ℕ → ℕ → Bool
due_in accruals i c = any c (λ d. not (eqb (get_or accruals (i - suc d) 0) 0))

-- A row that one step back keeps within 64 bits.
pub record RowFits (row hazards : List ℕ) (discount : ℕ) (cash : List ℕ) : Type 0 where
  pub row_long : length row ≡ suc (length hazards)
  pub cash_long : length cash ≡ suc (length hazards)
  pub hazard_most : (k : ℕ) → get_or hazards k 0 ≤ B
  pub discount_most : discount ≤ B
  pub survived_most : (k : ℕ) → k ≤ length hazards → get_or row k 0 ≤ 18 * B
  pub defaulted_most : (k : ℕ) → k < length hazards → get_or row (suc k) 0 + get_or cash k 0 ≤ 18 * B

-- Rows of r tranches that one step back keeps within 64 bits.
pub record RowsFit (r names : ℕ) (rows hazards : List ℕ) (discount : ℕ) (cash : List ℕ) : Type 0 where
  pub hazards_long : length hazards ≡ names
  pub rows_long : length rows ≡ r * suc names
  pub cash_long : length cash ≡ r * suc names
  pub hazard_most : (k : ℕ) → get_or hazards k 0 ≤ B
  pub discount_most : discount ≤ B
  pub survived_most : (j k : ℕ) → j < r → k ≤ names → entry (suc names) rows j k ≤ 18 * B
  pub defaulted_most : (j k : ℕ) → j < r → k < names → entry (suc names) rows j (suc k) + entry (suc names) cash j k ≤ 18 * B
