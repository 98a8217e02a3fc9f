-- The table of refusals in plain words, and that a call gets the first one it meets (document 01, 'Refusals in order').
use Rattle.std.specs.Prelude.{ℕ, ◌+◌, ◌*◌, ◌≤◌, ◌<◌, ◌≡◌, Bool, true, false, not, ◌&&◌, ◌||◌, List, [], ◌∷◌, ◌⊎◌, length, eqb, nat_abs}
use Rattle.register.specs.Rules.{Unissued, Live}
use Rattle.sheet.specs.Terms.{Terms}
use Rattle.tree.specs.Sheet.{default_most, premium_most}
use Rattle.figures.specs.Nodes.{jump}
use Rattle.rows.specs.Rows.{row_length, node_in, Rows, AtEveryNode}
use Rattle.sheet.specs.Brought.{Brought}
use Rattle.sheet.specs.Limits.{PoolInside, ListsFit, RecoveryInside, AttachmentsRise, StartsRise}
use Rattle.sheet.specs.Limits.{HazardsInside, DiscountsInside, AccrualsInside, ElapsedInside, CouponsInside}
use Rattle.walk.specs.declared.Walk.{Walk}
use Rattle.walk.specs.Answers.{Said}

-- ---- what a call has to keep to, beyond its sheet's limits

-- Rows of the right length.
pub record FullRows (x : Terms) (rows : Rows) : Type 0 where
  pub defaults : length rows.defaults ≡ row_length x
  pub premiums : length rows.premiums ≡ row_length x

-- 2, of open, back, value and hedge ratio
pub record LentFit (x : Brought) (register : List ℕ) (lent : Rows) : Type 0 where
  pub lists : ListsFit x
  pub size : length register ≡ 256
  pub rows : FullRows x.sheet lent

-- 2, of forward, which is lent one row
pub record ForwardFit (x : Brought) (register lent : List ℕ) : Type 0 where
  pub lists : ListsFit x
  pub size : length register ≡ 256
  pub row : length lent ≡ x.sheet.names + 1

-- 11
pub record OnWalk (x : Brought) (walk : Walk) : Type 0 where
  pub opened : walk.«open» ≡ true
  pub number : walk.number ≡ x.number
  pub position : walk.position ≤ x.sheet.steps

-- 12: no entry over its ceiling, at position i
pub record Clean (x : Terms) (i : ℕ) (rows : Rows) : Type 0 where
  pub default : AtEveryNode x (λ j k. node_in x rows.defaults j k ≤ default_most x j k)
  pub premium : AtEveryNode x (λ j k. node_in x rows.premiums j k ≤ premium_most x i k)

-- ---- the orders: each rule with the number of the refusal for breaking it

abbrev pub RefusalOrder : Type 1
RefusalOrder = List (Type 0 × ℕ)

-- 25 stands before 5 and 21 after 7. (T-06, T-01)
abbrev pub to_ten : Brought → List ℕ → Type 0 → RefusalOrder → RefusalOrder
to_ten x register lengths more =
    (PoolInside x.sheet, 1) ∷ (lengths, 2) ∷ (RecoveryInside x.sheet, 3) ∷ (AttachmentsRise x.sheet, 4) ∷ (StartsRise x.sheet, 25)
    ∷ (HazardsInside x.sheet, 5) ∷ (DiscountsInside x.sheet, 6) ∷ (AccrualsInside x.sheet, 7) ∷ (ElapsedInside x.sheet, 21)
    ∷ (CouponsInside x, 8) ∷ (Unissued register x.number ⊎ Live register x.number, 9) ∷ (¬ (Unissued register x.number), 10) ∷ more

abbrev pub issue_order : List ℕ → ℕ → RefusalOrder
issue_order register y = (length register ≡ 256, 2) ∷ (Unissued register y ⊎ Live register y, 9) ∷ (¬ (Live register y), 17) ∷ []

abbrev pub withdraw_order : List ℕ → ℕ → RefusalOrder
withdraw_order register y = (length register ≡ 256, 2) ∷ (Unissued register y ⊎ Live register y, 9) ∷ (¬ (Unissued register y), 10) ∷ []

abbrev pub open_order : Brought → List ℕ → Rows → RefusalOrder
open_order x register rows = to_ten x register (LentFit x register rows) []

abbrev pub to_twelve : Brought → List ℕ → Walk → Rows → RefusalOrder → RefusalOrder
to_twelve x register walk rows more =
    to_ten x register (LentFit x register rows) ((OnWalk x walk, 11) ∷ (Clean x.sheet walk.position rows, 12) ∷ more)

abbrev pub back_order : Brought → List ℕ → Walk → Rows → ℕ → RefusalOrder
back_order x register walk rows c = to_twelve x register walk rows ((c ≤ walk.position, 13) ∷ [])

abbrev pub value_order : Brought → List ℕ → Walk → Rows → ℕ → ℕ → RefusalOrder
value_order x register walk rows j k = to_twelve x register walk rows (((j ≤ x.sheet.tranches) × (k ≤ x.sheet.names), 14) ∷ [])

abbrev pub ratio_order : Brought → List ℕ → Walk → Rows → ℕ → ℕ → RefusalOrder
ratio_order x register walk rows j k =
    to_twelve x register walk rows
    (((j ≤ x.sheet.tranches) × (k < x.sheet.names), 14) ∷ (¬ (nat_abs (jump x rows x.sheet.tranches k) ≡ 0), 15)
    ∷ (nat_abs (jump x rows j k) < 1_000_000 * nat_abs (jump x rows x.sheet.tranches k), 16) ∷ [])

abbrev pub forward_order : Brought → List ℕ → List ℕ → ℕ → RefusalOrder
forward_order x register row i = to_ten x register (ForwardFit x register row) ((i ≤ x.sheet.steps, 13) ∷ [])

-- Whether n is 9, withdrawn, or the number of a rule that stands before it in the order.
unfoldable pub is_early : RefusalOrder → ℕ → Bool
is_early [] n = false
is_early (rule ∷ l) n = eqb rule.1 n || (not (eqb rule.1 9) && is_early l n)

-- The answer has the number of the first rule of the order that is broken; where none is, the call is accepted.
unfoldable pub Judges : RefusalOrder → Said → Type 0
Judges [] said = said.number ≡ 0
Judges (rule ∷ l) said = ((¬ rule.0) × (said ≡ record { number = rule.1; values = [] })) ⊎ (rule.0 × Judges l said)
