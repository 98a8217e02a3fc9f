-- The rule of each call: what it does when accepted and leaves when refused, at any register, walk and rows
-- (document 01, 'Register', 'Walking back', 'Hedge ratio', 'Going forward').
-- Letters as there: tranche j, count k, position or step i, c steps back. `o` is what the call gives back.
use Rattle.std.specs.Prelude.{ℕ, zero, suc, ◌+◌, ◌-◌, ◌*◌, ◌^◌, ◌≤◌, ◌≡◌, true, false, List, [], ◌∷◌, length, get_or, set, ℤ, pos}
use Rattle.cash.specs.Units.{B, half}
use Rattle.cash.specs.Sums.{sum_to}
use Rattle.hedges.specs.Hedges.{net_value, ratio_of}
use Rattle.sheet.specs.Terms.{Terms}
use Rattle.sheet.specs.Brought.{Brought}
use Rattle.tree.specs.Sheet.{hazard_of, loss_of, outstanding_of, tree_of}
use Rattle.tree.specs.Forward.{distribution, probability, apart}
use Rattle.rows.specs.Rows.{node_in, Rows, AtEveryNode}
use Rattle.walk.specs.declared.Walk.{Walk}
use Rattle.walk.specs.Answers.{Said, accepted}
use Rattle.figures.specs.Nodes.{jump}
use Rattle.walk.specs.RefusalOrders.{FullRows, Judges, issue_order, withdraw_order, open_order, back_order, value_order, ratio_order, forward_order}

-- ---- what calls give back, with answers in document 01's terms

-- issue and withdraw
pub record RegisterResult : Type 0 where
  pub said : Said
  pub register : List ℕ

-- open, back, value and hedge ratio
pub record WalkResult : Type 0 where
  pub said : Said
  pub walk : Walk
  pub rows : Rows

-- forward
pub record ForwardResult : Type 0 where
  pub said : Said
  pub row : List ℕ

-- 0 and some values.
abbrev pub says : List ℤ → Said
says values = record { number = 0; values = values }

-- ---- accepted calls

-- half(v(i + 1) × half(p × defaulted + (B - p) × survived)), by the hazard p into step i + 1; it is 0 for k = n, so only the second term counts.
unfoldable pub backward_rule : Terms → ℕ → ℕ → ℕ → ℕ → ℕ
backward_rule x i k defaulted survived =
    half (get_or x.discounts i 0 * half (hazard_of x (suc i) k * defaulted + (B - hazard_of x (suc i) k) * survived))

-- Rows `new` at position i, from rows `old` at position i + 1.
pub record BackStep (x : Terms) (i : ℕ) (old new : Rows) : Type 0 where
  -- Both have the right length.
  pub size : FullRows x new
  -- Each default leg follows the backward rule; a default adds what the tranche then loses.
  pub default : AtEveryNode x (λ j k.
      node_in x new.defaults j k
      ≡ backward_rule x i k (node_in x old.defaults j (suc k) + (loss_of x j (suc k) - loss_of x j k)) (node_in x old.defaults j k))
  -- So does each premium leg; the step adds the premium on what is outstanding after it, and a default the premium earned up to it, on what it takes
  -- off. (T-01, on the second)
  pub premium : AtEveryNode x (λ j k.
      node_in x new.premiums j k
      ≡ backward_rule x i k
      (node_in x old.premiums j (suc k)
      + (half (get_or x.accruals i 0 * outstanding_of x j (suc k)) + half (get_or x.elapsed i 0 * (outstanding_of x j k - outstanding_of x j (suc k)))))
      (node_in x old.premiums j k + half (get_or x.accruals i 0 * outstanding_of x j k)))

-- Rows `new`, c steps back from rows `old` at position i.
unfoldable pub BackSteps : Terms → ℕ → ℕ → Rows → Rows → Type 0
BackSteps x zero i old new = old ≡ new
BackSteps x (suc c) i old new = (between : Rows) × BackStep x (i - 1) old between × BackSteps x c (i - 1) between new

-- Open: the walk stands at the last step, and both rows are zero.
pub record AcceptedOpen (x : Brought) (o : WalkResult) : Type 0 where
  pub said : o.said ≡ says []
  pub walk : o.walk ≡ record { «open» = true; number = x.number; position = x.sheet.steps }
  pub size : FullRows x.sheet o.rows
  pub default : AtEveryNode x.sheet (λ j k. node_in x.sheet o.rows.defaults j k ≡ 0)
  pub premium : AtEveryNode x.sheet (λ j k. node_in x.sheet o.rows.premiums j k ≡ 0)

-- Back: the position falls by c and is answered, and the rows go c steps by the backward rule.
pub record AcceptedBack (x : Brought) (before : Walk) (lent : Rows) (c : ℕ) (o : WalkResult) : Type 0 where
  pub said : o.said ≡ says (pos (before.position - c) ∷ [])
  pub walk : o.walk ≡ record { «open» = before.«open»; number = before.number; position = before.position - c }
  pub rows : BackSteps x.sheet c before.position lent o.rows

-- Value: D, A and W; walk and rows are only read.
pub record AcceptedValue (x : Brought) (before : Walk) (lent : Rows) (j k : ℕ) (o : WalkResult) : Type 0 where
  pub said : o.said
      ≡ says (pos (node_in x.sheet lent.defaults j k) ∷ pos (node_in x.sheet lent.premiums j k)
      ∷ net_value (node_in x.sheet lent.defaults j k) (get_or x.coupons j 0) (node_in x.sheet lent.premiums j k) ∷ [])
  pub walk : o.walk ≡ before
  pub rows : o.rows ≡ lent

-- Hedge ratio: the signed ratio of the tranche's jump to the index's; walk and rows are only read.
pub record AcceptedRatio (x : Brought) (before : Walk) (lent : Rows) (j k : ℕ) (o : WalkResult) : Type 0 where
  pub said : o.said ≡ says (ratio_of (jump x lent j k) (jump x lent x.sheet.tranches k) ∷ [])
  pub walk : o.walk ≡ before
  pub rows : o.rows ≡ lent

-- Forward: the row for step i.
pub record AcceptedForward (x : Terms) (i : ℕ) (o : ForwardResult) : Type 0 where
  pub said : o.said ≡ says []
  pub size : length o.row ≡ x.names + 1
  -- Q by its rule,
  pub row : (k : ℕ) → k ≤ x.names → get_or o.row k 0 ≡ distribution (tree_of x) i k
  -- in total B,
  pub total : sum_to (x.names + 1) (λ k. get_or o.row k 0) ≡ B
  -- and its errors against the exact probabilities, over B ^ i, at most n × i units.
  pub near : sum_to (x.names + 1) (λ k. apart (get_or o.row k 0 * B ^ i) (probability (tree_of x) i k * B)) ≤ x.names * i * B ^ i

-- ---- the rule of each call: the first refusal of its order, what it does when accepted, and what it leaves when refused

-- A refused call hands back walk and rows as they were.
abbrev pub RefusalEffect : Walk → Rows → WalkResult → Type 0
RefusalEffect walk rows o = accepted o.said ≡ false → (o.walk ≡ walk) × (o.rows ≡ rows)

-- Issue and withdraw write one byte, and none when refused.
pub record ByteWrite (register : List ℕ) (number byte : ℕ) (o : RegisterResult) : Type 0 where
  pub does : accepted o.said ≡ true → (o.said ≡ says []) × (o.register ≡ set register number byte)
  pub leaves : accepted o.said ≡ false → o.register ≡ register

pub record IssueRule (register : List ℕ) (number : ℕ) (o : RegisterResult) : Type 0 where
  pub judged : Judges (issue_order register number) o.said
  pub writes : ByteWrite register number 0xA5 o

pub record WithdrawRule (register : List ℕ) (number : ℕ) (o : RegisterResult) : Type 0 where
  pub judged : Judges (withdraw_order register number) o.said
  pub writes : ByteWrite register number 0x00 o

pub record OpenRule (x : Brought) (register : List ℕ) (walk : Walk) (rows : Rows) (o : WalkResult) : Type 0 where
  pub judged : Judges (open_order x register rows) o.said
  pub does : accepted o.said ≡ true → AcceptedOpen x o
  pub leaves : RefusalEffect walk rows o

pub record BackRule (x : Brought) (register : List ℕ) (walk : Walk) (rows : Rows) (c : ℕ) (o : WalkResult) : Type 0 where
  pub judged : Judges (back_order x register walk rows c) o.said
  pub does : accepted o.said ≡ true → AcceptedBack x walk rows c o
  pub leaves : RefusalEffect walk rows o

pub record ValueRule (x : Brought) (register : List ℕ) (walk : Walk) (rows : Rows) (j k : ℕ) (o : WalkResult) : Type 0 where
  pub judged : Judges (value_order x register walk rows j k) o.said
  pub does : accepted o.said ≡ true → AcceptedValue x walk rows j k o
  pub leaves : RefusalEffect walk rows o

pub record RatioRule (x : Brought) (register : List ℕ) (walk : Walk) (rows : Rows) (j k : ℕ) (o : WalkResult) : Type 0 where
  pub judged : Judges (ratio_order x register walk rows j k) o.said
  pub does : accepted o.said ≡ true → AcceptedRatio x walk rows j k o
  pub leaves : RefusalEffect walk rows o

pub record ForwardRule (x : Brought) (register row : List ℕ) (i : ℕ) (o : ForwardResult) : Type 0 where
  pub judged : Judges (forward_order x register row i) o.said
  pub does : accepted o.said ≡ true → AcceptedForward x.sheet i o
  pub leaves : accepted o.said ≡ false → o.row ≡ row
