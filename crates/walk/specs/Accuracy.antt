-- Demand 3: what stands in the rows after any list of calls and how near it lies to the exact values, and that a withdrawn number shows none.
-- Letters as in document 01: tranche j, count k, h steps walked back. `e` is the engine, any one that has the seven calls, `y` a sheet's number.
use Rattle.std.specs.Prelude.{ℕ, suc, ◌+◌, ◌-◌, ◌*◌, ◌^◌, ◌≤◌, ◌≡◌, true, false, [], ◌∷◌, get_or, pos}
use Rattle.std.proofs.Math.Option.{some}
use Rattle.cash.specs.Units.{B}
use Rattle.cash.specs.Near.{Near}
use Rattle.cash.specs.Sums.{sum_to}
use Rattle.hedges.specs.Hedges.{net_value}
use Rattle.sheet.specs.Terms.{Terms}
use Rattle.sheet.specs.Brought.{Brought}
use Rattle.tree.specs.Sheet.{accrual_of, elapsed_of, outstanding_of, D, A, exact_d, exact_a, premium_halves, WholePool, spanning}
use Rattle.rows.specs.Rows.{node_in, AtEveryNode}
use Rattle.walk.specs.Answers.{Said, accepted}
use Rattle.walk.specs.RefusalOrders.{RefusalOrder, is_early, value_order}
use Rattle.walk.specs.CallRules.{says}
use Rattle.walk.specs.Engine.{Engine}
use Rattle.walk.specs.CallLists.{LentRows, own_rows, rows_lent, value, Run, sheet_in, end, history, answers}

-- A list of calls that walked: what it and its answers tell, and no state.
pub record Walked (e : Engine) (run : Run) (y h : ℕ) : Type 0 where
  -- The last accepted open brought the number y.
  pub opened : (history e run).opened ≡ some y
  -- The back calls accepted since then went h steps together.
  pub walked : (history e run).walked ≡ h
  -- Every back and value since then was lent the rows of that open.
  pub own : (history e run).own ≡ true

-- Where a walk of h steps stands: the last step less h.
abbrev pub position_after : Terms → ℕ → ℕ
position_after sheet h = sheet.steps - h

-- D and A of a node in the rows where the list ends.
unfoldable pub held_d : Engine → Run → Terms → ℕ → ℕ → ℕ
held_d e run sheet j k = node_in sheet (end e run).rows.defaults j k

unfoldable pub held_a : Engine → Run → Terms → ℕ → ℕ → ℕ
held_a e run sheet j k = node_in sheet (end e run).rows.premiums j k

-- D, A and W of a node, as a value call says them.
unfoldable pub held_worth : Engine → Run → Brought → ℕ → ℕ → Said
held_worth e run x j k =
    says (pos (held_d e run x.sheet j k) ∷ pos (held_a e run x.sheet j k)
    ∷ net_value (held_d e run x.sheet j k) (get_or x.coupons j 0) (held_a e run x.sheet j k) ∷ [])

-- A value call that brings the number y where the list ends, lent the rows of the walk, and is accepted.
pub record ShownValue (e : Engine) (run : Run) (x : Brought) (y j k : ℕ) : Type 0 where
  -- It brings the sheet that was walked.
  pub sheet : sheet_in run y ≡ x
  -- It asks for a node of that sheet.
  pub tranche : j ≤ x.sheet.tranches
  pub count : k ≤ x.sheet.names
  -- It says the D and the A that stand in the rows, and W.
  pub said : answers e run (value y own_rows j k) ≡ held_worth e run x j k

-- Where the attachment points run from 0 to B, the premiums of the tranches are those of the index, tranche r of the same rows. (T-12)
pub record IndexAccuracy (e : Engine) (run : Run) (sheet : Terms) (h : ℕ) : Type 0 where
  -- Before any rounding, what each step pays at each count adds without a unit's difference,
  pub dates : (s k : ℕ) →
      sum_to sheet.tranches (λ j. accrual_of sheet s * outstanding_of sheet j k) ≡ accrual_of sheet s * outstanding_of sheet sheet.tranches k
  -- and so does what a default pays up to it. (T-01)
  pub elapsed : (s k : ℕ) →
      sum_to sheet.tranches (λ j. elapsed_of sheet s * (outstanding_of sheet j k - outstanding_of sheet j (suc k)))
      ≡ elapsed_of sheet s * (outstanding_of sheet sheet.tranches k - outstanding_of sheet sheet.tranches (suc k))
  -- So do the exact values.
  pub exact : (k : ℕ) →
      sum_to sheet.tranches (λ j. exact_a sheet j h (position_after sheet h) k) ≡ exact_a sheet sheet.tranches h (position_after sheet h) k
  -- The premium legs in the rows do so within the distances of all r + 1 of them (doubled).
  pub held : (k : ℕ) → k ≤ sheet.names →
      Near ((sheet.tranches + 1) * premium_halves sheet h (position_after sheet h))
      (2 * sum_to sheet.tranches (λ j. held_a e run sheet j k)) (2 * held_a e run sheet sheet.tranches k)

-- What is found where a list ends that walked h steps back on x.
-- Exact values are whole numbers over B ^ (2 h + 1). Distances of A are doubled, so that half a unit for each premium date and
-- each elapsed fraction is whole.
-- `second` is a second list, on a sheet of one tranche with the same outer attachment points, equal but for number and coupons, walked as far.
pub record WalkAccuracy (e : Engine) (run : Run) (x : Brought) (h : ℕ) : Type 0 where
  -- No more steps were walked than the sheet has.
  pub steps : h ≤ x.sheet.steps
  -- The walk is open, bears the sheet's number and stands h steps before the last.
  pub walk : (end e run).walk ≡ record { «open» = true; number = x.number; position = position_after x.sheet h }
  -- Each default leg in the rows is the backward rule's over those h steps, unit for unit.
  pub default_is : AtEveryNode x.sheet (λ j k. held_d e run x.sheet j k ≡ D x.sheet j h (position_after x.sheet h) k)
  -- So is each premium leg.
  pub premium_is : AtEveryNode x.sheet (λ j k. held_a e run x.sheet j k ≡ A x.sheet j h (position_after x.sheet h) k)
  -- Each default leg lies within h units of its exact value.
  pub default_near : AtEveryNode x.sheet (λ j k.
      Near (h * B ^ (2 * h + 1)) (held_d e run x.sheet j k * B ^ (2 * h + 1)) (exact_d x.sheet j h (position_after x.sheet h) k))
  -- Each premium leg lies within h units, and half a unit for each premium date and for each elapsed fraction among those steps.
  pub premium_near : AtEveryNode x.sheet (λ j k.
      Near (premium_halves x.sheet h (position_after x.sheet h) * B ^ (2 * h + 1))
      (2 * (held_a e run x.sheet j k * B ^ (2 * h + 1))) (2 * exact_a x.sheet j h (position_after x.sheet h) k))
  -- A value call that is accepted here shows these legs, whatever number it brings.
  pub shown : (y j k : ℕ) → accepted (answers e run (value y own_rows j k)) ≡ true → ShownValue e run x y j k
  -- At each count the tranches' default legs add to that of the one tranche that spans them, within r + 1 times the distance.
  pub defaults_add : (second : Run) (y : ℕ) → (sheet_in second y).sheet ≡ spanning x.sheet → Walked e second y h → (k : ℕ) → k ≤ x.sheet.names →
      Near ((x.sheet.tranches + 1) * h) (sum_to x.sheet.tranches (λ j. held_d e run x.sheet j k)) (held_d e second (spanning x.sheet) 0 k)
  -- So do their premium legs.
  pub premiums_add : (second : Run) (y : ℕ) → (sheet_in second y).sheet ≡ spanning x.sheet → Walked e second y h → (k : ℕ) → k ≤ x.sheet.names →
      Near ((x.sheet.tranches + 1) * premium_halves x.sheet h (position_after x.sheet h))
      (2 * sum_to x.sheet.tranches (λ j. held_a e run x.sheet j k)) (2 * held_a e second (spanning x.sheet) 0 k)
  -- Of a sheet whose tranches are the whole pool, they add to the index's too, in these rows.
  pub premiums_of_index : WholePool x.sheet → IndexAccuracy e run x.sheet h

-- A refusal by 9, withdrawn, or by what stands before it in the order of the call.
pub record EarlyRefusal (order : RefusalOrder) (said : Said) : Type 0 where
  -- It is a refusal,
  pub refused : accepted said ≡ false
  -- by 9 or the number of a rule before it,
  pub early : is_early order said.number ≡ true
  -- and shows no value beside its number.
  pub silent : said.values ≡ []

-- Demand 3, of one list of calls.
pub record Owed (e : Engine) (run : Run) : Type 0 where
  -- Of the last walk, all that is said above.
  pub found : (y h : ℕ) → Walked e run y h → WalkAccuracy e run (sheet_in run y) h
  -- A number withdrawn in the list shows no value from then on, whatever rows are lent.
  pub hidden : (y : ℕ) → (history e run).gone y ≡ true → (rows : LentRows) (j k : ℕ) →
      EarlyRefusal (value_order (sheet_in run y) (end e run).register (end e run).walk (rows_lent rows (end e run).rows) j k)
      (answers e run (value y rows j k))
