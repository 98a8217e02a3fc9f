-- What risk staff may rely on: on the rows of a walk the default legs make no jump negative; and where no premium is paid up to a default, no jump and
-- no hedge ratio is (document 01, 'Hedge ratio', and T-01). With fractions one may be: a premium that a default brings forward may be worth more
-- than one paid late.
use Rattle.std.specs.Prelude.{ℕ, suc, ◌≤◌, ◌<◌, ◌≡◌, true, [], ◌∷◌, ℤ, pos, ◌+ℤ◌}
use Rattle.hedges.specs.Hedges.{change_of}
use Rattle.sheet.specs.Terms.{Terms}
use Rattle.sheet.specs.Brought.{Brought}
use Rattle.tree.specs.Sheet.{NoneElapsed, loss_of}
use Rattle.rows.specs.Rows.{node_in, Rows}
use Rattle.walk.specs.Answers.{accepted}
use Rattle.figures.specs.Nodes.{jump}
use Rattle.walk.specs.CallRules.{WalkResult, says}
use Rattle.walk.specs.Engine.{Engine}
use Rattle.walk.specs.CallLists.{Run, sheet_in, end}
use Rattle.walk.specs.Accuracy.{Walked}

-- A hedge ratio call that brings a number where the list ends, lent the rows of the last accepted open; of tranche j at the count k.
unfoldable pub hedging : Engine → Run → ℕ → ℕ → ℕ → WalkResult
hedging e run number j k = e.ratio (sheet_in run number) (end e run).register (end e run).walk (end e run).rows j k

-- What a default brings by the loss and the default leg: J over 10,000,000, but for the premium leg.
unfoldable pub default_gain : Terms → Rows → ℕ → ℕ → ℤ
default_gain x rows j k =
    change_of (loss_of x j k) (loss_of x j (suc k)) +ℤ change_of (node_in x rows.defaults j k) (node_in x rows.defaults j (suc k))

-- A list that walked on x.
pub record Gains (e : Engine) (run : Run) (x : Brought) : Type 0 where
  -- It is a number from 0 on, whatever the fractions.
  pub default : (j k : ℕ) → j ≤ x.sheet.tranches → k < x.sheet.names → (n : ℕ) × (default_gain x.sheet (end e run).rows j k ≡ pos n)
  -- With all fractions 0, every jump in its rows is a number from 0 on.
  pub jump : NoneElapsed x.sheet → (j k : ℕ) → j ≤ x.sheet.tranches → k < x.sheet.names →
      (n : ℕ) × (jump x (end e run).rows j k ≡ pos n)
  -- So is every hedge ratio that an accepted call says, whatever number it brings.
  pub ratio : NoneElapsed x.sheet → (number j k : ℕ) → accepted (hedging e run number j k).said ≡ true →
      (n : ℕ) × ((hedging e run number j k).said ≡ says (pos n ∷ []))

-- Of every list of calls, from any register of 256 bytes, walk and rows.
abbrev pub NeverNegative : Engine → Type 0
NeverNegative e = (run : Run) (number h : ℕ) → Walked e run number h → Gains e run (sheet_in run number)
