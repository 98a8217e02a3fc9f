-- One step of a distribution that is held as a list (document 01, 'Going forward').
use Rattle.std.specs.Prelude.{ℕ, ◌*◌, ◌≤◌, ◌≡◌, List, [], length, get_or}
use Rattle.cash.specs.Units.{B}
use Rattle.sheet.specs.Terms.{Terms}
use Rattle.tree.specs.Paths.{Tree}
use Rattle.tree.specs.Forward.{pushed}
use Rattle.rows.specs.Tables.{tab}

-- A sheet of names, starts and hazards alone: a distribution rests on nothing else.
unfoldable pub hazard_sheet : ℕ → List ℕ → List ℕ → Terms
hazard_sheet names starts hazards =
    record {
      names = names;
      steps = 0;
      tranches = 0;
      recovery = 0;
      attachments = [];
      starts = starts;
      hazards = hazards;
      discounts = [];
      accruals = [];
      elapsed = [];
    }

-- What it asks of them.
pub record HazardsFit (names : ℕ) (starts hazards : List ℕ) : Type 0 where
  pub names_most : names ≤ 125
  pub starts_fit : (1 ≤ length starts) × (length starts ≤ 16)
  pub long : length hazards ≡ length starts * names
  pub most : (i : ℕ) → get_or hazards i 0 ≤ B

-- The tree whose steps all go by the hazards of one.
unfoldable pub step_tree : List ℕ → Tree
step_tree hazards = record { names = length hazards; hazard = λ s k. get_or hazards k 0; discount = λ s. 0 }

-- The row after a step by these hazards, every move taken from the row before it.
unfoldable pub pushed_row : List ℕ → List ℕ → List ℕ
pushed_row hazards row = tab (length row) (pushed (step_tree hazards) 1 (λ k. get_or row k 0))
