-- The five calls that bring a sheet, by any checks and any walk: so the calls before a request are told by what it changed, and by nothing else.
use Rattle.std.specs.Prelude.{ℕ, ◌-◌, ◌*◌, ◌≡◌, Bool, true, ◌||◌, List, [], ◌∷◌, leb, ltb, eqb, nat_abs, Ok}
use Rattle.hedges.specs.Hedges.{ratio_of}
use Rattle.register.specs.Register.{status_in}
use Rattle.sheet.specs.Terms.{Terms}
use Rattle.sheet.specs.Brought.{Brought}
use Rattle.rows.specs.Rows.{Rows}
use Rattle.refusals.specs.declared.Refusal.TheVariants.{Withdrawn, Unissued, NoWalk, OverCeiling, OutOfSteps, OffTree, FlatHedge, OffScale}
use Rattle.refusals.specs.Tests.{Test, first}
use Rattle.admission.specs.LentTests.{rows_bad, row_bad, is_withdrawn, is_unissued, off_walk, ten_tests}
use Rattle.figures.specs.Answer.{Done, Position, Ratio}
use Rattle.figures.specs.Nodes.{jump}
use Rattle.figures.specs.Replies.{worth}
use Rattle.walk.specs.declared.Walk.{Walk}
use Rattle.walk.specs.Calls.{Outcome, ForwardOutcome, or_outcome, or_forward_outcome, zeros, open_call, back_call, value_call, ratio_call, forward_call}

-- What the calls go by.
pub record Manner : Type 0 where
  -- The checks of a sheet, and then more. The Bool tells whether a list lent beside the sheet's own has another length.
  pub checks : Brought → Bool → List Test → List Test
  -- 12: whether rows at a position hold an entry over its ceiling.
  pub over : Terms → ℕ → Rows → Bool
  -- Rows so many steps back from a position.
  pub rolled : Terms → ℕ → ℕ → Rows → Rows
  -- The distribution of the default count after so many steps.
  pub spread : Terms → ℕ → List ℕ

-- ---- the checks

unfoldable pub ten_by : Manner → Brought → List ℕ → Bool → List Test → List Test
ten_by m x register lent more =
    m.checks x lent
    ((is_withdrawn (status_in register x.number), Withdrawn) ∷ (is_unissued (status_in register x.number), Unissued) ∷ more)

unfoldable pub twelve_by : Manner → Brought → List ℕ → Walk → Rows → List Test → List Test
twelve_by m x register walk rows more =
    ten_by m x register (rows_bad x register rows)
    ((off_walk x walk.«open» walk.number walk.position, NoWalk) ∷ (m.over x.sheet walk.position rows, OverCeiling) ∷ more)

-- ---- the calls

unfoldable pub open_by : Manner → Brought → List ℕ → Walk → Rows → Outcome
open_by m x register walk rows =
    or_outcome (first (ten_by m x register (rows_bad x register rows) [])) walk rows
    (record { answer = Done; walk = record { «open» = true; number = x.number; position = x.sheet.steps }; rows = zeros x })

unfoldable pub back_by : Manner → Brought → List ℕ → Walk → Rows → ℕ → Outcome
back_by m x register walk rows c =
    or_outcome (first (twelve_by m x register walk rows ((ltb walk.position c, OutOfSteps) ∷ []))) walk rows
    (record {
      answer = Position (walk.position - c);
      walk = record { «open» = walk.«open»; number = walk.number; position = walk.position - c };
      rows = m.rolled x.sheet walk.position c rows;
    })

unfoldable pub value_by : Manner → Brought → List ℕ → Walk → Rows → ℕ → ℕ → Outcome
value_by m x register walk rows j k =
    or_outcome (first (twelve_by m x register walk rows ((ltb x.sheet.tranches j || ltb x.sheet.names k, OffTree) ∷ []))) walk rows
    (record { answer = worth x rows j k; walk = walk; rows = rows })

unfoldable pub ratio_by : Manner → Brought → List ℕ → Walk → Rows → ℕ → ℕ → Outcome
ratio_by m x register walk rows j k =
    or_outcome
    (first (twelve_by m x register walk rows
    ((ltb x.sheet.tranches j || leb x.sheet.names k, OffTree) ∷ (eqb (nat_abs (jump x rows x.sheet.tranches k)) 0, FlatHedge)
    ∷ (leb (1_000_000 * nat_abs (jump x rows x.sheet.tranches k)) (nat_abs (jump x rows j k)), OffScale) ∷ [])))
    walk rows
    (record { answer = Ratio (ratio_of (jump x rows j k) (jump x rows x.sheet.tranches k)); walk = walk; rows = rows })

unfoldable pub forward_by : Manner → Brought → List ℕ → List ℕ → ℕ → ForwardOutcome
forward_by m x register row i =
    or_forward_outcome (first (ten_by m x register (row_bad x register row) ((ltb x.sheet.steps i, OutOfSteps) ∷ []))) row
    (record { answer = Done; row = m.spread x.sheet i })

-- The checks before 12 are passed, so 12 is asked.
abbrev pub CeilingsAsked : Brought → List ℕ → Walk → Rows → Type 0
CeilingsAsked x register walk rows =
    first (ten_tests x register (rows_bad x register rows) ((off_walk x walk.«open» walk.number walk.position, NoWalk) ∷ [])) ≡ Ok tt

-- Each of our calls that brings the sheet x does what it does in the manner m, accepted or refused; those that ask for 12 do where they are lent rows
-- of a kind.
pub record CallsAlike (m : Manner) (x : Brought) (Lent : List ℕ → Walk → Rows → Type 0) : Type 0 where
  pub opening : (register : List ℕ) (walk : Walk) (rows : Rows) → open_call x register walk rows ≡ open_by m x register walk rows
  pub back : (register : List ℕ) (walk : Walk) (rows : Rows) (c : ℕ) → Lent register walk rows →
      back_call x register walk rows c ≡ back_by m x register walk rows c
  pub value : (register : List ℕ) (walk : Walk) (rows : Rows) (j k : ℕ) → Lent register walk rows →
      value_call x register walk rows j k ≡ value_by m x register walk rows j k
  pub ratio : (register : List ℕ) (walk : Walk) (rows : Rows) (j k : ℕ) → Lent register walk rows →
      ratio_call x register walk rows j k ≡ ratio_by m x register walk rows j k
  pub forward : (register row : List ℕ) (i : ℕ) → forward_call x register row i ≡ forward_by m x register row i
