-- The state of a run (document 01, 'Deck and printing program').
use Rattle.std.specs.Prelude.{ℕ, ◌≡◌, List, length, replicate}
use Rattle.register.specs.Events as Register
use Rattle.rows.specs.Rows.{Rows, rows_of}
use Rattle.walk.specs.declared.Walk.{Walk}
use Rattle.walk.specs.Answers.{fresh}
use Rattle.entries.specs.declared.Layout.{Layout}
use Rattle.entries.specs.Draft.{Draft, empty_draft}
use Rattle.entries.specs.Layouts.{draft_in}

-- The sheet as entered so far, the register, the walk, and room for both rows and for the forward row.
pub record Machine : Type 0 where
  pub draft : Draft
  pub register : List ℕ
  pub walk : Walk
  pub rooms : Rows
  pub row : List ℕ

abbrev pub machine_of : Draft → List ℕ → Walk → List ℕ → List ℕ → List ℕ → Machine
machine_of g register w defaults premiums row =
    record { draft = g; register = register; walk = w; rooms = rows_of defaults premiums; row = row }

-- A run on a register starts with no entries and a fresh walk. The rooms take the rows of the largest sheet: 9 × 126 numbers, and 126 forward.
abbrev pub machine_on : List ℕ → Machine
machine_on register = machine_of empty_draft register fresh (replicate 1134 0) (replicate 1134 0) (replicate 126 0)

-- That of the program has a blank register.
abbrev pub fresh_machine : Machine
fresh_machine = machine_on Register.blank_register

-- The machine that the code's figures and arrays stand for.
abbrev pub machine_in : Layout → Walk → List ℕ → List ℕ → List ℕ → List ℕ → List ℕ → Machine
machine_in l w numbers register defaults premiums row = machine_of (draft_in l numbers) register w defaults premiums row

-- The rooms have their lengths. A register of another length is refused by each call that reads it (2).
pub record RoomLengths (defaults premiums row : List ℕ) : Type 0 where
  pub defaults_long : length defaults ≡ 1134
  pub premiums_long : length premiums ≡ 1134
  pub row_long : length row ≡ 126
