-- Walks that are walked in turns (T-11): each comes to what it comes to when it is walked alone.
-- A walk stands at a place, with a sheet, a walk record and rows of its own; the register is shared. What others write to it between two turns is
-- left open: each turn has a register of its own, in which the walk's number is live. No more is asked of it, and nothing of walks at other places.
-- `e` is the engine of the walks, any one that keeps to the rules of its calls.
use Rattle.std.specs.Prelude.{ℕ, ◌+◌, ◌≤◌, ◌≡◌, cond, List, [], ◌∷◌, map, eqb, pos}
use Rattle.register.specs.Rules.{Live}
use Rattle.sheet.specs.Brought.{Brought}
use Rattle.rows.specs.Rows.{Rows}
use Rattle.walk.specs.declared.Walk.{Walk}
use Rattle.walk.specs.CallRules.{says, WalkResult}
use Rattle.walk.specs.Engine.{Engine}
use Rattle.walk.specs.CallLists.{Run, sheet_in, end}
use Rattle.walk.specs.Accuracy.{Walked, position_after}
use Rattle.walk.specs.Liveness.{steps_in}
use Rattle.rounds.specs.Rounds.{turns_at}

-- What stands at a place.
pub record Standing : Type 0 where
  pub sheet : Brought
  pub walk : Walk
  pub rows : Rows

-- The walk of a number where a list of calls ends.
abbrev pub standing_in : Engine → Run → ℕ → Standing
standing_in e run number = record { sheet = sheet_in run number; walk = (end e run).walk; rows = (end e run).rows }

-- What a back by c of it answers and leaves, on a register, and what then stands at the place.
abbrev pub back_of : Engine → List ℕ → Standing → ℕ → WalkResult
back_of e register s c = e.back s.sheet register s.walk s.rows c

abbrev pub stands_back : Engine → List ℕ → Standing → ℕ → Standing
stands_back e register s c = record { sheet = s.sheet; walk = (back_of e register s c).walk; rows = (back_of e register s c).rows }

-- A turn as it is walked: its place, as a call for turns named it, and the register that it meets.
pub record WalkedTurn : Type 0 where
  pub place : ℕ
  pub register : List ℕ

-- A turn is a back by 1 of the walk at its place, and touches no other walk.
abbrev pub after_turn : Engine → (ℕ → Standing) → WalkedTurn → ℕ → Standing
after_turn e walks turn p = cond (eqb p turn.place) (stands_back e turn.register (walks p) 1) (walks p)

abbrev pub after_turns : Engine → (ℕ → Standing) → List WalkedTurn → ℕ → Standing
after_turns e walks [] = walks
after_turns e walks (turn ∷ turns) = after_turns e (after_turn e walks turn) turns

-- How many of the turns are the walk's at a place.
abbrev pub turns_had : ℕ → List WalkedTurn → ℕ
turns_had place turns = turns_at place (map (λ (t : WalkedTurn). t.place) turns)

-- A number is live at each turn of a place.
abbrev pub LiveAt : ℕ → ℕ → List WalkedTurn → Type 0
LiveAt number place [] = Unit {0}
LiveAt number place (turn ∷ turns) = (place ≡ turn.place → Live turn.register number) × LiveAt number place turns

-- A walk that has its turns among others.
pub record Among (e : Engine) (run : Run) (number h : ℕ) (walks : ℕ → Standing) (turns : List WalkedTurn) (place : ℕ) : Type 0 where
  -- A list of calls opened the sheet of this number and walked h steps back.
  pub walked : Walked e run number h
  -- The walk stands at the place as that list leaves it.
  pub stands : walks place ≡ standing_in e run number
  -- Its number is live at each of its turns.
  pub live : LiveAt number place turns

pub record WalksInTurns (e : Engine) : Type 0 where
  -- After the turns a back by what is left or less, its next turn by 1 among them, is accepted and answers the position.
  pub goes : (run : Run) (number h : ℕ) (walks : ℕ → Standing) (turns : List WalkedTurn) (place : ℕ) → Among e run number h walks turns place →
      (register : List ℕ) (c : ℕ) → Live register number → h + turns_had place turns + c ≤ steps_in run number →
      (back_of e register (after_turns e walks turns place) c).said
      ≡ says (pos (position_after (sheet_in run number).sheet (h + turns_had place turns + c)) ∷ [])
  -- Walk and rows are then those that one back by as many steps as it had turns leaves, on any register in which the number is live.
  pub same : (run : Run) (number h : ℕ) (walks : ℕ → Standing) (turns : List WalkedTurn) (place : ℕ) → Among e run number h walks turns place →
      (register : List ℕ) → Live register number → h + turns_had place turns ≤ steps_in run number →
      after_turns e walks turns place ≡ stands_back e register (walks place) (turns_had place turns)
