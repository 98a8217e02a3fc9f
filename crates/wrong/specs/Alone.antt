-- That demand 3 leaves an engine no choice in any list. Proved in proofs/Alone.antt.
-- (That the rules leave it none at all is `alone` of walk's proofs/Uniqueness.antt.)
use Rattle.std.specs.Prelude.{◌≡◌, List}
use Rattle.rows.specs.Rows.{Rows}
use Rattle.walk.specs.Engine.{Engine}
use Rattle.walk.specs.CallLists.{Call, Catalogue, end, answers}
use Rattle.walk.specs.Promise.{Demand3, blank_run}

-- Two engines leave one state after a list of calls, and answer any further call alike.
pub record Alike (e f : Engine) (k : Catalogue) (rows : Rows) (l : List Call) : Type 0 where
  pub state : end e (blank_run k rows l) ≡ end f (blank_run k rows l)
  pub said : (c : Call) → answers e (blank_run k rows l) c ≡ answers f (blank_run k rows l) c

-- Two that meet demand 3 do so after every list from a blank register, a fresh walk and rows of any content.
abbrev pub ListsAlone : Type 0
ListsAlone = (e f : Engine) → Demand3 e → Demand3 f → (k : Catalogue) (rows : Rows) (l : List Call) → Alike e f k rows l
