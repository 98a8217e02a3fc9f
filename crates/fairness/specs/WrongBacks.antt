-- Engines that are ours but for their back, and that none of them walks in turns as alone. Proved in proofs/WrongBacks.antt.
use Rattle.std.specs.Prelude.{ℕ, cond, List, [], get_or, eqb}
use Rattle.sheet.specs.Brought.{Brought}
use Rattle.rows.specs.Rows.{Rows}
use Rattle.walk.specs.declared.Walk.{Walk}
use Rattle.walk.specs.CallRules.{WalkResult}
use Rattle.walk.specs.Engine.{Engine}
use Rattle.walk.specs.OurEngine.{ours}
use Rattle.fairness.specs.InTurns.{WalksInTurns}

abbrev pub back_by : (Brought → List ℕ → Walk → Rows → ℕ → WalkResult) → Engine
back_by f =
    record {
      issue = ours.issue;
      withdraw = ours.withdraw;
      opening = ours.opening;
      back = f;
      value = ours.value;
      ratio = ours.ratio;
      forward = ours.forward;
    }

-- Ours, but for registers in which the number 8, whoever's it is, is withdrawn.
abbrev pub where_gone : (Brought → List ℕ → Walk → Rows → ℕ → WalkResult) → Engine
where_gone f = back_by (λ x register walk rows c. cond (eqb (get_or register 8 0) 0x00) (f x register walk rows c) (ours.back x register walk rows c))

-- There every walk is refused with 9,
abbrev pub others_refused : Engine
others_refused = where_gone (λ x register walk rows c. record { said = record { number = 9; values = [] }; walk = walk; rows = rows })

-- or loses its rows.
abbrev pub rows_lost : Engine
rows_lost =
    where_gone (λ x register walk rows c.
    record {
      said = (ours.back x register walk rows c).said;
      walk = (ours.back x register walk rows c).walk;
      rows = record { defaults = []; premiums = [] };
    })

-- A back by 1 answers as ours, and takes no step.
abbrev pub steps_lost : Engine
steps_lost =
    back_by (λ x register walk rows c.
    cond (eqb c 1) (record { said = (ours.back x register walk rows c).said; walk = walk; rows = rows }) (ours.back x register walk rows c))

pub record NoneInTurns : Type 0 where
  pub others_refused : WalksInTurns others_refused → ⊥
  pub rows_lost : WalksInTurns rows_lost → ⊥
  pub steps_lost : WalksInTurns steps_lost → ⊥
