-- An engine: the calls of document 01, as functions of the sheet, the register, the walk and the rows lent to them.
use Rattle.std.specs.Prelude.{ℕ, List}
use Rattle.sheet.specs.Brought.{Brought}
use Rattle.walk.specs.declared.Walk.{Walk}
use Rattle.rows.specs.Rows.{Rows}
use Rattle.walk.specs.CallRules.{RegisterResult, WalkResult, ForwardResult}

pub record Engine : Type 0 where
  pub issue : List ℕ → ℕ → RegisterResult
  pub withdraw : List ℕ → ℕ → RegisterResult
  pub opening : Brought → List ℕ → Walk → Rows → WalkResult
  pub back : Brought → List ℕ → Walk → Rows → ℕ → WalkResult
  pub value : Brought → List ℕ → Walk → Rows → ℕ → ℕ → WalkResult
  pub ratio : Brought → List ℕ → Walk → Rows → ℕ → ℕ → WalkResult
  pub forward : Brought → List ℕ → List ℕ → ℕ → ForwardResult
