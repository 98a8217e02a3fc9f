use Rattle.std.proofs.Common.{ℕ, ◌≡◌, List}
use Rattle.sheet.specs.Brought.{Brought}
use Rattle.rows.specs.Rows.{Rows}
use Rattle.walk.specs.declared.Walk.{Walk}
use Rattle.walk.specs.Calls.{Outcome, ratio_call}
use Rattle.walk.specs.CallRules.{RatioRule}
use Rattle.walk.specs.OurEngine.{walk_result}
use Rattle.walk.proofs.OurRules.{hedges}
use Rattle.walk.proofs.Walk.hedge_ratio.Goals as goal

-- an outcome that is ours keeps the rule of ours
ruled : (x : Brought) (g : List ℕ) (w : Walk) (l : Rows) (j k : ℕ) {o : Outcome} → o ≡ ratio_call x g w l j k → RatioRule x g w l j k (walk_result o)
ruled x g w l j k e = rw e (hedges x g w l j k)

pub returns : goal.returns
returns c = record { gives = c.ratio.ensures; rule = ruled _ _ _ _ _ _ c.ratio.ensures }
