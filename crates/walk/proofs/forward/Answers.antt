-- By what it is refused for; the row is then the distribution.
use Rattle.std.proofs.Common.{◌≡◌, sym, ◌∙◌, subst, List, ℕ, Ok}
use Rattle.std.proofs.lemmas.Result.{err_from_is_err_and}
use Rattle.forward.proofs.Alike.{hazards_enough}
use Rattle.sheet.specs.Brought.{Brought}
use Rattle.sheet.specs.Limits.{Limits}
use Rattle.forward.specs.Steps.{HazardsFit}
use Rattle.refusals.specs.Tests.{first}
use Rattle.sheet.proofs.Limits.{hazard_most, limits_terms}
use Rattle.walk.specs.Calls.{ForwardOutcome, forward_tests, forward_call}
use Rattle.walk.specs.CallRules.{ForwardRule}
use Rattle.walk.specs.OurEngine.{forward_result}
use Rattle.walk.proofs.OurRules.{forwards}
use Rattle.walk.proofs.LastChecks.{forward_not, forwarding, forward_done}
use Rattle.walk.proofs.forward.Goals as goal

-- an outcome that is ours keeps the rule of ours
gives : (x : Brought) (g q : List ℕ) (i : ℕ) {o : ForwardOutcome} → o ≡ forward_call x g q i → (o ≡ forward_call x g q i) × ForwardRule x g q i (forward_result o)
gives x g q i e = (e, rw e (forwards x g q i))

-- the hazards of a sheet within limits
hazards-fit : (x : Brought) → Limits x → HazardsFit x.sheet.names x.sheet.starts x.sheet.hazards
hazards-fit x m =
    record {
      names_most = m.pool.names.1;
      starts_fit = m.lists.1.starts;
      long = m.lists.1.hazards;
      most = hazard_most x.sheet (limits_terms x m);
    }

pub returns-in_err-judge_forward : goal.returns-in_err-judge_forward
returns-in_err-judge_forward c =
    let brought : Brought = c.args.brought.now in
    let p = err_from_is_err_and c.from_residual.result c.from_residual.ensures.1 in
    let both = gives _ _ _ _ (forward_not brought c.args.register.now c.args.row.now c.args.steps (sym c.in_err-judge_forward.ensures)) in
    rw (p.1, p.2) (record { gives = both.0; rule = both.1 })

pub distribute-requires : goal.distribute-requires
distribute-requires c = let brought : Brought = c.args.brought.now in
    let fine : first (forward_tests brought c.args.register.now c.args.row.now c.args.steps) ≡ Ok tt = sym c.in_ok-judge_forward.ensures in
    let o = forwarding brought c.args.register.now c.args.row.now c.args.steps fine in
    rw (c.names.ensures, c.starts-starts.ensures)
    (record { row_len = o.lent.row; hazards_fit = subst (HazardsFit brought.sheet.names brought.sheet.starts) (sym c.hazards-hazards.ensures) (hazards-fit brought o.limits) })

pub returns : goal.returns
returns c = let brought : Brought = c.args.brought.now in
    let fine : first (forward_tests brought c.args.register.now c.args.row.now c.args.steps) ≡ Ok tt = sym c.in_ok-judge_forward.ensures in
    let both = gives _ _ _ _
    (forward_done brought c.args.register.now c.args.row.now c.args.steps fine _
    ((rw c.names.ensures at c.distribute.ensures) ∙ hazards_enough brought.sheet _ _ c.starts-starts.ensures c.hazards-hazards.ensures c.args.steps)) in
    record { gives = both.0; rule = both.1 }
