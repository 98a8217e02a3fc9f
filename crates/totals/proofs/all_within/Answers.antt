-- `totals::all_within` meets its contract.
use Rattle.std.proofs.Common.{ℕ, ◌<◌, ◌≤◌, ◌≡◌, ap, sym, ◌∙◌, subst, add-one, rules, pos, nat_abs, get_or, w64, SFits}
use Rattle.hedges.proofs.Negated.{read_is}
use Rattle.totals.proofs.Taken.{Passed, far, near, passed_all}
use Rattle.totals.proofs.all_within.Goals as goal

pub returns-then-most-magnitude : goal.returns-then-most-magnitude
returns-then-most-magnitude c =
    let entry = get_or c.args.list.now c.loop-entry.entry-index (pos 0) in
    let fits : SFits w64 entry = search rules in
    let size : c.magnitude.result ≡ nat_abs entry = c.magnitude.ensures ∙ ap nat_abs (read_is entry fits) in
    far _ _ _ c.loop-entry.invariant c.loop-entry-test.true (subst (λ (n : ℕ). c.args.most < n) size c.if-most-magnitude.true)

pub loop-entry-preserved : goal.loop-entry-preserved
loop-entry-preserved c =
    let entry = get_or c.args.list.now c.loop-entry.entry-index (pos 0) in
    let fits : SFits w64 entry = search rules in
    let size : c.magnitude.result ≡ nat_abs entry = c.magnitude.ensures ∙ ap nat_abs (read_is entry fits) in
    subst (Passed _ _) (sym (add-one _))
    (near _ _ _ c.loop-entry.invariant c.loop-entry-test.true (subst (λ (n : ℕ). n ≤ c.args.most) size c.if-most-magnitude.false))

pub returns : goal.returns
returns c = passed_all _ _ _ c.loop-entry.invariant c.loop-entry-test.false
