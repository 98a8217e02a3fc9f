use Rattle.std.proofs.Common.{◌≡◌, ◌∙◌, ap, suc, w64, add-one, get_or, sym, subst, List, ℕ, ◌≤◌}
use borrow.Author.Rules.{sfits_of}
use mir.ValLaws.{to_z-of_z}
use Rattle.hedges.specs.Hedges.{jump_of}
use Rattle.rows.specs.Rows.{Rows, rows_of}
use Rattle.figures.specs.Nodes.{node_of, jump}
use Rattle.figures.proofs.Places.{node_figures}
use Rattle.figures.proofs.jump_at.Goals as goal

pub jump-requires : goal.jump-requires
jump-requires c =
    let brought = c.args.brought.now in
    let rows : Rows = rows_of c.args.defaults.now c.args.premiums.now in
    let next : c.node_at-next.result ≡ node_of brought.sheet rows c.args.tranche (suc c.args.count) = c.node_at-next.ensures ∙ ap (node_of brought.sheet rows c.args.tranche) (add-one c.args.count) in
    (subst (λ (l : List ℕ). get_or l c.args.tranche 0 ≤ 10_000_000) (sym c.coupons.ensures) c.requires.readable_here.coupon, node_figures brought rows _ _ c.requires.tranches_within c.requires.readable_here c.node_at-here.ensures, node_figures brought rows _ _ c.requires.tranches_within c.requires.readable_next next)

pub returns : goal.returns
unfolding jump
returns c =
    let brought = c.args.brought.now in
    let rows : Rows = rows_of c.args.defaults.now c.args.premiums.now in
    let next : c.node_at-next.result ≡ node_of brought.sheet rows c.args.tranche (suc c.args.count) = c.node_at-next.ensures ∙ ap (node_of brought.sheet rows c.args.tranche) (add-one c.args.count) in
    to_z-of_z w64 c.jump.result (sfits_of c.jump.type_inv) ∙ c.jump.ensures
    ∙ (λ i. jump_of (get_or (c.coupons.ensures i) c.args.tranche 0) (c.node_at-here.ensures i) (next i))
