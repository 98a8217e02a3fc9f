use Rattle.std.proofs.Common.{◌≡◌, ◌∙◌, ℕ, ◌+◌, ◌*◌, arith, w64, get_or}
use borrow.Author.Rules.{sfits_of}
use mir.ValLaws.{to_z-of_z}
use Rattle.hedges.specs.Hedges.{net_value}
use Rattle.rows.specs.Rows.{node_in}
use Rattle.figures.specs.Answer.{Worth}
use Rattle.figures.specs.Replies.{worth}
use Rattle.figures.proofs.Places.{node_place}
use Rattle.figures.proofs.replies.worth_at.Goals as goal

pub net_value-requires : goal.net_value-requires
net_value-requires c =
    let x = c.args.brought.now.sheet in
    let place : ℕ = c.args.tranche * (c.names.result + 1) + c.args.count in
    let default-here : get_or c.args.defaults.now place 0 ≡ node_in x c.args.defaults.now c.args.tranche c.args.count = node_place x c.args.defaults.now c.args.tranche c.args.count c.names.ensures in
    let premium-here : get_or c.args.premiums.now place 0 ≡ node_in x c.args.premiums.now c.args.tranche c.args.count = node_place x c.args.premiums.now c.args.tranche c.args.count c.names.ensures in
    (omega (arith, default-here, c.requires.default), rw c.coupons.ensures c.requires.coupon, omega (arith, premium-here, c.requires.premium))

pub returns : goal.returns
unfolding worth
returns c =
    let x = c.args.brought.now.sheet in
    let place : ℕ = c.args.tranche * (c.names.result + 1) + c.args.count in
    let default-here : get_or c.args.defaults.now place 0 ≡ node_in x c.args.defaults.now c.args.tranche c.args.count = node_place x c.args.defaults.now c.args.tranche c.args.count c.names.ensures in
    let premium-here : get_or c.args.premiums.now place 0 ≡ node_in x c.args.premiums.now c.args.tranche c.args.count = node_place x c.args.premiums.now c.args.tranche c.args.count c.names.ensures in
    let w = to_z-of_z w64 c.net_value.result (sfits_of c.net_value.type_inv) ∙ c.net_value.ensures in
    (λ i. Worth (get_or c.args.defaults.now place 0) (get_or c.args.premiums.now place 0) (w i))
    ∙ (λ i. Worth (default-here i) (premium-here i) (net_value (default-here i) (get_or (c.coupons.ensures i) c.args.tranche 0) (premium-here i)))
