use Rattle.std.proofs.Common.{rules, ◌≡◌}
use Rattle.tree.specs.Sheet.{loss_of}
use Rattle.figures.specs.Nodes.{node_of}
use Rattle.figures.proofs.Places.{node_place}
use Rattle.figures.proofs.node_at.Goals as goal

pub returns : goal.returns
unfolding node_of
returns c =
    let x = c.args.brought.now.sheet in
    let loss : c.loss_at.result ≡ loss_of x c.args.tranche c.args.count = search rules in
    λ i. record {
      loss = loss i;
      default = node_place x c.args.defaults.now c.args.tranche c.args.count c.names.ensures i;
      premium = node_place x c.args.premiums.now c.args.tranche c.args.count c.names.ensures i;
    }
