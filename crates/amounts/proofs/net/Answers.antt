-- `amounts::net` meets its contract.
use Rattle.std.proofs.Common.{rules}
use Rattle.amounts.proofs.Amounts.{net_above, net_below}
use Rattle.amounts.proofs.net.Goals as goal

pub returns-then-lt : goal.returns-then-lt
returns-then-lt c = net_below c.args.a c.args.b c.difference.result c.difference.ensures (search rules)

pub returns : goal.returns
returns c = net_above c.args.a c.args.b c.difference-2.result c.difference-2.ensures
