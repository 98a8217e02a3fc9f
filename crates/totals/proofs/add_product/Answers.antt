-- `totals::add_product` meets its contract.
use Rattle.totals.proofs.Products.{grown}
use Rattle.totals.proofs.add_product.Goals as goal

pub returns : goal.returns
returns c = grown c.args.a c.args.nominal c.args.value c.requires.1 c.requires.2
