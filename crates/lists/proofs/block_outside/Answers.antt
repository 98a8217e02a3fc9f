-- The fold tests each element.
use Rattle.std.proofs.Common.{◌∙◌, false, ◌||◌, rules, tests}
use Rattle.lists.specs.Outside.{outside}
use Rattle.std.proofs.lemmas.Iterator.{YieldsList-from_slice}
use Rattle.std.proofs.lemmas.Iterator.Consumers.{fold_from_yields_List}
use Rattle.lists.proofs.Loops.{any_folded}
use Rattle.lists.proofs.block_outside.Goals as goal

pub returns : goal.returns
returns c =
    let a = c.args in
    fold_from_yields_List _ (λ found y. found || outside a.least a.most y) false _ c.fold.ensures.ran (YieldsList-from_slice a.block.now cc)
    (λ found y after f k. search (rules, tests))
    ∙ any_folded (outside a.least a.most) a.block.now
