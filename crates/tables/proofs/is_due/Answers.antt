-- The steps before the position are searched.
use Rattle.std.proofs.Common.{◌-◌, ◌∙◌, eqb, not, take, drop, rules, tests}
use Rattle.std.proofs.lemmas.Iterator.{YieldsList-from_slice}
use Rattle.std.proofs.lemmas.Iterator.Search.{any_from_yields_List}
use Rattle.tables.proofs.Due.{part_due}
use Rattle.tables.proofs.is_due.Goals as goal

pub returns : goal.returns
returns c =
    let a = c.args in
    any_from_yields_List (λ x. not (eqb x 0)) _ _ _ c.any.ensures.ran
    (YieldsList-from_slice (take (a.position - (a.position - a.count)) (drop (a.position - a.count) a.list.now)) cc)
    (λ x b q k. search (rules, tests))
    ∙ part_due a.list.now a.position a.count c.requires.1 c.requires.0
