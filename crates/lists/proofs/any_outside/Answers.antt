-- A block that has such a number ends the search; one that has none leaves the rest to be searched.
use Rattle.std.proofs.Common.{sym, ◌∙◌, arith}
use Rattle.lists.specs.Outside.{outside}
use Rattle.lists.proofs.Loops.{block_hit, block_missed, none_left}
use Rattle.lists.proofs.any_outside.Goals as goal

pub returns-then-block_outside : goal.returns-then-block_outside
returns-then-block_outside c =
    let a = c.args in
    sym (c.loop-block.invariant.2 ∙ block_hit (outside a.least a.most) _ _ c.in-Some.ensures.steps.1.0 (sym c.block_outside.ensures ∙ c.if-block_outside.true))

pub loop-block-preserved : goal.loop-block-preserved
loop-block-preserved c =
    let a = c.args in (
      omega (arith, c.loop-block.invariant.0, c.in-Some.ensures.steps.0),
      tt,
      c.loop-block.invariant.2 ∙ block_missed (outside a.least a.most) _ _ c.in-Some.ensures.steps.1.0 (sym c.block_outside.ensures ∙ c.if-block_outside.false),
    )

pub returns : goal.returns
returns c =
    let a = c.args in
    sym (c.loop-block.invariant.2 ∙ none_left (outside a.least a.most) _ c.in-None.ensures.steps.1.0)
