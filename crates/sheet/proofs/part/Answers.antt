-- The numbers of the span, or none where it ends past them.
use Rattle.std.proofs.Common.{sym, ◌∙◌, arith}
use Rattle.sheet.proofs.Parts.{part_whole}
use Rattle.sheet.proofs.Spans.{list_within, list_past}
use Rattle.sheet.proofs.part.Goals.{then-numbers-at-via-then-numbers-at, then-numbers-at-via-else-numbers-at+then-numbers-at-2}
use Rattle.sheet.proofs.part.Goals as goal

pub returns-then-numbers-at : goal.returns-then-numbers-at
returns-then-numbers-at c =
    let a = c.args in
    sym (list_past a.span a.numbers.now (elim c.then-numbers-at.branch [
      | then-numbers-at-via-then-numbers-at w ↦ omega (arith, w.if-numbers-at.true)
      | then-numbers-at-via-else-numbers-at+then-numbers-at-2 w ↦ omega (arith, w.if-numbers-at.false, w.if-numbers-at-2.true)
    ]))

pub returns : goal.returns
returns c =
    let a = c.args in
    part_whole a.numbers.now a.span.at a.span.length
    ∙ sym (list_within a.span a.numbers.now (omega (arith, c.if-numbers-at.false, c.if-numbers-at-2.false)))
