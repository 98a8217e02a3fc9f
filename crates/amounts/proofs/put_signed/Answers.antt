-- `amounts::put_signed` meets its contract.
use Rattle.std.proofs.Common.{ap, sym, arith, length, length-set}
use Rattle.lines.proofs.Laws.{wrote_after, wrote_text}
use Rattle.amounts.proofs.Amounts.{minus, plus}
use Rattle.amounts.proofs.put_signed.Goals as goal

pub bounds-out-at : goal.bounds-out-at
bounds-out-at c = omega (arith, ap length (minus c.args.figure c.requires.0 c.if-figure.true))

pub put_amount-requires : goal.put_amount-requires
put_amount-requires c =
    (c.requires.0.carried, simp length-set (omega (arith, ap length (minus c.args.figure c.requires.0 c.if-figure.true))))

pub put_amount-requires-else-figure : goal.put_amount-requires-else-figure
put_amount-requires-else-figure c =
    (c.requires.0.carried, omega (arith, ap length (plus c.args.figure c.requires.0 c.if-figure.false)))

pub returns-then-figure : goal.returns-then-figure
returns-then-figure c =
    wrote_text (sym (minus c.args.figure c.requires.0 c.if-figure.true)) (wrote_after 45 c.put_amount.ensures)

pub returns-else-figure : goal.returns-else-figure
returns-else-figure c =
    wrote_text (sym (plus c.args.figure c.requires.0 c.if-figure.false)) c.put_amount-else-figure.ensures
