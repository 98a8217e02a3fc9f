-- `amounts::put_amount` meets its contract: the units alone, or nine digits of them behind the billions.
use Rattle.std.proofs.Common.{◌+◌, ◌≤◌, ◌≡◌, ap, arith, length, length-append}
use Rattle.lines.specs.Text.{decimal}
use Rattle.lines.proofs.Laws.{wrote_both, wrote_text}
use Rattle.amounts.specs.declared.Amount.{Amount}
use Rattle.amounts.specs.Amounts.{size_of, Carried, padded}
use Rattle.amounts.proofs.Amounts.{amount_large}
use Rattle.amounts.proofs.Digits.{length_padded}
use Rattle.amounts.proofs.put_amount.Goals as goal

-- billions and nine digits
long : (a : Amount) → 1 ≤ a.billions → Carried a → length (decimal a.billions) + 9 ≡ length (decimal (size_of a))
long a h small =
    omega (arith, length-append (decimal a.billions) (padded 9 a.units), length_padded 9 a.units, ap length (amount_large a h small))

pub put_decimal-last-requires : goal.put_decimal-last-requires
put_decimal-last-requires c = omega (arith, long c.args.a c.if-billions-lt1.false c.requires.0)

pub put_padded-requires : goal.put_padded-requires
put_padded-requires c = omega (arith, long c.args.a c.if-billions-lt1.false c.requires.0)

pub returns-else-billions-lt1 : goal.returns-else-billions-lt1
returns-else-billions-lt1 c =
    wrote_text (amount_large c.args.a c.if-billions-lt1.false c.requires.0) (wrote_both c.put_decimal-last.ensures c.put_padded.ensures)
