-- `lines::put_decimal` meets its contract.
use Rattle.std.proofs.Common.{arith}
use Rattle.lines.proofs.Laws.{length_small, length_large, wrote_small, wrote_large}
use Rattle.lines.proofs.+put_decimal.Goals as goal

pub bounds-out-at : goal.bounds-out-at
bounds-out-at t c = omega (arith, length_small c.args.n c.if-n-lt10.true)

pub put_decimal-last-requires : goal.put_decimal-last-requires
put_decimal-last-requires t c = (omega arith, omega (arith, length_large c.args.n c.if-n-lt10.false))

-- the room goes on where the digits before the last one end
pub bounds-out-last : goal.bounds-out-last
bounds-out-last t c = omega (arith, length_large c.args.n c.if-n-lt10.false)

pub overflow_add-result-else-n-lt10 : goal.overflow_add-result-else-n-lt10
overflow_add-result-else-n-lt10 t c = omega (arith, length_large c.args.n c.if-n-lt10.false)

pub returns-then-n-lt10 : goal.returns-then-n-lt10
returns-then-n-lt10 t c = let a = c.args in wrote_small a.out.now a.at a.n c.if-n-lt10.true

pub returns-else-n-lt10 : goal.returns-else-n-lt10
returns-else-n-lt10 t c =
    let a = c.args in
    let p = c.put_decimal-last in
    wrote_large a.out.now p.new.out a.at a.n p.result c.if-n-lt10.false p.ensures
