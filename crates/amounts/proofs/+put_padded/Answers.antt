-- `amounts::put_padded` meets its contract.
use Rattle.std.proofs.Common.{◌-◌, ◌/◌, arith}
use Rattle.amounts.proofs.Digits.{length_padded, padded_end, padded_step}
use Rattle.amounts.proofs.+put_padded.Goals as goal

-- the room goes on where the digits before the last one end
pub bounds-out-last : goal.bounds-out-last
bounds-out-last t c = omega (arith, length_padded (c.args.digits - 1) (c.args.n / 10))

pub overflow_add-result : goal.overflow_add-result
overflow_add-result t c = omega (arith, length_padded (c.args.digits - 1) (c.args.n / 10))

pub returns-then-digits-lt1 : goal.returns-then-digits-lt1
returns-then-digits-lt1 t c = let a = c.args in padded_end a.out.now a.at a.digits a.n c.if-digits-lt1.true

pub returns-else-digits-lt1 : goal.returns-else-digits-lt1
returns-else-digits-lt1 t c =
    let a = c.args in
    let p = c.put_padded-last in
    padded_step a.out.now p.new.out a.at a.digits a.n p.result c.if-digits-lt1.false p.ensures
