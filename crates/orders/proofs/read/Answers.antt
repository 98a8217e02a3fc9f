-- `orders::read` meets its contract: each way out is a law of `OrderLaws`.
use Rattle.std.proofs.Common.{ap}
use Rattle.walk.specs.OurEngine.{walk_result}
use Rattle.sheet.specs.Brought.{Brought}
use Rattle.rows.specs.Rows.{Rows, rows_of}
use Rattle.orders.proofs.OrderLaws.{value_reads, delta_reads, nothing_read}
use Rattle.orders.proofs.read.Goals as goal

pub returns-in-Value : goal.returns-in-Value
returns-in-Value c =
    let brought : Brought = c.args.brought.now in
    let rooms : Rows = rows_of c.args.defaults.now c.args.premiums.now in
    value_reads c.args.order brought c.args.register.now c.args.walk rooms c.of_value.ensures c.in-Value.is c.value-reply.ensures

pub returns-in-Delta : goal.returns-in-Delta
returns-in-Delta c =
    let brought : Brought = c.args.brought.now in
    let rooms : Rows = rows_of c.args.defaults.now c.args.premiums.now in
    delta_reads c.args.order brought c.args.register.now c.args.walk rooms c.of_hedge_ratio.ensures c.in-Delta.is c.hedge_ratio-reply.ensures

pub returns-in_default : goal.returns-in_default
returns-in_default c =
    let brought : Brought = c.args.brought.now in
    let rooms : Rows = rows_of c.args.defaults.now c.args.premiums.now in
    ap walk_result (nothing_read c.args.order brought c.args.register.now c.args.walk rooms c.in_default.not-Value c.in_default.not-Delta)
