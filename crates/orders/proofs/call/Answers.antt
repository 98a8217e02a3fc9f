-- `orders::call` meets its contract: each way out is a law of `OrderLaws`.
use Rattle.std.proofs.Common.{ap, ◌∙◌}
use Rattle.sheet.specs.Brought.{Brought}
use Rattle.rows.specs.Rows.{Rows, rows_of}
use Rattle.walk.specs.OurEngine.{walk_result}
use Rattle.orders.proofs.OrderLaws.{open_calls, back_calls, reads_call}
use Rattle.orders.proofs.call.Goals as goal

pub returns-in-Open : goal.returns-in-Open
returns-in-Open c =
    let brought : Brought = c.args.brought.now in
    let rooms : Rows = rows_of c.args.defaults.now c.args.premiums.now in
    open_calls c.args.order brought c.args.register.now c.args.walk rooms c.of_open.ensures
    c.in-Open.is c.open-reply.ensures

pub returns-in-Back : goal.returns-in-Back
returns-in-Back c =
    let brought : Brought = c.args.brought.now in
    let rooms : Rows = rows_of c.args.defaults.now c.args.premiums.now in
    back_calls c.args.order brought c.args.register.now c.args.walk rooms c.of_back.ensures
    c.in-Back.is c.back-reply.ensures

pub returns-in_default : goal.returns-in_default
returns-in_default c =
    let brought : Brought = c.args.brought.now in
    let rooms : Rows = rows_of c.args.defaults.now c.args.premiums.now in
    c.read.ensures ∙ ap walk_result (reads_call c.args.order brought c.args.register.now c.args.walk rooms c.in_default.not-Open c.in_default.not-Back)
