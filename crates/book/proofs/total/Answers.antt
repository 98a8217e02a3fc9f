-- `book::total` meets its contract: what is refused is found alone; the line of the figures that were added up is the book's.
use Rattle.std.proofs.Common.{rules, arith, length, ap}
use Rattle.lines.proofs.Laws.{wrote_text}
use Rattle.totals.proofs.Taken.{taken_told}
use Rattle.book.proofs.Lines.{line_fits, same_line}
use Rattle.book.proofs.Promise.{book_rule, line_written}
use Rattle.book.proofs.total.Goals as goal

pub add_up-requires : goal.add_up-requires
add_up-requires c = search (rules, taken_told)

pub store_line-requires-clause-room : goal.store_line-requires-clause-room
store_line-requires-clause-room c =
    let a = c.args in
    let taken = taken_told a.nominals.now a.values.now (search rules) in
    omega (arith, ap length (same_line a.nominals.now a.values.now c.add_up.result c.add_up.ensures), line_fits a.nominals.now a.values.now taken)

pub returns : goal.returns
returns c =
    let a = c.args in
    let taken = taken_told a.nominals.now a.values.now (search rules) in
    let wrote = wrote_text (same_line a.nominals.now a.values.now c.add_up.result c.add_up.ensures) c.store_line.ensures in
    let (end, left) = line_written a.nominals.now a.values.now a.out.now c.store_line.new.out c.store_line.result c.if-out-ne-SIZE.false taken wrote in
    record { answer = search (rules, end); leaves = search (rules, left); rule = search (rules, book_rule, end, left) }
