-- `book::store_line` meets its contract: the name, three figures and the end, one behind the other.
use Rattle.std.proofs.Common.{arith}
use Rattle.lines.proofs.Laws.{wrote_both}
use Rattle.amounts.specs.Amounts.{figure_of}
use Rattle.book.specs.Lines.{line_of}
use Rattle.book.proofs.Lines.{line_long}
use Rattle.book.proofs.store_line.Goals as goal

-- Each figure ends where the next begins, in a buffer as long as it was, and the line has room.
pub put_figure-first-requires : goal.put_figure-first-requires
put_figure-first-requires c =
    let t = c.args.totals in
    (c.requires.figures.0, omega (arith, line_long (figure_of t.total) (figure_of t.gains) (figure_of t.losses)))

pub put_figure-second-requires : goal.put_figure-second-requires
put_figure-second-requires c =
    let t = c.args.totals in
    (c.requires.figures.1, omega (arith, line_long (figure_of t.total) (figure_of t.gains) (figure_of t.losses)))

pub put_figure-third-requires : goal.put_figure-third-requires
put_figure-third-requires c =
    let t = c.args.totals in
    (c.requires.figures.2, omega (arith, line_long (figure_of t.total) (figure_of t.gains) (figure_of t.losses)))

pub put_end-requires : goal.put_end-requires
put_end-requires c =
    let t = c.args.totals in
    omega (arith, line_long (figure_of t.total) (figure_of t.gains) (figure_of t.losses))

pub returns : goal.returns
unfolding line_of
returns c =
    wrote_both c.put_bytes-named.ensures
    (wrote_both c.put_figure-first.ensures
    (wrote_both c.put_figure-second.ensures (wrote_both c.put_figure-third.ensures c.put_end.ensures)))
