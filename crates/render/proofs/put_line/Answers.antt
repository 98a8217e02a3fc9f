-- `render::put_line` meets its contract.
use Rattle.std.proofs.Common.{lit≤, arith}
use Rattle.render.specs.Lines.{line, order_line}
use Rattle.render.proofs.Puts.{put, put_short, both, word_long, width_most}
use Rattle.render.proofs.put_line.Goals as goal

pub put_answer-c-requires : goal.put_answer-c-requires
put_answer-c-requires c =
    let p = put 9 c.put_word-b.ensures (word_long c.args.order) in
    omega (arith, p.short, p.long)

pub put_end-requires : goal.put_end-requires
put_end-requires c =
    let p = put 9 c.put_word-b.ensures (word_long c.args.order) in
    omega (arith, p.short, p.long, c.put_answer-c.ensures.short, width_most c.args.answer)

pub returns : goal.returns
unfolding line order_line
returns c =
    let q = put_short c.put_answer-c.ensures.writes c.put_answer-c.ensures.short in
    let all = both (put 9 c.put_word-b.ensures (word_long c.args.order)) (both q (put 1 c.put_end.ensures (lit≤ tt))) in
    record { writes = all.wrote; short = omega (arith, all.short) }
