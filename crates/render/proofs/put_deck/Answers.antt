-- `render::put_deck` meets its contract.
use Rattle.std.proofs.Common.{lit≤, arith, List, ℕ}
use Rattle.lines.specs.Text.{Wrote}
use Rattle.lines.proofs.Laws.{length_field_pos}
use Rattle.render.specs.Lines.{line, deck_word, deck_line}
use Rattle.render.proofs.Puts.{Put, put, both, put_byte, put_wide, byte_long}
use Rattle.render.proofs.put_deck.Goals as goal

worded : {before after : List ℕ} {at end : ℕ} → Wrote before at deck_word after end → Put before at deck_word after end 5
unfolding deck_word
worded w = put 5 w (lit≤ tt)

pub put_decimal-c-requires : goal.put_decimal-c-requires
unfolding deck_word
put_decimal-c-requires c =
    let p = worded c.put_bytes-b.ensures in
    omega (arith, p.short, p.long, byte_long c.args.number c.ranges.number.fits)

pub put_count-d-requires : goal.put_count-d-requires
unfolding deck_word
put_count-d-requires c =
    let p = both (worded c.put_bytes-b.ensures) (put_byte c.args.number c.ranges.number.fits c.put_decimal-c.ensures) in
    omega (arith, p.short, p.long, length_field_pos c.args.offset c.ranges.offset.fits)

pub put_end-requires : goal.put_end-requires
unfolding deck_word
put_end-requires c =
    let p = both (worded c.put_bytes-b.ensures)
    (both (put_byte c.args.number c.ranges.number.fits c.put_decimal-c.ensures)
    (put_wide c.args.offset c.ranges.offset.fits c.put_count-d.ensures)) in
    omega (arith, p.short, p.long)

pub returns : goal.returns
unfolding line deck_word deck_line
returns c =
    let p = both (worded c.put_bytes-b.ensures)
    (both (both (put_byte c.args.number c.ranges.number.fits c.put_decimal-c.ensures)
    (put_wide c.args.offset c.ranges.offset.fits c.put_count-d.ensures))
    (put 1 c.put_end.ensures (lit≤ tt))) in
    record { writes = p.wrote; short = omega (arith, p.short) }
