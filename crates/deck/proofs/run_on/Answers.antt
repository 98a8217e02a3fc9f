-- `deck::run_on` meets its contract.
use Rattle.std.proofs.Common.{ℕ, ◌≤◌, ◌<◌, refl, ◌∙◌, subst, arith, lit<, length, replicate, rules}
use Rattle.lines.specs.Text.{Wrote}
use Rattle.render.specs.Lines.{deck_line}
use Rattle.listings.proofs.Laws.{oversized, oversized_left, sized, sized_left}
use Rattle.deck.proofs.Printing.{room_least, room_sized, no_room, no_room_left, left, keeps, printed}
use Rattle.entries.proofs.Blanks.{blank_first, blank_set}
use Rattle.deck.specs.Printing.{room as room_of}
use Rattle.deck.proofs.run_on.Goals as goal

pub returns-then-out-room : goal.returns-then-out-room
returns-then-out-room c =
    let short : length c.args.out.now < room_of (length c.args.deck.now) = omega (arith, c.if-out-room.true, c.room.ensures) in
    let leaves = no_room_left c.args.register.now c.args.deck.now c.args.out.now short in
    record {
      prints = no_room c.args.register.now c.args.deck.now c.args.out.now short;
      leaves = leaves;
      lasts = keeps c.args.register.now c.args.deck.now c.args.out.now leaves;
    }

pub put_deck-requires : goal.put_deck-requires
put_deck-requires c = omega (arith, c.if-out-room.false, c.room.ensures, room_least (length c.args.deck.now))

pub returns-then-deck-gt-MOST : goal.returns-then-deck-gt-MOST
returns-then-deck-gt-MOST c =
    let long : 65536 < length c.args.deck.now = omega (arith, c.if-deck-gt-MOST.true) in
    let fits : room_of (length c.args.deck.now) ≤ length c.args.out.now = omega (arith, c.if-out-room.false, c.room.ensures) in
    let leaves = left c.args.register.now c.args.deck.now c.args.out.now fits (oversized_left c.args.register.now c.args.deck.now long) in
    record {
      prints =
          printed c.args.register.now c.args.deck.now c.args.out.now _ _ _ fits
          (oversized c.args.register.now c.args.deck.now long)
          (subst (λ (n : ℕ). Wrote c.args.out.now 0 (deck_line n 65536) c.put_deck.new.out c.put_deck.result) c.from.ensures c.put_deck.ensures.writes)
          (omega (arith, c.if-out-room.false, c.room.ensures, room_least (length c.args.deck.now), c.put_deck.ensures.short));
      leaves = leaves;
      lasts = keeps c.args.register.now c.args.deck.now c.args.out.now leaves;
    }

pub interpret-requires : goal.interpret-requires
interpret-requires c =
    let room = room_sized (length c.args.deck.now) (omega (arith, c.if-deck-gt-MOST.false)) in
    record {
      numbers_len = (search rules, refl, blank_set 7443 1 (replicate 11094 0) (lit< tt) (blank_first 11094));
      room_lengths = search rules;
      deck_in_bounds = omega (arith, c.if-out-room.false, c.room.ensures, room);
    }

pub returns : goal.returns
returns c =
    let fits : room_of (length c.args.deck.now) ≤ length c.args.out.now = omega (arith, c.if-out-room.false, c.room.ensures) in
    let short : length c.args.deck.now ≤ 65536 = omega (arith, c.if-deck-gt-MOST.false) in
    let leaves =
    left c.args.register.now c.args.deck.now c.args.out.now fits
    (c.interpret.ensures.leaves ∙ sized_left c.args.register.now c.args.deck.now short) in
    record {
      prints =
          printed c.args.register.now c.args.deck.now c.args.out.now _ _ _ fits
          (sized c.args.register.now c.args.deck.now short) c.interpret.ensures.writes c.interpret.ensures.within;
      leaves = leaves;
      lasts = keeps c.args.register.now c.args.deck.now c.args.out.now leaves;
    }
