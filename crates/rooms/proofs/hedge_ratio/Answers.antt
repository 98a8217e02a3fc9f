-- `rooms::hedge_ratio` meets its contract.
use Rattle.sheet.specs.Brought.{Brought}
use Rattle.rows.specs.Rows.{Rows, row_length}
use Rattle.figures.specs.Answer.{ratio_answer}
use Rattle.walk.specs.Calls.{ratio_call}
use Rattle.machine.specs.Rooms.{ratio_in_rooms}
use Rattle.machine.proofs.LentRooms.{part_long, rooms_read}
use Rattle.rooms.proofs.hedge_ratio.Goals as goal

pub slice_bounds-hedge_ratio-end : goal.slice_bounds-hedge_ratio-end
slice_bounds-hedge_ratio-end c =
    let brought : Brought = c.args.brought.now in
    part_long (row_length brought.sheet) 1134 _ c.args.defaults.now c.requires.0 c.row_size-size.ensures

pub slice_bounds-hedge_ratio-end-2 : goal.slice_bounds-hedge_ratio-end-2
slice_bounds-hedge_ratio-end-2 c =
    let brought : Brought = c.args.brought.now in
    part_long (row_length brought.sheet) 1134 _ c.args.premiums.now c.requires.1 c.row_size-size.ensures

pub returns : goal.returns
unfolding ratio_in_rooms
returns c =
    let brought : Brought = c.args.brought.now in
    rooms_read brought c.args.defaults.now c.args.premiums.now _ c.row_size-size.ensures c.requires.0 c.requires.1
    (λ (l : Rows). ratio_call brought c.args.register.now c.args.walk l c.args.tranche c.args.count)
    ratio_answer c.hedge_ratio.ensures.gives
