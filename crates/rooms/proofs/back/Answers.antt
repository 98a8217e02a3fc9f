-- `rooms::back` meets its contract.
use Rattle.sheet.specs.Brought.{Brought}
use Rattle.rows.specs.Rows.{Rows, row_length}
use Rattle.figures.specs.Answer.{position_answer}
use Rattle.walk.specs.Calls.{back_call}
use Rattle.machine.specs.Rooms.{back_in_rooms}
use Rattle.machine.proofs.LentRooms.{part_long, rooms_left}
use Rattle.rooms.proofs.back.Goals as goal

pub slice_bounds-back-end-2 : goal.slice_bounds-back-end-2
slice_bounds-back-end-2 c =
    let brought : Brought = c.args.brought.now in
    part_long (row_length brought.sheet) 1134 _ c.args.defaults.now c.requires.0 c.row_size-size.ensures

pub slice_bounds-back-end-4 : goal.slice_bounds-back-end-4
slice_bounds-back-end-4 c =
    let brought : Brought = c.args.brought.now in
    part_long (row_length brought.sheet) 1134 _ c.args.premiums.now c.requires.1 c.row_size-size.ensures

pub returns : goal.returns
unfolding back_in_rooms
returns c =
    let brought : Brought = c.args.brought.now in
    rooms_left brought c.args.defaults.now c.args.premiums.now _ c.row_size-size.ensures c.requires.0 c.requires.1
    (λ (l : Rows). back_call brought c.args.register.now c.args.walk l c.args.count)
    position_answer c.back.ensures.gives
