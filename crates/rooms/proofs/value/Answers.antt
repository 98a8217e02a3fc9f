-- `rooms::value` meets its contract.
use Rattle.sheet.specs.Brought.{Brought}
use Rattle.rows.specs.Rows.{Rows, row_length}
use Rattle.figures.specs.Answer.{worth_answer}
use Rattle.walk.specs.Calls.{value_call}
use Rattle.machine.specs.Rooms.{value_in_rooms}
use Rattle.machine.proofs.LentRooms.{part_long, rooms_read}
use Rattle.rooms.proofs.value.Goals as goal

pub slice_bounds-value-end : goal.slice_bounds-value-end
slice_bounds-value-end c =
    let brought : Brought = c.args.brought.now in
    part_long (row_length brought.sheet) 1134 _ c.args.defaults.now c.requires.0 c.row_size-size.ensures

pub slice_bounds-value-end-2 : goal.slice_bounds-value-end-2
slice_bounds-value-end-2 c =
    let brought : Brought = c.args.brought.now in
    part_long (row_length brought.sheet) 1134 _ c.args.premiums.now c.requires.1 c.row_size-size.ensures

pub returns : goal.returns
unfolding value_in_rooms
returns c =
    let brought : Brought = c.args.brought.now in
    rooms_read brought c.args.defaults.now c.args.premiums.now _ c.row_size-size.ensures c.requires.0 c.requires.1
    (λ (l : Rows). value_call brought c.args.register.now c.args.walk l c.args.tranche c.args.count)
    worth_answer c.value.ensures.gives
