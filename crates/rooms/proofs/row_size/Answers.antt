-- `rooms::row_size` meets its contract: a product of factors from 1 on is at least each of them.
use Rattle.std.proofs.Common.{arith}
use Rattle.machine.proofs.LentRooms.{product_left, product_right, product_most}
use Rattle.rooms.proofs.row_size.Goals as goal

pub returns-then-tranches-ge-ROW_MOST : goal.returns-then-tranches-ge-ROW_MOST
returns-then-tranches-ge-ROW_MOST c =
    rw (← c.tranches-tranches.ensures, ← c.names-names.ensures) (omega (arith, product_left c.tranches-tranches.result c.names-names.result (omega arith)))

pub returns-then-names-ge-ROW_MOST : goal.returns-then-names-ge-ROW_MOST
returns-then-names-ge-ROW_MOST c =
    rw (← c.tranches-tranches.ensures, ← c.names-names.ensures) (omega (arith, product_right c.tranches-tranches.result c.names-names.result (omega arith)))

pub overflow_mul-size : goal.overflow_mul-size
overflow_mul-size c = omega (arith, product_most c.tranches-tranches.result c.names-names.result (omega arith) (omega arith))
