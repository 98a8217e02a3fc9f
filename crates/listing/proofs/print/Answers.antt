-- The listing stands in out.
use Rattle.std.proofs.Common.{sym, length-take-le}
use Rattle.deck.proofs.Printing.{printed_within}
use Rattle.listing.proofs.print.Goals as goal

pub slice_bounds-write_all-end : goal.slice_bounds-write_all-end
slice_bounds-write_all-end g c = printed_within _ _ _ _ _ c.in-Ok.ensures

pub slice_bounds-write_all-end-2 : goal.slice_bounds-write_all-end-2
slice_bounds-write_all-end-2 g c = sym (length-take-le _ _ (printed_within _ _ _ _ _ c.in-Ok.ensures))
