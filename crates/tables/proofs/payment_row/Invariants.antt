-- `tables::payment_row` meets its contract. The loop's invariant: the counts passed have their payment, and the loss of the next is at hand.
use Rattle.std.proofs.Common.{◌≡◌}
use Rattle.sheet.specs.Terms.{bare}
use Rattle.tree.specs.Sheet.{loss_of}
use Rattle.rows.specs.Kernels.{payment_of}
use Rattle.rows.proofs.Sweep.{Swept}
use Rattle.tables.proofs.payment_row.Given as goal

abbrev pub invariant-loop-k : goal.invariant-loop-k
invariant-loop-k l =
    (l.lost ≡ loss_of (bare l.pool l.attachments) l.tranche l.k) × Swept (payment_of (bare l.pool l.attachments) l.tranche) l.initial.row l.row l.k
