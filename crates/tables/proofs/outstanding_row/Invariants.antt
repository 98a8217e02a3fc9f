-- `tables::outstanding_row` meets its contract. The loop's invariant: the counts passed are filled.
use Rattle.tree.specs.Sheet.{outstanding_of}
use Rattle.sheet.specs.Terms.{bare}
use Rattle.rows.proofs.Sweep.{Swept}
use Rattle.tables.proofs.outstanding_row.Given as goal

abbrev pub invariant-loop-k : goal.invariant-loop-k
invariant-loop-k l = Swept (outstanding_of (bare l.pool l.attachments) l.tranche) l.initial.row l.row l.k
