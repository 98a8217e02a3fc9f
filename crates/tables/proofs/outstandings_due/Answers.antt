-- Each tranche's row is filled where a premium is due.
use Rattle.std.proofs.Common.{◌≡◌, ◌∙◌, true, ◌||◌, suc, sym, arith, rules}
use Rattle.sheet.specs.Terms.{bare}
use Rattle.tree.specs.Sheet.{outstanding_of}
use Rattle.rows.specs.Tables.{tab}
use Rattle.rows.specs.Rows.{row_of}
use Rattle.rows.specs.Kernels.{due_in}
use Rattle.rows.proofs.Search.{met_left, met_right}
use Rattle.rows.proofs.Chunks.{chunks_grid}
use Rattle.tables.proofs.outstandings_due.Goals.{then-is_due-via-then-is_due, then-is_due-via-else-is_due+then-is_due-2}
use Rattle.tables.proofs.outstandings_due.Goals as goal

pub returns-then-is_due : goal.returns-then-is_due
unfolding row_of
returns-then-is_due c =
    let a = c.args in
    let due : (due_in a.accruals.now a.position a.count || due_in a.elapsed.now a.position a.count) ≡ true =
    elim c.then-is_due.branch [
      | then-is_due-via-then-is_due w ↦ met_left _ _ (sym c.is_due.ensures ∙ w.if-is_due.true)
      | then-is_due-via-else-is_due+then-is_due-2 w ↦ met_right _ _ (sym w.is_due-else-is_due.ensures ∙ w.if-is_due-2.true)
    ] in
    rw due
    (chunks_grid _ _ _ _ (omega arith) (c.fill_rows.auto.table ∙ c.requires.table_len)
    (λ j h.
    let d = c.fill_rows.ensures j h in
    let made : d.after_call.now ≡ tab (suc a.pool.names) (outstanding_of (bare a.pool a.attachments.now) j) = search rules in
    sym d.left ∙ made))
