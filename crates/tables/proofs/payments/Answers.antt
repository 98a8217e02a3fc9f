-- Each tranche's row is filled by the losses of the pool.
use Rattle.std.proofs.Common.{◌≡◌, suc, sym, ◌∙◌, arith, rules}
use Rattle.sheet.specs.Terms.{bare}
use Rattle.rows.specs.Tables.{tab}
use Rattle.rows.specs.Rows.{row_of}
use Rattle.rows.specs.Kernels.{payment_of}
use Rattle.rows.proofs.Chunks.{chunks_grid}
use Rattle.tables.proofs.payments.Goals as goal

pub returns : goal.returns
unfolding row_of
returns c =
    let a = c.args in
    chunks_grid _ _ _ _ (omega arith) (c.fill_rows.auto.table ∙ c.requires.table_len)
    (λ j h.
    let d = c.fill_rows.ensures j h in
    let made : d.after_call.now ≡ tab (suc a.pool.names) (payment_of (bare a.pool a.attachments.now) j) = search rules in
    sym d.left ∙ made)
