-- It holds the table already, or each tranche's row is filled.
use Rattle.std.proofs.Common.{ℕ, suc, length, sym, ap, ◌∙◌, arith, add-one}
use Rattle.rows.specs.Tables.{grid}
use Rattle.rows.specs.Kernels.{earned_in}
use Rattle.rows.proofs.Tables.{length_grid}
use Rattle.rows.proofs.Chunks.{chunk_long, chunks_grid}
use Rattle.elapsed.proofs.Earned.{outs_there, tranche_falls, tranche_earned}
use Rattle.elapsed.proofs.earn.Goals as goal

pub fill_rows-requires-clause-table_long : goal.fill_rows-requires-clause-table_long
fill_rows-requires-clause-table_long c = ap length c.requires.table_value ∙ length_grid _ _ _

pub fill_rows-requires-clause-rows_taken : goal.fill_rows-requires-clause-rows_taken
fill_rows-requires-clause-rows_taken c =
    λ j h p e.
    let f = c.requires.fraction_bound in
    let long = ap length e ∙ chunk_long c.args.table.now _ _ j (ap length c.requires.table_value ∙ length_grid _ _ _) h in
    (outs_there f.1 j _ h (add-one _), f.0, tranche_falls f.1 j _ h (add-one _), long)

pub returns-then-fraction-held : goal.returns-then-fraction-held
returns-then-fraction-held c =
    chunks_grid _ _ _ _ (omega arith) (c.fill_rows.auto.table ∙ ap length c.requires.table_value ∙ length_grid _ _ _)
    (λ j h.
    let d = c.fill_rows.ensures j h in
    sym d.left ∙ d.call ∙ tranche_earned c.requires.fraction_bound.1 j _ h (add-one _) c.args.fraction)
