-- Each tranche's row fits, and comes back rolled.
use Rattle.std.proofs.Common.{◌∙◌, sym, arith, add-one}
use Rattle.rows.proofs.Chunks.{chunks_grid}
use Rattle.rows.proofs.Rolls.{cash_there, tranche_fits, tranche_back}
use Rattle.rows.proofs.step.roll_all.Goals as goal

pub fill_rows-requires-clause-rows_taken : goal.fill_rows-requires-clause-rows_taken
fill_rows-requires-clause-rows_taken c =
    λ j h p e. (cash_there c.requires j _ h (add-one _) p.now e, tranche_fits c.requires j _ h (add-one _) p.now e)

pub returns : goal.returns
returns c =
    chunks_grid _ _ _ _ (omega arith) (c.fill_rows.auto.table ∙ c.requires.rows_long)
    (λ j h.
    let d = c.fill_rows.ensures j h in
    sym d.left ∙ d.call ∙ tranche_back c.requires j _ h (add-one _) d.argument.now d.argument_is)
