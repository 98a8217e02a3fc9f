use Rattle.std.proofs.Common.{sym, ◌∙◌, arith}
use Rattle.export.specs.Bytes.{bytes_in}
use Rattle.export.proofs.Bytes.{told_apart}
use Rattle.export.proofs.lavroudem_run_deck.Goals as goal

pub returns : goal.returns
returns c =
    record {
      said = c.unwrap_or.ensures ∙ (λ t. bytes_in (c.run.ensures t).answer);
      leaves = λ t. (c.run.ensures t).out;
      apart = λ h. told_apart _ _ _ _ _ c.run.ensures (omega (arith, c.well_formed, c.run.auto.out)) (sym c.unwrap_or.ensures ∙ h);
    }
