use Rattle.std.proofs.Common.{sym, ◌∙◌, arith}
use Rattle.export.specs.Bytes.{bytes_in}
use Rattle.export.proofs.Bytes.{told_apart}
use Rattle.export.proofs.lavroudem_run_on.Goals as goal

pub returns : goal.returns
returns c =
    record {
      said = c.unwrap_or.ensures ∙ (λ t. bytes_in (c.run_on.ensures.prints t).answer);
      prints = λ t. (c.run_on.ensures.prints t).out;
      leaves = c.run_on.ensures.leaves;
      apart = λ h. told_apart _ _ _ _ _ c.run_on.ensures.prints (omega (arith, c.well_formed, c.run_on.auto.out)) (sym c.unwrap_or.ensures ∙ h);
    }
