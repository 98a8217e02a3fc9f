use Rattle.std.proofs.Common.{rules, ◌∙◌, ⊎_elim, arith}
use Rattle.refusals.proofs.Meanings.{pool_fine}
use Rattle.refusals.proofs.Judged.{broken}
use Rattle.admission.proofs.Lengths.{row_fine, row_row}
use Rattle.admission.proofs.row_differs.Goals as goal

pub returns-then-register-ne256 : goal.returns-then-register-ne256
returns-then-register-ne256 c e =
    let inside = (pool_fine _).0 e in
    (search rules) ∙ broken (row_fine _ _ _) (λ p. ⊎_elim (λ h. omega (arith, h, inside.names)) (λ h. h.1 p.0) c.if-register-ne256.either)

pub returns-else-register-ne256 : goal.returns-else-register-ne256
returns-else-register-ne256 c e = row_row _ _ _ c.if-register-ne256.false.1
