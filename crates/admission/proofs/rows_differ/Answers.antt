use Rattle.std.proofs.Common.{rules, sym, ◌∙◌, ⊎_elim, arith}
use Rattle.rows.proofs.Lent.{enough, row_size}
use Rattle.refusals.proofs.Meanings.{pool_fine}
use Rattle.refusals.proofs.Judged.{broken}
use Rattle.admission.proofs.Lengths.{rows_fine, rows_premium}
use Rattle.admission.proofs.rows_differ.Goals as goal

pub returns-then-pool-gt-NAMES_MOST : goal.returns-then-pool-gt-NAMES_MOST
returns-then-pool-gt-NAMES_MOST c e =
    let inside = (pool_fine _).0 e in
    absurd (⊎_elim (λ h. omega (arith, h, inside.names)) (λ h. omega (arith, h.1, inside.tranches)) c.then-pool-gt-NAMES_MOST.either)

pub overflow_mul-size : goal.overflow_mul-size
overflow_mul-size c =
    let p = c.args.pool in
    omega (arith, enough p.tranches p.names (omega arith) (omega arith))

pub returns-then-defaults-size : goal.returns-then-defaults-size
returns-then-defaults-size c e =
    (search rules) ∙ broken (rows_fine _ _ _) (λ p. ⊎_elim (λ h. h p.0.0) (λ h. h.1 (p.0.1 ∙ sym (row_size _ _))) c.if-defaults-size.either)

pub returns-else-defaults-size : goal.returns-else-defaults-size
returns-else-defaults-size c e = rows_premium _ _ _ _ (row_size _ _) c.if-defaults-size.false.0 c.if-defaults-size.false.1
