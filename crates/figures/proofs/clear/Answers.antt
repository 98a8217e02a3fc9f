-- Zeros throughout.
use Rattle.std.proofs.Common.{rules, ◌≡◌, refl, ◌∙◌, length, replicate}
use Rattle.rows.proofs.Tables.{filled_tab}
use Rattle.figures.proofs.clear.Goals as goal

pub returns : goal.returns
returns c =
    let zeros : c.fill.new.self ≡ replicate (length c.args.row.now) 0 = search rules in
    zeros ∙ filled_tab _ 0 (λ i. 0) (λ i. refl)
