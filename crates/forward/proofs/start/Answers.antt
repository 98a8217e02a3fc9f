-- Zeros, and then B at the count 0.
use Rattle.std.proofs.Common.{rules, ◌≡◌, ap, ◌∙◌, List, ℕ, length, replicate, set}
use Rattle.cash.specs.Units.{B}
use Rattle.forward.proofs.Moves.{fresh_row}
use Rattle.forward.proofs.start.Goals as goal

pub returns : goal.returns
unfolding B
returns c =
    let zeros : c.fill.new.self ≡ replicate (length c.args.row.now) 0 = search rules in
    ap (λ (l : List ℕ). set l 0 B) zeros ∙ fresh_row _ c.requires
