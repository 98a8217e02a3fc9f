-- `lines::put_field` meets its contract.
use Rattle.std.proofs.Common.{ap, List, ◌∷◌, ℕ, arith, length, length-set}
use Rattle.lines.specs.Text.{signed, field}
use Rattle.lines.proofs.Laws.{wrote_after, wrote_text}
use Rattle.hedges.proofs.Negated.{read_is}
use Rattle.lines.proofs.put_field.Goals as goal

pub bounds-out-at : goal.bounds-out-at
unfolding field
bounds-out-at c = omega arith

pub put_signed-requires : goal.put_signed-requires
unfolding field
put_signed-requires c = let is = ap signed (read_is c.args.x c.ranges.x) in simp length-set (omega (arith, ap length is))

pub returns : goal.returns
unfolding field
returns c =
    let is = ap signed (read_is c.args.x c.ranges.x) in
    wrote_text (ap (λ (l : List ℕ). 32 ∷ l) is) (wrote_after 32 c.put_signed.ensures)
