-- The filter keeps the starts that have begun.
use Rattle.std.proofs.Common.{◌≡◌, ◌∙◌, sym, leb, count_by, rules}
use Rattle.periods.proofs.Counting.{begun_count}
use Rattle.periods.proofs.periods_begun.Goals as goal

pub returns : goal.returns
returns c =
    let counted : c.count.result ≡ count_by (λ a. leb a c.args.step) c.args.starts.now = search rules in
    counted ∙ sym (begun_count c.args.starts.now c.args.step)
