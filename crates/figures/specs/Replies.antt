-- What value and hedge ratio answer of what they read.
use Rattle.std.specs.Prelude.{ℕ, get_or}
use Rattle.std.specs.declared.result.Result.TheVariants.{Ok, Err}
use Rattle.hedges.specs.declared.NoRatio.TheVariants as NoRatio
use Rattle.hedges.specs.Hedges.{Hedge, net_value}
use Rattle.sheet.specs.Brought.{Brought}
use Rattle.rows.specs.Rows.{Rows, node_in}
use Rattle.refusals.specs.declared.Refusal.TheVariants.{FlatHedge, OffScale}
use Rattle.figures.specs.Answer.{Answer, Refused, Worth, Ratio}

-- D, A and W of tranche j at the count k.
unfoldable pub worth : Brought → Rows → ℕ → ℕ → Answer
worth x rows j k =
    Worth (node_in x.sheet rows.defaults j k) (node_in x.sheet rows.premiums j k)
    (net_value (node_in x.sheet rows.defaults j k) (get_or x.coupons j 0) (node_in x.sheet rows.premiums j k))

-- 15 and 16, or the ratio.
abbrev pub hedge_answer : Hedge → Answer
hedge_answer (Ok z) = Ratio z
hedge_answer (Err NoRatio.Flat) = Refused FlatHedge
hedge_answer (Err NoRatio.OffScale) = Refused OffScale
