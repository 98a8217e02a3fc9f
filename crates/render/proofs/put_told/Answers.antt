-- `render::put_told` meets its contract.
use Rattle.std.proofs.Common.{lit≤, rules, arith, ℕ, ◌*◌, List, sym, subst, ◌≡◌, length}
use Rattle.lines.proofs.Laws.{wrote_none}
use Rattle.answers.specs.declared.Told.{Told}
use Rattle.answers.specs.declared.Told.TheVariants.{Done, Position, Worth, Ratio, Probability}
use Rattle.answers.specs.OrderAnswers.{told_values}
use Rattle.render.specs.Lines.{fields}
use Rattle.render.proofs.Puts.{Put, put, both, last, put_wide, put_sign, signed_long, count_fits}
use Rattle.render.proofs.put_told.Goals as goal

-- the values were written, in the width that the contract names
abbrev ToldPut : List ℕ → ℕ → Told → List ℕ → ℕ → Type 0
ToldPut before at told after end = Put before at (fields (told_values told)) after end (21 * length (told_values told))

put_same : {before after : List ℕ} {at end : ℕ} {a v : Told} → a ≡ v → ToldPut before at v after end → ToldPut before at a after end
put_same {before} {after} {at} {end} e p = subst (λ (x : Told). ToldPut before at x after end) (sym e) p

pub put_count-requires : goal.put_count-requires
put_count-requires c = count_fits _ _ _ (search rules) (omega arith)

pub put_count-b-requires : goal.put_count-b-requires
put_count-b-requires c = count_fits _ _ _ (search rules) (omega arith)

pub put_count-c-requires : goal.put_count-c-requires
put_count-c-requires c =
    let p = put_wide c.in-Worth.worth.default (search rules) c.put_count-b.ensures in
    count_fits _ _ _ (search rules) (omega (arith, p.short, p.long))

pub put_field-requires : goal.put_field-requires
put_field-requires c =
    let worth = c.in-Worth.worth in
    let p = both (put_wide worth.default (search rules) c.put_count-b.ensures) (put_wide worth.premium (search rules) c.put_count-c.ensures) in
    omega (arith, p.short, p.long, signed_long worth.net (search rules))

pub put_field-requires-in-Ratio : goal.put_field-requires-in-Ratio
put_field-requires-in-Ratio c = omega (arith, signed_long c.in-Ratio.ratio (search rules))

pub put_count-requires-in-Probability : goal.put_count-requires-in-Probability
put_count-requires-in-Probability c = count_fits _ _ _ (search rules) (omega arith)

pub returns-in-Done : goal.returns-in-Done
unfolding fields
returns-in-Done c =
    let p : ToldPut _ _ Done _ _ = put 0 (wrote_none c.args.out.now c.args.at) (lit≤ tt) in
    let q = put_same c.in-Done.is p in
    record { writes = q.wrote; short = q.short }

pub returns-in-Position : goal.returns-in-Position
unfolding fields
returns-in-Position c =
    let i = c.in-Position.position in
    let p : ToldPut _ _ (Position i) _ _ = last (put_wide i (search rules) c.put_count.ensures) in
    let q = put_same c.in-Position.is p in
    record { writes = q.wrote; short = q.short }

pub returns-in-Worth : goal.returns-in-Worth
unfolding fields
returns-in-Worth c =
    let worth = c.in-Worth.worth in
    let p : ToldPut _ _ (Worth worth) _ _ =
    both (put_wide worth.default (search rules) c.put_count-b.ensures)
    (both (put_wide worth.premium (search rules) c.put_count-c.ensures)
    (last (put_sign worth.net (search rules) c.put_field.ensures))) in
    let q = put_same c.in-Worth.is p in
    record { writes = q.wrote; short = q.short }

pub returns-in-Ratio : goal.returns-in-Ratio
unfolding fields
returns-in-Ratio c =
    let z = c.in-Ratio.ratio in
    let p : ToldPut _ _ (Ratio z) _ _ = last (put_sign z (search rules) c.put_field-in-Ratio.ensures) in
    let q = put_same c.in-Ratio.is p in
    record { writes = q.wrote; short = q.short }

pub returns-in-Probability : goal.returns-in-Probability
unfolding fields
returns-in-Probability c =
    let n = c.in-Probability.q in
    let p : ToldPut _ _ (Probability n) _ _ = last (put_wide n (search rules) c.put_count-in-Probability.ensures) in
    let q = put_same c.in-Probability.is p in
    record { writes = q.wrote; short = q.short }
