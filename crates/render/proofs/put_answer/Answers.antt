-- `render::put_answer` meets its contract.
use Rattle.std.proofs.Common.{rules, arith, ℕ, List, ap, sym, subst, ◌≡◌}
use Rattle.std.specs.Prelude.{Result, Ok, Err}
use Rattle.lines.specs.Text.{decimal}
use Rattle.lines.proofs.Laws.{wrote_text}
use Rattle.answers.specs.declared.OrderRefusal.{OrderRefusal}
use Rattle.answers.specs.declared.Told.{Told}
use Rattle.answers.specs.OrderAnswers.{answer_said}
use Rattle.render.specs.Lines.{answer_text, fields, width}
use Rattle.render.proofs.Puts.{Put, put_short, both, last, wider, put_byte, put_zero, byte_long, zero_long}
use Rattle.render.proofs.put_answer.Goals as goal

-- the text of an answer was written, in the width that its contract names
abbrev AnswerPut : List ℕ → ℕ → Result Told OrderRefusal → List ℕ → ℕ → Type 0
AnswerPut before at a after end = Put before at (answer_text (answer_said a)) after end (width (answer_said a))

put_same : {before after : List ℕ} {at end : ℕ} {a v : Result Told OrderRefusal} → a ≡ v → AnswerPut before at v after end → AnswerPut before at a after end
put_same {before} {after} {at} {end} e p = subst (λ (x : Result Told OrderRefusal). AnswerPut before at x after end) (sym e) p

-- a refusal's byte is its number
put_number : {before after : List ℕ} {at end n m : ℕ} → n ≡ m → Put before at (decimal n) after end 3 → Put before at (decimal m) after end 3
put_number e p = record { wrote = wrote_text (ap decimal e) p.wrote; long = p.long; short = p.short }

pub put_decimal-b-requires : goal.put_decimal-b-requires
put_decimal-b-requires c = omega (arith, zero_long)

pub put_told-requires : goal.put_told-requires
put_told-requires c =
    let p = put_zero c.put_decimal-b.ensures in
    omega (arith, p.short, p.long)

pub put_decimal-requires : goal.put_decimal-requires
put_decimal-requires c = omega (arith, byte_long c.from.result (search rules))

pub returns-in-Ok : goal.returns-in-Ok
unfolding answer_text
returns-in-Ok c =
    let told = c.in-Ok.told in
    let p : AnswerPut _ _ (Ok told) _ _ =
    wider (omega arith) (both (put_zero c.put_decimal-b.ensures) (put_short c.put_told.ensures.writes c.put_told.ensures.short)) in
    let q = put_same c.in-Ok.is p in
    record { writes = q.wrote; short = q.short }

pub returns-in-Err : goal.returns-in-Err
unfolding answer_text fields
returns-in-Err c =
    let p : AnswerPut _ _ (Err c.in-Err.refusal) _ _ =
    last (put_number c.from.ensures (put_byte c.from.result (search rules) c.put_decimal.ensures)) in
    let q = put_same c.in-Err.is p in
    record { writes = q.wrote; short = q.short }
