-- `lines::put_signed` meets its contract.
use Rattle.std.proofs.Common.{ℕ, true, false, ◌≡◌, ap, ◌∙◌, sym, ◌∷◌, arith, ℤ, pos, nat_abs, length, length-set, w64, SFits}
use lib.Signed.{lt_z}
use Rattle.lines.specs.Text.{decimal, signed}
use Rattle.lines.proofs.Laws.{wrote_after, wrote_text}
use Rattle.hedges.proofs.Negated.{read, read_is}
use Rattle.lines.proofs.Written.{signed_neg, signed_pos}
use Rattle.lines.proofs.put_signed.Goals as goal

-- how x is written, from its magnitude n
neg : (x : ℤ) {n : ℕ} → SFits w64 x → lt_z (read x) (pos 0) ≡ true → n ≡ nat_abs (read x) → signed x ≡ 45 ∷ decimal n
neg x f e m = signed_neg x f e ∙ ap (λ (n : ℕ). 45 ∷ decimal n) (sym (m ∙ ap nat_abs (read_is x f)))

plus : (x : ℤ) {n : ℕ} → SFits w64 x → lt_z (read x) (pos 0) ≡ false → n ≡ nat_abs (read x) → signed x ≡ decimal n
plus x f e m = signed_pos x f e ∙ ap decimal (sym (m ∙ ap nat_abs (read_is x f)))

pub bounds-out-at : goal.bounds-out-at
bounds-out-at c = omega (arith, ap length (signed_neg c.args.x c.ranges.x c.if-x-lt0.true))

pub put_decimal-requires : goal.put_decimal-requires
put_decimal-requires c = simp length-set (omega (arith, ap length (neg c.args.x c.ranges.x c.if-x-lt0.true c.magnitude.ensures)))

pub put_decimal-requires-else-x-lt0 : goal.put_decimal-requires-else-x-lt0
put_decimal-requires-else-x-lt0 c = omega (arith, ap length (plus c.args.x c.ranges.x c.if-x-lt0.false c.magnitude-else-x-lt0.ensures))

pub returns-then-x-lt0 : goal.returns-then-x-lt0
returns-then-x-lt0 c =
    wrote_text (sym (neg c.args.x c.ranges.x c.if-x-lt0.true c.magnitude.ensures)) (wrote_after 45 c.put_decimal.ensures)

pub returns-else-x-lt0 : goal.returns-else-x-lt0
returns-else-x-lt0 c =
    wrote_text (sym (plus c.args.x c.ranges.x c.if-x-lt0.false c.magnitude-else-x-lt0.ensures)) c.put_decimal-else-x-lt0.ensures
