-- `register::may_be_left` meets its contract.
use Rattle.std.proofs.Common.{ℕ, ◌<◌, ◌^◌, ◌≡◌, sym, ap, ◌∙◌, Bool, ◌&&◌, eq-eqb, ne_eqb, eqb}
use lib.Bits.{bit_and, bit_or}
use Rattle.register.specs.Cut.{may_be_left}
use Rattle.register.proofs.Masks.{mask_test}
use Rattle.register.proofs.may_be_left.Goals as goal

-- the first test as it came out, and the second
second : (old new found : ℕ) → old < 2 ^ 8 → found < 2 ^ 8 → {t : Bool} → eqb (bit_or found old) old ≡ t →
    t && eqb (bit_and found new) (bit_and old new) ≡ may_be_left old new found
second old new found o f e =
    ap (λ (t : Bool). t && eqb (bit_and found new) (bit_and old new)) (sym e) ∙ mask_test 8 old new found o f

pub returns-then-found-old : goal.returns-then-found-old
returns-then-found-old c =
    second c.args.old c.args.new c.args.found c.ranges.old.fits c.ranges.found.fits (eq-eqb _ _ c.if-found-old.true)

pub returns-else-found-old : goal.returns-else-found-old
returns-else-found-old c =
    let e = ne_eqb _ _ c.if-found-old.false in
    e ∙ second c.args.old c.args.new c.args.found c.ranges.old.fits c.ranges.found.fits e
