-- `totals::sum_positions` meets its contract.
use Rattle.std.proofs.Common.{suc, rules, arith, length, length-append, add-one, ◌≡◌, ◌≤◌, ◌∷◌, [], ◌++◌, ap, sym, ◌∙◌, subst, true, false, get_or, ℤ, pos, negsuc, nat_abs, w64, SFits}
use Rattle.std.proofs.lemmas.Slice.Zip.{zip_turn, zip_end}
use Rattle.hedges.specs.Hedges.{with_sign}
use Rattle.hedges.proofs.Negated.{read, read_is}
use Rattle.totals.specs.declared.Sums.{Sums}
use Rattle.totals.specs.Totals.{gain_of, loss_of}
use Rattle.totals.specs.Sums.{Added}
use Rattle.totals.proofs.Partway.{Partway, has_room, one_more, whole, gains_by_sizes, losses_by_sizes}
use Rattle.totals.proofs.sum_positions.Goals as goal

-- numbers within their ranges come as they are
fits : (z : ℤ) → nat_abs z ≤ 200_000_000_000_000_000 → SFits w64 z
fits (pos n) h = record { sfits = omega (arith, h) }
fits (negsuc n) h = record { sfits = omega (arith, h) }

added : (s r : Sums) (n v : ℤ) → nat_abs n ≤ 1_000_000 → nat_abs v ≤ 200_000_000_000_000_000 → Added s (read n) (read v) r
    → Added s n v r
added s r n v h k a =
    subst (λ (z : ℤ). Added s z v r) (read_is n (fits n (omega (arith, h))))
    (subst (λ (z : ℤ). Added s (read n) z r) (read_is v (fits v k)) a)

pub loop-nominal-preserved : goal.loop-nominal-preserved
loop-nominal-preserved c =
    let i = length c.loop-nominal.yielded in
    let t = c.requires in
    let inv = c.loop-nominal.invariant in
    let turn = zip_turn c.args.nominals.now c.args.values.now c.loop-nominal.yielded _ _ c.next.new.self _ (search rules) (search rules)
    c.loop-nominal.yielded_by _ c.in-Some.is c.next.ensures.steps in
    let h = turn.0 in
    let k = turn.1 in
    let n = get_or c.args.nominals.now i (pos 0) in
    let v = get_or c.args.values.now i (pos 0) in
    let same : Added c.loop-nominal.sums (read n) (read v) c.add_position-sums.result =
    subst (λ z. Added c.loop-nominal.sums (read z) (read v) c.add_position-sums.result) (turn.2 (pos 0))
    (subst (λ z. Added c.loop-nominal.sums (read c.in-Some.nominal.now) (read z) c.add_position-sums.result) (turn.3 (pos 0)) c.add_position-sums.ensures) in
    let a = added _ _ n v (t.nominals_within i h) (t.values_within i k) same in
    let more : length (c.loop-nominal.yielded ++ ((c.in-Some.nominal, c.in-Some.value) ∷ [])) ≡ suc i =
    length-append c.loop-nominal.yielded ((c.in-Some.nominal, c.in-Some.value) ∷ []) ∙ add-one i in (
      omega (arith, h, more),
      subst (Partway gain_of _ _ _) (sym more) (one_more _ _ _ _ _ inv.1 h k _ a.gains_grown),
      subst (Partway loss_of _ _ _) (sym more) (one_more _ _ _ _ _ inv.2 h k _ a.losses_grown),
    )

pub returns : goal.returns
returns c =
    let inv = c.loop-nominal.invariant in
    let all = zip_end c.args.nominals.now c.args.values.now c.loop-nominal.yielded _ _ c.next.new.self _ (search rules) (search rules)
    c.loop-nominal.yielded_by c.in-None.is c.next.ensures.steps in
    let h : length c.args.nominals.now ≤ length c.loop-nominal.yielded = omega (arith, all, c.requires.alike) in
    let few : length c.loop-nominal.yielded ≤ 4_096 = omega (arith, inv.0, c.requires.few) in
    record {
      gains_are = ap (with_sign false) (whole _ _ _ _ _ inv.1 h) ∙ sym (gains_by_sizes _ _);
      losses_are = ap (with_sign true) (whole _ _ _ _ _ inv.2 h) ∙ sym (losses_by_sizes _ _);
      gains_fit = has_room _ _ _ _ _ inv.1 few;
      losses_fit = has_room _ _ _ _ _ inv.2 few;
    }
