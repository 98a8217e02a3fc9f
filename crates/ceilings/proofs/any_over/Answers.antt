-- Nothing is found yet, and at no place before `place` is a leg over its ceiling.
use Rattle.std.proofs.Common.{ℕ, suc, ◌*◌, ◌≡◌, sym, ap, ◌∙◌, length, arith}
use Rattle.cash.specs.Units.{B}
use Rattle.sheet.specs.Terms.{Terms, bare}
use Rattle.tree.specs.Sheet.{default_most}
use Rattle.tranches.proofs.Losses.{losses_long, points_rise, ceiling_read}
use Rattle.rows.proofs.Parts.{next_tranche}
use Rattle.ceilings.proofs.Found.{place_inside, clean_more, over_default, over_premium, under_both, over_found, over_none}
use Rattle.ceilings.proofs.any_over.Goals as goal

pub left_to_lose-left-requires : goal.left_to_lose-left-requires
left_to_lose-left-requires c =
    let x : Terms = bare c.args.pool c.args.attachments.now in
    omega (arith, c.lower_of-lower.ensures, c.upper_of-upper.ensures, points_rise x c.requires.tranches_within.0 c.search.j)

pub bounds-defaults-place : goal.bounds-defaults-place
bounds-defaults-place c =
    let pool = c.args.pool in
    let long : length c.args.losses.now ≡ suc pool.names = ap length c.requires.tranches_within.1 ∙ losses_long pool.names pool.recovery in
    omega (arith, place_inside (suc pool.tranches) (suc pool.names) c.search.j c.loop-k.k _ (omega arith) (omega (arith, long)) c.loop-k.invariant.0, c.requires.defaults_len.0)

pub overflow_sub-pool : goal.overflow_sub-pool
overflow_sub-pool c =
    let pool = c.args.pool in
    let long : length c.args.losses.now ≡ suc pool.names = ap length c.requires.tranches_within.1 ∙ losses_long pool.names pool.recovery in
    omega (arith, long)

pub overflow_add-most : goal.overflow_add-most
unfolding B
overflow_add-most c = omega (arith, c.requires.tranches_within.2, c.requires.tranches_within.0.pool.names)

pub bounds-premiums-place : goal.bounds-premiums-place
bounds-premiums-place c =
    let pool = c.args.pool in
    let long : length c.args.losses.now ≡ suc pool.names = ap length c.requires.tranches_within.1 ∙ losses_long pool.names pool.recovery in
    omega (arith, place_inside (suc pool.tranches) (suc pool.names) c.search.j c.loop-k.k _ (omega arith) (omega (arith, long)) c.loop-k.invariant.0, c.requires.defaults_len.1)

pub loop-k-preserved : goal.loop-k-preserved
loop-k-preserved c =
    let pool = c.args.pool in
    let x : Terms = bare pool c.args.attachments.now in
    let long : length c.args.losses.now ≡ suc pool.names = ap length c.requires.tranches_within.1 ∙ losses_long pool.names pool.recovery in
    let j : ℕ = c.search.j in
    let k : ℕ = c.loop-k.k in
    let left_is : c.left_to_lose-left.result ≡ default_most x j k = ceiling_read x j k _ _ _ _ (omega (arith, long)) c.lower_of-lower.ensures c.upper_of-upper.ensures c.requires.tranches_within.1 c.left_to_lose-left.ensures in
    let v = c.loop-k.invariant in (
      omega (arith, v.0),
      v.1,
      clean_more _ _ j k _ v.2 v.0 (omega (arith, long)) (under_both x _ _ _ j k _ v.0 _ left_is c.if-left-defaults.false c.if-most-pool.false),
    )

pub search-preserved : goal.search-preserved
search-preserved c =
    let pool = c.args.pool in
    let long : length c.args.losses.now ≡ suc pool.names = ap length c.requires.tranches_within.1 ∙ losses_long pool.names pool.recovery in
    let v = c.loop-k.invariant in
    (omega (arith, v.0, long, next_tranche c.search.j (suc pool.names)), v.1, v.2)

pub returns-then-left-defaults : goal.returns-then-left-defaults
returns-then-left-defaults c =
    let pool = c.args.pool in
    let x : Terms = bare pool c.args.attachments.now in
    let long : length c.args.losses.now ≡ suc pool.names = ap length c.requires.tranches_within.1 ∙ losses_long pool.names pool.recovery in
    let j : ℕ = c.search.j in
    let k : ℕ = c.loop-k.k in
    let left_is : c.left_to_lose-left.result ≡ default_most x j k = ceiling_read x j k _ _ _ _ (omega (arith, long)) c.lower_of-lower.ensures c.upper_of-upper.ensures c.requires.tranches_within.1 c.left_to_lose-left.ensures in
    sym (over_found _ _ _ j k (omega arith) (omega (arith, long)) (over_default x _ _ _ j k _ c.loop-k.invariant.0 _ left_is c.if-left-defaults.true))

pub returns-then-most-pool : goal.returns-then-most-pool
returns-then-most-pool c =
    let pool = c.args.pool in
    let x : Terms = bare pool c.args.attachments.now in
    let long : length c.args.losses.now ≡ suc pool.names = ap length c.requires.tranches_within.1 ∙ losses_long pool.names pool.recovery in
    let j : ℕ = c.search.j in
    let k : ℕ = c.loop-k.k in
    sym (over_found _ _ _ j k (omega arith) (omega (arith, long)) (over_premium x _ _ _ j k _ c.loop-k.invariant.0 c.if-most-pool.true))

pub returns-2 : goal.returns-2
returns-2 c =
    let pool = c.args.pool in
    let long : length c.args.losses.now ≡ suc pool.names = ap length c.requires.tranches_within.1 ∙ losses_long pool.names pool.recovery in
    let v = c.loop-k.invariant in
    let last : c.search.j ≡ pool.tranches = omega arith in
    let all : c.loop-k.place ≡ suc pool.tranches * suc pool.names = omega (arith, v.0, long, ap (λ (j : ℕ). j * suc pool.names) last, next_tranche pool.tranches (suc pool.names)) in
    v.1 ∙ sym (over_none _ _ _ (rw all at v.2))
