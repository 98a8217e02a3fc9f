-- The counts over the next one are done, and those below it are as they came.
use Rattle.std.proofs.Common.{◌+◌, ◌*◌, ◌-◌, ◌≤◌, ◌≡◌, refl, ap, sym, ◌∙◌, le_trans, le_of_eq, arith, get_or}
use Rattle.cash.specs.Units.{B, half}
use Rattle.forward.proofs.Moves.{half_part, product_most, product_fits, moves, moves_is, moves_last, pushing_at, pushing_held, pushing_none, pushing_most, pushing_more, pushing_all}
use Rattle.forward.proofs.push.Goals as goal

pub loop-k-init : goal.loop-k-init
loop-k-init c = pushing_none _ _ _ _ c.requires.row_len (moves_last _ _) refl

pub overflow_mul-held : goal.overflow_mul-held
overflow_mul-held c =
    record { fits = product_fits _ _ (pushing_held _ _ _ _ _ c.loop-k.invariant (omega arith) c.requires.row_most) (c.requires.hazards_most _) }

pub half-moved-requires : goal.half-moved-requires
half-moved-requires c =
    product_most _ _ (pushing_held _ _ _ _ _ c.loop-k.invariant (omega arith) c.requires.row_most) (c.requires.hazards_most _)

pub overflow_add-row-in-loop-k : goal.overflow_add-row-in-loop-k
unfolding B
overflow_add-row-in-loop-k c =
    let a = c.args in
    let k = c.loop-k.k - 1 in
    let gone : c.half-moved.result ≤ get_or c.loop-k.row k 0 = le_trans (le_of_eq c.half-moved.ensures) (half_part _ _ (c.requires.hazards_most _)) in
    omega (
      arith,
      gone,
      pushing_held _ _ _ _ k c.loop-k.invariant (omega arith) c.requires.row_most,
      pushing_most _ a.row.now c.loop-k.row _ (k + 1) c.loop-k.invariant (omega arith) c.requires.row_most,
    )

pub overflow_sub-row : goal.overflow_sub-row
overflow_sub-row c = le_trans (le_of_eq c.half-moved.ensures) (half_part _ _ (c.requires.hazards_most _))

pub loop-k-preserved : goal.loop-k-preserved
loop-k-preserved c =
    let a = c.args in
    let k = c.loop-k.k - 1 in
    let right : c.half-moved.result ≡ moves a.hazards.now a.row.now k =
    c.half-moved.ensures
    ∙ ap (λ x. half (x * get_or a.hazards.now k 0)) (c.loop-k.invariant.below k (omega arith))
    ∙ sym (moves_is a.hazards.now a.row.now k) in
    pushing_more _ _ _ c.loop-k.k k _ c.loop-k.invariant (omega arith) (omega (arith, c.requires.row_len)) right

pub returns : goal.returns
returns c = pushing_all _ _ _ (pushing_at _ _ _ _ 0 c.loop-k.invariant (omega arith))
