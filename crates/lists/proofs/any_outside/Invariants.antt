-- The loop's invariant: what is left of the list has what the whole list has, and the blocks are as long as they are.
use Rattle.std.proofs.Common.{◌≡◌, length, get_or}
use Rattle.std.specs.Slice.Iter.{chunks_rest, chunks_size}
use Rattle.rows.specs.Tables.{any}
use Rattle.lists.specs.Outside.{outside}
use Rattle.lists.proofs.any_outside.Given as goal

abbrev pub invariant-loop-block : goal.invariant-loop-block
invariant-loop-block l =
    (goal.iterator-loop-block).can_next l.block-iterator × (goal.iterator-loop-block).is_finite l.block-iterator
    × (any (length l.list) (λ i. outside l.least l.most (get_or l.list i 0))
    ≡ any (length (chunks_rest l.block-iterator)) (λ i. outside l.least l.most (get_or (chunks_rest l.block-iterator) i 0)))
