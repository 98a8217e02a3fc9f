-- A list that does not rise falls somewhere.
use Rattle.std.proofs.Common.{rules, tests, ltb}
use Rattle.std.proofs.lemmas.List.Sorted.{answers_always}
use Rattle.lists.proofs.Loops.{any_fallen}
use Rattle.lists.proofs.any_fall.Goals as goal

pub returns : goal.returns
returns c =
    any_fallen c.args.list.now c.is_sorted_by.result
    (c.is_sorted_by.ensures.cases ltb (answers_always _ _ _ (λ f pair r after k. search (rules, tests))))
