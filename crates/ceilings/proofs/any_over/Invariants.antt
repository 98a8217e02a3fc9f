-- Nothing is found yet, and at no place before `place` is a leg over its ceiling.
use Rattle.std.proofs.Common.{suc, ◌+◌, ◌*◌, ◌≡◌, false}
use Rattle.sheet.specs.Terms.{bare}
use Rattle.ceilings.proofs.Found.{Clean, over_at}
use Rattle.ceilings.proofs.any_over.Given as goal

abbrev pub invariant-loop-k : goal.invariant-loop-k
invariant-loop-k l =
    (l.place ≡ l.j * suc l.pool.names + l.k) × (l.found ≡ false) × Clean (suc l.pool.names) (over_at (bare l.pool l.attachments) l.most l.defaults l.premiums) l.place

abbrev pub invariant-search : goal.invariant-search
invariant-search l =
    (l.place ≡ l.j * suc l.pool.names) × (l.found ≡ false) × Clean (suc l.pool.names) (over_at (bare l.pool l.attachments) l.most l.defaults l.premiums) l.place
