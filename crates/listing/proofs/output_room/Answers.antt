-- By the law of `replicate`: the list is too long to compute.
use Rattle.std.proofs.Common.{ℕ, sym}
use Rattle.std.proofs.lemmas.List.{length-replicate}
use Rattle.listing.proofs.output_room.Goals as goal

pub returns : goal.returns
returns c = sym (length-replicate {A = ℕ} 2097248 0)
