use Rattle.std.proofs.Common.{sym, ◌∙◌}
use Rattle.places.proofs.Partway.{says_refused}
use Rattle.places.proofs.serve.Goals as goal

pub returns-then-not-is_taken : goal.returns-then-not-is_taken
returns-then-not-is_taken c = says_refused _ _ _ (sym c.is_taken.ensures ∙ c.if-not-is_taken.true)
