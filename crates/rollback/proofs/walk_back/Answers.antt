-- The tables lent are the fronts of zeros, as long as the rows of the sheet.
use Rattle.std.proofs.Common.{rules}
use Rattle.rows.proofs.Lent.{zeros_front}
use Rattle.rollback.proofs.walk_back.Goals as goal

pub walk_with_tables-requires-clause-left_len : goal.walk_with_tables-requires-clause-left_len
walk_with_tables-requires-clause-left_len c = (search rules, zeros_front _ 1134)

pub walk_with_tables-requires-clause-earned_len : goal.walk_with_tables-requires-clause-earned_len
walk_with_tables-requires-clause-earned_len c = (search rules, zeros_front _ 1134)
