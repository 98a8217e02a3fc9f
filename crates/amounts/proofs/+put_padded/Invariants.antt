-- The digits that are left fall with each call.
use Rattle.amounts.proofs.+put_padded.Given as goal

abbrev pub decreases-put_padded : goal.decreases-put_padded
decreases-put_padded l = l.digits
