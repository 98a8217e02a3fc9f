-- The promise, kept: what specs/Promise states of any engine holds of ours, and of no other.
use Rattle.std.proofs.Common.{◌≡◌}
use Rattle.walk.specs.Engine.{Engine}
use Rattle.walk.specs.OurEngine.{ours}
use Rattle.walk.specs.Promise.{Demand3, Keeps}
use Rattle.walk.specs.Risk.{NeverNegative}
use Rattle.walk.proofs.OurRules.{ours_rules}
use Rattle.walk.proofs.FromRules.{keeps, demand_3}
use Rattle.walk.proofs.Uniqueness.{only_one}
use Rattle.walk.proofs.Risk.{never_negative}

-- The whole promise: the rules of the calls, demands 1 and 3 of every list, the power cuts, and what a write clears.
pub ours_keeps : Keeps ours
ours_keeps = keeps ours ours_rules

-- Demand 3 as document 01 words it: every list from a blank register, a fresh walk and any rows.
pub ours_demand_3 : Demand3 ours
ours_demand_3 = demand_3 ours ours_rules

-- No other engine keeps the promise.
pub ours_alone : (e : Engine) → Keeps e → e ≡ ours
ours_alone e k = only_one e k.rules

-- What risk staff may rely on.
pub ours_never_negative : NeverNegative ours
ours_never_negative = never_negative ours ours_rules
