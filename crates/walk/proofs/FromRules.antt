-- The whole promise, of any engine whose single calls keep to their rules.
use Rattle.walk.specs.Engine.{Engine}
use Rattle.walk.specs.CallLists.{Run}
use Rattle.walk.specs.Promise.{Rules, Whole, blank_run, Demand3, Keeps}
use Rattle.walk.proofs.Accuracy.{owed}
use Rattle.walk.proofs.Liveness.{serves}
use Rattle.walk.proofs.Power.{power, clears}

pub lists : (e : Engine) → Rules e → (u : Run) → Whole e u
lists e rules u = record { owed = owed e rules u; serves = serves e rules u }

pub keeps : (e : Engine) → Rules e → Keeps e
keeps e rules = record { rules = rules; lists = lists e rules; power = power e rules; clears = clears e rules }

pub demand_3 : (e : Engine) → Rules e → Demand3 e
demand_3 e rules catalogue rows calls = lists e rules (blank_run catalogue rows calls)
