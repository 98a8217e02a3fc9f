-- Which period holds a step, and the hazards that it goes by (T-06).
use Rattle.std.specs.Prelude.{ℕ, suc, pred, ◌+◌, ◌*◌, ◌≤◌, ◌<◌, cond, List, [], ◌∷◌, leb, length, get_or, take, drop}
use Rattle.sheet.specs.Terms.{Terms}

-- How many of the starts lie at or below step s.
unfoldable pub begun : List ℕ → ℕ → ℕ
begun [] s = 0
begun (a ∷ l) s = cond (leb a s) 1 0 + begun l s

-- The period that holds step s, counted from 0: the last that has begun.
unfoldable pub period_of : List ℕ → ℕ → ℕ
period_of starts s = pred (begun starts s)

-- Its hazards, by the count, among those of all periods, n a period.
unfoldable pub hazards_at : ℕ → List ℕ → List ℕ → ℕ → List ℕ
hazards_at names starts hazards s = take names (drop (period_of starts s * names) hazards)

abbrev pub hazards_into : Terms → ℕ → List ℕ
hazards_into x s = hazards_at x.names x.starts x.hazards s

-- That period of rising starts from 1 is the one that holds s: it has begun by s, and the next has not.
pub record PeriodHolds (starts : List ℕ) (s : ℕ) : Type 0 where
  pub there : period_of starts s < length starts
  pub begins : get_or starts (period_of starts s) 0 ≤ s
  pub ends : suc (period_of starts s) < length starts → s < get_or starts (suc (period_of starts s)) 0
