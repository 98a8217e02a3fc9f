-- What the promise of turns comes to, of any server that keeps it. Proved in proofs/Meant.antt from all that `Keeps` says.
use Rattle.std.specs.Prelude.{ℕ, suc, ◌≤◌, ◌<◌, ◌≡◌, ◌≢◌, List, [], ◌∷◌, ◌++◌, map, length, get_or, drop}
use Rattle.walk.specs.declared.Walk.{Walk}
use Rattle.rounds.specs.Rounds.{turns_at}
use Rattle.turns.specs.declared.Turn.{Turn}
use Rattle.turns.specs.Table.{steps_of}
use Rattle.fairness.specs.Promise.{Result, Server, Taken, Call, named, left_by, HasLeft}

abbrev pub walks_of : List Turn → List Walk
walks_of table = map (λ (t : Turn). t.walk) table

-- How many places a call tells.
abbrev pub count_in : Result → ℕ
count_in o = get_or o.values 0 0

pub record Meant (f : Server) : Type 0 where
  -- Between any two turns of a walk, every other walk that has steps left to the end of that while gets one more than the walk itself.
  pub shares : (left : List ℕ) (place : ℕ) (calls : List Call) (before between after : List ℕ) (p q : ℕ) →
      named f left place calls ≡ before ++ (p ∷ (between ++ (p ∷ after))) → q ≢ p → HasLeft left (before ++ (p ∷ between)) q →
      turns_at q between ≡ suc (turns_at p between)
  -- Nor need it keep them: a walk that has steps left where another has a turn gets exactly one before that has its next.
  pub soon : (left : List ℕ) (place : ℕ) (calls : List Call) (before between after : List ℕ) (p q : ℕ) →
      named f left place calls ≡ before ++ (p ∷ (between ++ (p ∷ after))) → turns_at p between ≡ 0 → q ≢ p → HasLeft left before q →
      turns_at q between ≡ 1
  -- So a walk has two turns in a row only where no other has steps left.
  pub alone : (left : List ℕ) (place : ℕ) (calls : List Call) (before after : List ℕ) (p q : ℕ) →
      named f left place calls ≡ before ++ (p ∷ (p ∷ after)) → q ≢ p → ¬ (HasLeft left (before ++ (p ∷ [])) q)
  -- No walk has more turns than steps, and all of them where none is left.
  pub never_more : (left : List ℕ) (place : ℕ) (calls : List Call) (q : ℕ) → turns_at q (named f left place calls) ≤ get_or left q 0
  pub all_served : (left : List ℕ) (place : ℕ) (calls : List Call) → ((q : ℕ) → get_or (left_by f left place calls) q 0 ≡ 0) →
      (q : ℕ) → turns_at q (named f left place calls) ≡ get_or left q 0
  -- Of one call, accepted or refused: the walks keep, and the list behind the places that are told; a place in the table stays one.
  pub walks_keep : (table : List Turn) (place : ℕ) (list : List ℕ) → walks_of (f table place list).table ≡ walks_of table
  pub rest_keeps : (table : List Turn) (place : ℕ) (list : List ℕ) →
      drop (count_in (f table place list)) (f table place list).list ≡ drop (count_in (f table place list)) list
  pub long_as_lent : (table : List Turn) (place : ℕ) (list : List ℕ) → length (f table place list).list ≡ length list
  pub place_inside : (table : List Turn) (place : ℕ) (list : List ℕ) → place < length table → (f table place list).place < length table
  -- Where a taken call with room for one writes none, no walk has steps left, and table, list and place are as they were.
  pub none_left : (table : List Turn) (place : ℕ) (list : List ℕ) → Taken table place list → 0 < length list → count_in (f table place list) ≡ 0 →
      ((q : ℕ) → get_or (steps_of table) q 0 ≡ 0)
      × (f table place list ≡ record { number = 0; values = 0 ∷ []; place = place; table = table; list = list })
