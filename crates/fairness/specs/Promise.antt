-- The promise of turns among walks (T-11), of any function in the place of the call: `Keeps`.
-- A walk stands at a place of the table, counted from 0. What the table holds of it is its walk record and its steps left.
use Rattle.std.specs.Prelude.{ℕ, suc, ◌+◌, ◌≤◌, ◌<◌, ◌≡◌, ◌≢◌, List, [], ◌∷◌, ◌++◌, length, get_or, take, drop}
use Rattle.walk.specs.declared.Walk.{Walk}
use Rattle.places.specs.Places.{one_off, turned_number, turned_values, place_after}
use Rattle.rounds.specs.Rounds.{ahead, turns_at}
use Rattle.turns.specs.declared.Turn.{Turn}
use Rattle.turns.specs.Table.{steps_of, with_steps}
use Rattle.turns.specs.Turns.{Leaves, turned}

-- What the call gives back: 0 and how many places it wrote, or a refusal's number alone; the place served last; the table and the list that it
-- leaves.
pub record Result : Type 0 where
  pub number : ℕ
  pub values : List ℕ
  pub place : ℕ
  pub table : List Turn
  pub list : List ℕ

-- A function of the table, the place served last and the list lent.
abbrev pub Server : Type 0
Server = List Turn → ℕ → List ℕ → Result

-- ---- one call

-- What is not refused with 29, turns: a table of 1 to 16 walks, a place in it, no steps left above 3,650, a list of at most 65,535.
pub record Taken (table : List Turn) (place : ℕ) (list : List ℕ) : Type 0 where
  pub some : 1 ≤ length table
  pub few : length table ≤ 16
  pub inside : place < length table
  pub steps : (p : ℕ) → get_or (steps_of table) p 0 ≤ 3650
  pub short : length list ≤ 65535

-- The turn after that of the place served last: no walk with steps left comes sooner, in cyclic order after that place.
pub record IsNext (left : List ℕ) (last p : ℕ) : Type 0 where
  pub inside : p < length left
  pub some : 0 < get_or left p 0
  pub soonest : (q : ℕ) → q < length left → 0 < get_or left q 0 → ahead (length left) last p ≤ ahead (length left) last q

-- Turns one after another, each taking one step off; and the steps left and the place served last behind them.
abbrev pub InTurn : List ℕ → ℕ → List ℕ → List ℕ → ℕ → Type 0
InTurn left last [] left₁ last₁ = (left₁ ≡ left) × (last₁ ≡ last)
InTurn left last (p ∷ places) left₁ last₁ = IsNext left last p × InTurn (one_off left p) p places left₁ last₁

-- Such turns are told and written at the start of the list until it is full or no walk has steps left; the walks and the rest of the list keep.
pub record Serves (table : List Turn) (place : ℕ) (list : List ℕ) (o : Result) : Type 0 where
  pub places : List ℕ
  pub left : List ℕ
  pub last : ℕ
  pub in_turn : InTurn (steps_of table) place places left last
  pub room : length places ≤ length list
  pub until : length places < length list → (q : ℕ) → get_or left q 0 ≡ 0
  pub is : o ≡ record {
    number = 0;
    values = length places ∷ [];
    place = last;
    table = with_steps table left;
    list = places ++ drop (length places) list;
  }

-- A refusal leaves all as it was.
abbrev pub refuses : ℕ → List Turn → ℕ → List ℕ → Result
refuses number table place list = record { number = number; values = []; place = place; table = table; list = list }

pub record TurnsRule (table : List Turn) (place : ℕ) (list : List ℕ) (o : Result) : Type 0 where
  pub not_taken : ¬ (Taken table place list) → o ≡ refuses 29 table place list
  pub accepted : Taken table place list → Serves table place list o

-- ---- lists of calls on one table

-- Between two calls nothing writes the steps left and the place; the walks may have been walked. So a call has the walk at each place, and its list.
pub record Call : Type 0 where
  pub walks : ℕ → Walk
  pub list : List ℕ

abbrev pub table_of : (ℕ → Walk) → List ℕ → List Turn
table_of walks [] = []
table_of walks (x ∷ left) = record { walk = walks 0; left = x } ∷ table_of (λ p. walks (suc p)) left

-- The places that a call named: as many as it tells, at the start of its list.
abbrev pub named_in : Result → List ℕ
named_in o = take (get_or o.values 0 0) o.list

abbrev pub called_on : Server → List ℕ → ℕ → Call → Result
called_on f left place c = f (table_of c.walks left) place c.list

-- All the turns of the calls, one call after another.
abbrev pub named : Server → List ℕ → ℕ → List Call → List ℕ
named f left place [] = []
named f left place (c ∷ calls) =
    named_in (called_on f left place c) ++ named f (steps_of (called_on f left place c).table) (called_on f left place c).place calls

-- The steps left after the calls.
abbrev pub left_by : Server → List ℕ → ℕ → List Call → List ℕ
left_by f left place [] = left
left_by f left place (c ∷ calls) = left_by f (steps_of (called_on f left place c).table) (called_on f left place c).place calls

-- After these turns the walk at place q has steps left: it had more than it has been given.
abbrev pub HasLeft : List ℕ → List ℕ → ℕ → Type 0
HasLeft left turns q = turns_at q turns < get_or left q 0

-- Where the walk at p has a turn and then its next, another walk that never ran out of steps from the one to the other has one turn in between,
-- no more and no less: `before` are the turns up to the first of the two, `between` those up to the second.
abbrev pub Fair : Server → Type 0
Fair f =
    (left : List ℕ) (place : ℕ) (calls : List Call) (before between after : List ℕ) (p q : ℕ) →
    named f left place calls ≡ before ++ (p ∷ (between ++ (p ∷ after))) → turns_at p between ≡ 0 → q ≢ p →
    ((some rest : List ℕ) → between ≡ some ++ rest → HasLeft left (before ++ (p ∷ some)) q) → turns_at q between ≡ 1

-- Each turn takes one step off its walk, and nothing else does.
abbrev pub TakesOff : Server → Type 0
TakesOff f =
    (left : List ℕ) (place : ℕ) (calls : List Call) (q : ℕ) →
    get_or (left_by f left place calls) q 0 + turns_at q (named f left place calls) ≡ get_or left q 0

-- ---- the whole promise

pub record Keeps (f : Server) : Type 0 where
  pub rule : (table : List Turn) (place : ℕ) (list : List ℕ) → TurnsRule table place list (f table place list)
  pub takes_off : TakesOff f
  pub fair : Fair f

-- ---- ours

abbrev pub result_of : ℕ → Leaves → Result
result_of place o =
    record {
      number = turned_number o.answer;
      values = turned_values o.answer;
      place = place_after place o.answer;
      table = o.table;
      list = o.list;
    }

-- What the contract of `turns::serve` says.
abbrev pub ours : Server
ours table place list = result_of place (turned table place list)
