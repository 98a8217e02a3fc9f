-- Turns among walks (T-11): what a call does to the steps left, to the place served last and to the lent list.
-- The steps left are a list of numbers, one a walk; places are counted from 0.
use Rattle.std.specs.Prelude.{Bool, false, cond, List, [], ◌∷◌, ◌++◌, ℕ, zero, suc, ◌+◌, ◌-◌, length, get_or, set, take, drop, ltb, leb, Option, Some, None, Result, Ok, Err}
use Rattle.std.specs.List.{list_any}
use Rattle.places.specs.declared.Served.{Served}
use Rattle.places.specs.declared.NotTaken.{NotTaken}

-- ---- whose turn it is

-- The place after p in a table of n, in cyclic order.
unfoldable pub next_place : ℕ → ℕ → ℕ
next_place n p = cond (ltb (p + 1) n) (p + 1) 0

-- Of the k places after p, in cyclic order, the first whose walk has steps left; the table's length where there is none.
unfoldable pub first_of : List ℕ → ℕ → ℕ → ℕ
first_of left p zero = length left
first_of left p (suc k) =
    cond (ltb 0 (get_or left (next_place (length left) p) 0)) (next_place (length left) p) (first_of left (next_place (length left) p) k)

-- Once round the table, and so the place served last comes last.
unfoldable pub chosen : List ℕ → ℕ → ℕ
chosen left last = first_of left last (length left)

-- That place, if there is one.
abbrev pub choice : List ℕ → ℕ → Option ℕ
choice left last = cond (ltb (chosen left last) (length left)) (Some (chosen left last)) None

-- ---- at most m turns

-- A stretch of turns: the places served in their order, the steps left after them, and the place served last.
pub record Stretch : Type 0 where
  pub places : List ℕ
  pub left : List ℕ
  pub last : ℕ

abbrev pub rests : List ℕ → ℕ → Stretch
rests left last = record { places = []; left = left; last = last }

abbrev pub turn_then : ℕ → Stretch → Stretch
turn_then p r = record { places = p ∷ r.places; left = r.left; last = r.last }

-- One step taken off.
abbrev pub one_off : List ℕ → ℕ → List ℕ
one_off left p = set left p (get_or left p 0 - 1)

-- Until m are served or no walk has steps left.
unfoldable pub turns_of : List ℕ → ℕ → ℕ → Stretch
turns_of left last zero = rests left last
turns_of left last (suc m) =
    cond (ltb (chosen left last) (length left)) (turn_then (chosen left last) (turns_of (one_off left (chosen left last)) (chosen left last) m))
    (rests left last)

-- ---- the call

unfoldable pub any_over : List ℕ → ℕ → Bool
any_over list most = list_any (λ x. ltb most x) list

-- What 29 leaves: a table that is neither empty nor longer than 16, a place in it, no steps left above 3,650, a list of at most 65,535.
unfoldable pub taken : List ℕ → ℕ → ℕ → Bool
taken left place room =
    cond (ltb (length left) 1) false (cond (ltb 16 (length left)) false
    (cond (leb (length left) place) false (cond (any_over left 3650) false (leb room 65535))))

-- What a call answers, and the steps left and the list that it leaves.
pub record Outcome : Type 0 where
  pub answer : Result Served NotTaken
  pub left : List ℕ
  pub list : List ℕ

abbrev pub as_lent : List ℕ → List ℕ → Outcome
as_lent left list = record { answer = Err (record {}); left = left; list = list }

abbrev pub fills : List ℕ → Stretch → Outcome
fills list r =
    record {
      answer = Ok (record { count = length r.places; last = r.last });
      left = r.left;
      list = r.places ++ drop (length r.places) list;
    }

unfoldable pub served : List ℕ → ℕ → List ℕ → Outcome
served left place list = cond (taken left place (length list)) (fills list (turns_of left place (length list))) (as_lent left list)

-- ---- the answer's figures

-- The number of an answer, 0 if accepted, and how many places were written: none is told if refused.
abbrev pub turned_number : Result Served NotTaken → ℕ
turned_number (Ok turns) = 0
turned_number (Err refused) = 29

abbrev pub turned_values : Result Served NotTaken → List ℕ
turned_values (Ok turns) = turns.count ∷ []
turned_values (Err refused) = []

-- The place served last, after a call at a place: a refusal hands it back.
abbrev pub place_after : ℕ → Result Served NotTaken → ℕ
place_after place (Ok turns) = turns.last
place_after place (Err refused) = place

-- ---- among sixteen numbers

-- A table of n walks whose steps left stand first.
abbrev pub among_first : ℕ → List ℕ → Outcome → Outcome
among_first n left o = record { answer = o.answer; left = o.left ++ drop n left; list = o.list }

unfoldable pub served_first : List ℕ → ℕ → ℕ → List ℕ → Outcome
served_first left n place list = cond (ltb 16 n) (as_lent left list) (among_first n left (served (take n left) place list))

abbrev pub shown_of : ℕ → ℕ
shown_of n = cond (ltb 16 n) 16 n

abbrev pub stored_of : Result Served NotTaken → ℕ → ℕ
stored_of (Ok turns) n = n
stored_of (Err refused) n = 0
