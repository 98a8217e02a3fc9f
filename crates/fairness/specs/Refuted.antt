-- Servers other than ours, nearly all by one fault, and that none keeps the promise of turns. Proved in proofs/Refuted.antt.
use Rattle.std.specs.Prelude.{ℕ, zero, suc, ◌+◌, ◌-◌, ◌≡◌, Bool, true, false, cond, not, ◌&&◌, ◌||◌, List, [], ◌∷◌, ◌++◌, map, eqb, leb, ltb, length, get_or, set, take, drop, replicate}
use Rattle.walk.specs.declared.Walk.{Walk}
use Rattle.places.specs.Places.{next_place, first_of, chosen, Stretch, rests, turn_then, one_off, turns_of, any_over, taken}
use Rattle.turns.specs.declared.Turn.{Turn}
use Rattle.turns.specs.Table.{steps_of, with_steps}
use Rattle.fairness.specs.Promise.{Result, Server, refuses, Fair, TakesOff, Keeps, ours}

-- A server by what it takes, the turns it gives, and what it shows of them.
abbrev pub serving : (List ℕ → ℕ → ℕ → Bool) → (List ℕ → ℕ → ℕ → Stretch) → (Stretch → List Turn → ℕ → List ℕ → Result) → Server
serving takes turns shows table place list =
    cond (takes (steps_of table) place (length list)) (shows (turns (steps_of table) place (length list)) table place list)
    (refuses 29 table place list)

abbrev pub written : Stretch → List Turn → ℕ → List ℕ → Result
written r table place list =
    record {
      number = 0;
      values = length r.places ∷ [];
      place = r.last;
      table = with_steps table r.left;
      list = r.places ++ drop (length r.places) list;
    }

-- ---- turns in another order

-- At most m turns, by a choice of the place and by what a turn takes off.
abbrev pub turns_by : (List ℕ → ℕ → ℕ) → (List ℕ → ℕ → List ℕ) → List ℕ → ℕ → ℕ → Stretch
turns_by choose off left last zero = rests left last
turns_by choose off left last (suc m) =
    cond (ltb (choose left last) (length left))
    (turn_then (choose left last) (turns_by choose off (off left (choose left last)) (choose left last) m)) (rests left last)

abbrev pub choosing : (List ℕ → ℕ → ℕ) → Server
choosing choose = serving taken (turns_by choose one_off) written

-- Every turn from place 0 on.
abbrev pub lowest_first : Server
lowest_first = choosing (λ left last. first_of left (length left - 1) (length left))

-- Every call from place 0 on.
abbrev pub starts_at_zero : Server
starts_at_zero = serving taken (λ left place m. turns_of left (length left - 1) m) written

-- The place with most steps left among the first k, the lowest of equals.
abbrev pub longest_of : List ℕ → ℕ → ℕ
longest_of left zero = 0
longest_of left (suc k) = cond (ltb (get_or left (longest_of left k) 0) (get_or left k 0)) k (longest_of left k)

abbrev pub longest_first : Server
longest_first =
    choosing (λ left last. cond (eqb (get_or left (longest_of left (length left)) 0) 0) (length left) (longest_of left (length left)))

-- The place after the next.
abbrev pub skips_a_place : Server
skips_a_place = choosing (λ left last. first_of left (next_place (length left) last) (length left))

-- The place before p, in cyclic order.
abbrev pub place_before : ℕ → ℕ → ℕ
place_before n zero = n - 1
place_before n (suc p) = p

-- From the place itself on, and not after it.
abbrev pub from_itself : Server
from_itself = choosing (λ left last. first_of left (place_before (length left) last) (length left))

-- In the other direction.
abbrev pub first_before : List ℕ → ℕ → ℕ → ℕ
first_before left p zero = length left
first_before left p (suc k) =
    cond (ltb 0 (get_or left (place_before (length left) p) 0)) (place_before (length left) p) (first_before left (place_before (length left) p) k)

abbrev pub downwards : Server
downwards = choosing (λ left last. first_before left last (length left))

-- A walk's last step only where no walk has two.
abbrev pub last_steps_wait : Server
last_steps_wait =
    choosing (λ left last.
    let more = first_of (map (λ (x : ℕ). x - 1) left) last (length left) in cond (ltb more (length left)) more (chosen left last))

-- The next place or none.
abbrev pub next_alone : Server
next_alone = choosing (λ left last. first_of left last 1)

-- Not round to the place served last itself.
abbrev pub not_round : Server
not_round = choosing (λ left last. first_of left last (length left - 1))

-- ---- other steps off

abbrev pub taking_off : (List ℕ → ℕ → List ℕ) → Server
taking_off off = serving taken (turns_by chosen off) written

abbrev pub none_off : Server
none_off = taking_off (λ left p. left)

abbrev pub two_off : Server
two_off = taking_off (λ left p. set left p (get_or left p 0 - 2))

abbrev pub off_the_next : Server
off_the_next = taking_off (λ left p. one_off left (next_place (length left) p))

abbrev pub all_off : Server
all_off = taking_off (λ left p. set left p 0)

-- ---- more turns or fewer

abbrev pub so_many : (List ℕ → ℕ → ℕ) → Server
so_many many = serving taken (λ left place m. turns_of left place (many left m)) written

abbrev pub once_round : Server
once_round = so_many (λ left m. cond (ltb (length left) m) (length left) m)

abbrev pub one_short : Server
one_short = so_many (λ left m. m - 1)

-- ---- other figures of the same turns

abbrev pub showing : (Stretch → List Turn → ℕ → List ℕ → Result) → Server
showing shows = serving taken turns_of shows

abbrev pub with_place : (Stretch → ℕ → ℕ) → Server
with_place which =
    showing (λ r table place list. record {
      number = 0;
      values = length r.places ∷ [];
      place = which r place;
      table = with_steps table r.left;
      list = r.places ++ drop (length r.places) list;
    })

-- The place served last is 0 where none was served.
abbrev pub place_not_kept : Server
place_not_kept = with_place (λ r place. cond (eqb (length r.places) 0) 0 r.last)

abbrev pub place_stays : Server
place_stays = with_place (λ r place. place)

abbrev pub first_served : Server
first_served = with_place (λ r place. get_or r.places 0 place)

abbrev pub one_place_on : Server
one_place_on = with_place (λ r place. r.last + 1)

abbrev pub with_figures : (Stretch → List ℕ → ℕ) → (Stretch → List ℕ → List ℕ) → Server
with_figures number values =
    showing (λ r table place list. record {
      number = number r list;
      values = values r list;
      place = r.last;
      table = with_steps table r.left;
      list = r.places ++ drop (length r.places) list;
    })

abbrev pub no_number : Stretch → List ℕ → ℕ
no_number r list = 0

-- The whole list counts, what stood there before too.
abbrev pub stale_counted : Server
stale_counted = with_figures no_number (λ r list. length list ∷ [])

abbrev pub one_more_counted : Server
one_more_counted = with_figures no_number (λ r list. suc (length r.places) ∷ [])

abbrev pub not_counted : Server
not_counted = with_figures no_number (λ r list. [])

abbrev pub place_told : Server
place_told = with_figures no_number (λ r list. r.last ∷ [])

-- The count in place of the number, as if 29 places written were a refusal.
abbrev pub count_as_number : Server
count_as_number = with_figures (λ r list. length r.places) (λ r list. length r.places ∷ [])

-- Refused where no walk has steps left, or where the list is empty.
abbrev pub none_refuses : Server
none_refuses = with_figures (λ r list. cond (eqb (length r.places) 0) 29 0) (λ r list. length r.places ∷ [])

abbrev pub with_list : (Stretch → List ℕ → List ℕ) → Server
with_list leaves =
    showing (λ r table place list. record {
      number = 0;
      values = length r.places ∷ [];
      place = r.last;
      table = with_steps table r.left;
      list = leaves r list;
    })

abbrev pub rest_zeroed : Server
rest_zeroed = with_list (λ r list. r.places ++ replicate (length list - length r.places) 0)

-- The rest is filled with the place served last.
abbrev pub rest_filled : Server
rest_filled = with_list (λ r list. r.places ++ replicate (length list - length r.places) r.last)

abbrev pub from_one : Server
from_one = with_list (λ r list. map suc r.places ++ drop (length r.places) list)

abbrev pub not_written : Server
not_written = with_list (λ r list. list)

abbrev pub at_the_end : Server
at_the_end = with_list (λ r list. take (length list - length r.places) list ++ r.places)

abbrev pub list_cut : Server
list_cut = with_list (λ r list. r.places)

abbrev pub with_table : (Stretch → List Turn → List Turn) → Server
with_table leaves =
    showing (λ r table place list. record {
      number = 0;
      values = length r.places ∷ [];
      place = r.last;
      table = leaves r table;
      list = r.places ++ drop (length r.places) list;
    })

-- The table as it was, though steps were given.
abbrev pub table_as_it_was : Server
table_as_it_was = with_table (λ r table. table)

-- Each record with another walk.
abbrev pub with_walks : (Walk → Walk) → List Turn → List Turn
with_walks other table = map (λ (t : Turn). record { walk = other t.walk; left = t.left }) table

abbrev pub walked_too : Server
walked_too =
    with_table (λ r table. with_walks (λ w. record { «open» = w.«open»; number = w.number; position = w.position - 1 }) (with_steps table r.left))

abbrev pub walks_closed : Server
walks_closed =
    with_table (λ r table. with_walks (λ w. record { «open» = false; number = w.number; position = w.position }) (with_steps table r.left))

abbrev pub numbers_lost : Server
numbers_lost =
    with_table (λ r table. with_walks (λ w. record { «open» = w.«open»; number = 0; position = w.position }) (with_steps table r.left))

-- The first walk is gone from the table.
abbrev pub table_cut : Server
table_cut = with_table (λ r table. drop 1 (with_steps table r.left))

-- Only walks that are open get turns.
abbrev pub open_steps : List Turn → List ℕ
open_steps table = map (λ (t : Turn). cond t.walk.«open» t.left 0) table

-- The steps left of the others keep.
abbrev pub open_left : List Turn → List ℕ → List ℕ
open_left [] left = []
open_left (t ∷ table) [] = []
open_left (t ∷ table) (x ∷ left) = cond t.walk.«open» x t.left ∷ open_left table left

abbrev pub open_alone : Server
open_alone table place list =
    let r = turns_of (open_steps table) place (length list) in
    cond (taken (steps_of table) place (length list))
    (written (record { places = r.places; left = open_left table r.left; last = r.last }) table place list)
    (refuses 29 table place list)

-- A table with a walk that is not open is refused.
abbrev pub all_open : List Turn → Bool
all_open [] = true
all_open (t ∷ table) = t.walk.«open» && all_open table

abbrev pub shut_refused : Server
shut_refused table place list = cond (all_open table) (ours table place list) (refuses 29 table place list)

-- ---- other checks

abbrev pub taking_by : (List ℕ → ℕ → ℕ → Bool) → Server
taking_by takes = serving takes turns_of written

-- The checks of ours, with other limits.
abbrev pub limited_to : ℕ → ℕ → ℕ → ℕ → List ℕ → ℕ → ℕ → Bool
limited_to least most steps room left place many =
    leb least (length left) && (leb (length left) most && (ltb place (length left) && (not (any_over left steps) && leb many room)))

abbrev pub fifteen_most : Server
fifteen_most = taking_by (limited_to 1 15 3650 65535)

abbrev pub seventeen_taken : Server
seventeen_taken = taking_by (limited_to 1 17 3650 65535)

abbrev pub one_walk_refused : Server
one_walk_refused = taking_by (limited_to 2 16 3650 65535)

abbrev pub steps_limit_less : Server
steps_limit_less = taking_by (limited_to 1 16 3649 65535)

abbrev pub steps_limit_more : Server
steps_limit_more = taking_by (limited_to 1 16 3651 65535)

abbrev pub shorter_list_taken : Server
shorter_list_taken = taking_by (limited_to 1 16 3650 65534)

abbrev pub longer_list_taken : Server
longer_list_taken = taking_by (limited_to 1 16 3650 65536)

abbrev pub empty_taken : Server
empty_taken = taking_by (λ left place many. eqb (length left) 0 && eqb many 0 && eqb place 0 || taken left place many)

-- A place just behind the table.
abbrev pub place_behind_taken : Server
place_behind_taken =
    taking_by (λ left place many. leb 1 (length left) &&
    (leb (length left) 16 && (leb place (length left) && (not (any_over left 3650) && leb many 65535))))

abbrev pub last_place_refused : Server
last_place_refused = taking_by (λ left place many. ltb (place + 1) (length left) && taken left place many)

abbrev pub empty_list_refused : Server
empty_list_refused = taking_by (λ left place many. ltb 0 many && taken left place many)

abbrev pub all_refused : Server
all_refused = taking_by (λ left place many. false)

abbrev pub none_refused : Server
none_refused = taking_by (λ left place many. true)

-- What a refused call shows in place of what was lent.
abbrev pub refused_as : (List Turn → ℕ → List ℕ → Result) → Server
refused_as shows table place list = cond (taken (steps_of table) place (length list)) (ours table place list) (shows table place list)

abbrev pub refused_with_2 : Server
refused_with_2 = refused_as (λ table place list. refuses 2 table place list)

abbrev pub refused_tells : Server
refused_tells = refused_as (λ table place list. record { number = 29; values = 0 ∷ []; place = place; table = table; list = list })

abbrev pub refused_moves : Server
refused_moves = refused_as (λ table place list. refuses 29 table 0 list)

abbrev pub refused_writes : Server
refused_writes = refused_as (λ table place list. refuses 29 table place (map (λ (x : ℕ). 0) list))

abbrev pub refused_takes_off : Server
refused_takes_off = refused_as (λ table place list. refuses 29 (with_steps table (one_off (steps_of table) 0)) place list)

-- ---- none keeps the promise

pub record NoneKeeps : Type 0 where
  pub lowest_first : Keeps lowest_first → ⊥
  pub starts_at_zero : Keeps starts_at_zero → ⊥
  pub longest_first : Keeps longest_first → ⊥
  pub skips_a_place : Keeps skips_a_place → ⊥
  pub from_itself : Keeps from_itself → ⊥
  pub downwards : Keeps downwards → ⊥
  pub last_steps_wait : Keeps last_steps_wait → ⊥
  pub next_alone : Keeps next_alone → ⊥
  pub not_round : Keeps not_round → ⊥
  pub none_off : Keeps none_off → ⊥
  pub two_off : Keeps two_off → ⊥
  pub off_the_next : Keeps off_the_next → ⊥
  pub all_off : Keeps all_off → ⊥
  pub once_round : Keeps once_round → ⊥
  pub one_short : Keeps one_short → ⊥
  pub place_not_kept : Keeps place_not_kept → ⊥
  pub place_stays : Keeps place_stays → ⊥
  pub first_served : Keeps first_served → ⊥
  pub one_place_on : Keeps one_place_on → ⊥
  pub stale_counted : Keeps stale_counted → ⊥
  pub one_more_counted : Keeps one_more_counted → ⊥
  pub not_counted : Keeps not_counted → ⊥
  pub place_told : Keeps place_told → ⊥
  pub count_as_number : Keeps count_as_number → ⊥
  pub none_refuses : Keeps none_refuses → ⊥
  pub rest_zeroed : Keeps rest_zeroed → ⊥
  pub rest_filled : Keeps rest_filled → ⊥
  pub from_one : Keeps from_one → ⊥
  pub not_written_lem : Keeps not_written → ⊥
  pub at_the_end : Keeps at_the_end → ⊥
  pub list_cut : Keeps list_cut → ⊥
  pub table_as_it_was : Keeps table_as_it_was → ⊥
  pub walked_too : Keeps walked_too → ⊥
  pub walks_closed : Keeps walks_closed → ⊥
  pub numbers_lost : Keeps numbers_lost → ⊥
  pub table_cut : Keeps table_cut → ⊥
  pub open_alone : Keeps open_alone → ⊥
  pub shut_refused : Keeps shut_refused → ⊥
  pub fifteen_most : Keeps fifteen_most → ⊥
  pub seventeen_taken : Keeps seventeen_taken → ⊥
  pub one_walk_refused : Keeps one_walk_refused → ⊥
  pub steps_limit_less : Keeps steps_limit_less → ⊥
  pub steps_limit_more : Keeps steps_limit_more → ⊥
  pub shorter_list_taken : Keeps shorter_list_taken → ⊥
  pub longer_list_taken : Keeps longer_list_taken → ⊥
  pub empty_taken : Keeps empty_taken → ⊥
  pub place_behind_taken : Keeps place_behind_taken → ⊥
  pub last_place_refused : Keeps last_place_refused → ⊥
  pub empty_list_refused : Keeps empty_list_refused → ⊥
  pub all_refused : Keeps all_refused → ⊥
  pub none_refused : Keeps none_refused → ⊥
  pub refused_with_2 : Keeps refused_with_2 → ⊥
  pub refused_tells : Keeps refused_tells → ⊥
  pub refused_moves : Keeps refused_moves → ⊥
  pub refused_writes : Keeps refused_writes → ⊥
  pub refused_takes_off : Keeps refused_takes_off → ⊥

-- Fairness alone refuses these: within one call, over calls that each start anew, with a refused call or an empty list in between, with walks that
-- are shut in between, and with a walk that has one step left.
pub record NoneFair : Type 0 where
  pub lowest_first : Fair lowest_first → ⊥
  pub starts_at_zero : Fair starts_at_zero → ⊥
  pub longest_first : Fair longest_first → ⊥
  pub skips_a_place : Fair skips_a_place → ⊥
  pub from_itself : Fair from_itself → ⊥
  pub refused_moves : Fair refused_moves → ⊥
  pub place_not_kept : Fair place_not_kept → ⊥
  pub open_alone : Fair open_alone → ⊥
  pub last_steps_wait : Fair last_steps_wait → ⊥

-- And that each turn takes a step off, these.
pub record NoneTakesOff : Type 0 where
  pub none_off : TakesOff none_off → ⊥
  pub two_off : TakesOff two_off → ⊥
  pub off_the_next : TakesOff off_the_next → ⊥
  pub all_off : TakesOff all_off → ⊥
  pub table_as_it_was : TakesOff table_as_it_was → ⊥

-- Where nothing is changed, each family is ours, which keeps the promise: so it is the fault that is refused.
pub record Unchanged : Type 0 where
  pub kept : Keeps ours
  pub all : serving taken turns_of written ≡ ours
  pub choice : choosing chosen ≡ ours
  pub step : taking_off one_off ≡ ours
  pub many : so_many (λ left m. m) ≡ ours
  pub place : with_place (λ r place. r.last) ≡ ours
  pub figures : with_figures no_number (λ r list. length r.places ∷ []) ≡ ours
  pub list : with_list (λ r list. r.places ++ drop (length r.places) list) ≡ ours
  pub table : with_table (λ r table. with_steps table r.left) ≡ ours
  pub walks : with_table (λ r table. with_walks (λ w. w) (with_steps table r.left)) ≡ ours
  pub limits : taking_by (limited_to 1 16 3650 65535) ≡ ours
  pub refusal : refused_as (λ table place list. refuses 29 table place list) ≡ ours
