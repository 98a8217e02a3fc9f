-- No wrong server keeps the promise: each tells or leaves something else than ours at the call named.
use Rattle.std.proofs.Common.{ℕ, zero, suc, ◌<◌, ◌≡◌, refl, sym, ap, ◌∙◌, ◌≢◌, Bool, true, false, cond, List, [], ◌∷◌, ◌++◌, arith, ltb, lt-ltb}
use Rattle.std.proofs.Common.{le-ltb, le-leb, length, get_or, replicate}
use borrow.Author.Tests.{lt-leb}
use Rattle.walk.specs.declared.Walk.{Walk}
use Rattle.places.specs.Places.{next_place, first_of, chosen, Stretch, rests, turn_then, one_off, turns_of, any_over, taken, served}
use Rattle.places.proofs.Laws.{taken_empty, taken_long, taken_outside, taken_over, taken_room}
use Rattle.rounds.specs.Rounds.{turns_at}
use Rattle.rounds.proofs.Cycle.{Cmp, below, above, cmp}
use Rattle.turns.specs.declared.Turn.{Turn}
use Rattle.turns.specs.Table.{steps_of, with_steps, fresh}
use Rattle.fairness.specs.Promise.{Result, Server, refuses, Call, table_of, named, HasLeft, Fair, Keeps, ours}
use Rattle.fairness.specs.Refuted.{all_off, all_refused, at_the_end, count_as_number, downwards, empty_list_refused, empty_taken}
use Rattle.fairness.specs.Refuted.{steps_limit_less, fifteen_most, first_served, from_itself, from_one, last_place_refused, list_cut}
use Rattle.fairness.specs.Refuted.{longer_list_taken, longest_first, lowest_first, steps_limit_more, none_off, none_refused, none_refuses}
use Rattle.fairness.specs.Refuted.{not_counted, not_round, not_written, numbers_lost, off_the_next, once_round, one_more_counted, one_place_on}
use Rattle.fairness.specs.Refuted.{one_short, one_walk_refused, open_alone, place_behind_taken, place_not_kept, place_stays, place_told}
use Rattle.fairness.specs.Refuted.{refused_moves, refused_takes_off, refused_tells, refused_with_2, refused_writes, rest_filled, rest_zeroed}
use Rattle.fairness.specs.Refuted.{seventeen_taken, shorter_list_taken, skips_a_place, stale_counted, starts_at_zero, table_as_it_was, table_cut}
use Rattle.fairness.specs.Refuted.{last_steps_wait, next_alone, shut_refused, two_off, walked_too, walks_closed}
use Rattle.fairness.specs.Refuted.{serving, written, turns_by, with_walks, with_table, limited_to, refused_as}
use Rattle.fairness.specs.Refuted.{NoneKeeps, NoneFair, NoneTakesOff, Unchanged}
use Rattle.fairness.proofs.Promise.{ours_alone, our_turns, our_refusal}
use Rattle.fairness.proofs.Calls.{all_that_while, ours_keeps}

-- What is seen of a result: a figure, an entry of the list or of the table, or how long one is.
abbrev number : Result → ℕ
number o = o.number

abbrev told : Result → ℕ
told o = length o.values

abbrev count : Result → ℕ
count o = get_or o.values 0 0

abbrev place : Result → ℕ
place o = o.place

abbrev at : ℕ → Result → ℕ
at i o = get_or o.list i 0

abbrev left : ℕ → Result → ℕ
left i o = get_or (steps_of o.table) i 0

abbrev position : Result → ℕ
position o = (get_or o.table 0 fresh).walk.position

abbrev sheet : Result → ℕ
sheet o = (get_or o.table 0 fresh).walk.number

abbrev opened : Result → ℕ
opened o = cond (get_or o.table 0 fresh).walk.«open» 1 0

-- Walks of sheet 7 at step 9, open or not, with their steps left.
abbrev walks : ℕ → Walk
walks p = record { «open» = true; number = 7; position = 9 }

abbrev shut : ℕ → Walk
shut p = record { «open» = false; number = 7; position = 9 }

-- The first alone is open.
abbrev first_open : ℕ → Walk
first_open zero = walks 0
first_open (suc p) = shut p

abbrev table : (ℕ → Walk) → List ℕ → List Turn
table w steps = table_of w steps

by : (seen : Result → ℕ) (f : Server) (t : List Turn) (p : ℕ) (list : List ℕ) → ((seen (f t p list) ≡ seen (ours t p list)) → ⊥) → Keeps f → ⊥
by seen f t p list h k = h (ap (λ (g : Server). seen (g t p list)) (ours_alone f k))

pub none_keeps : NoneKeeps
unfolding next_place first_of chosen turns_of any_over taken served
none_keeps =
    record {
      lowest_first = by place lowest_first (table walks (2 ∷ 1 ∷ [])) 1 (9 ∷ 9 ∷ []) (λ (z : ◌≡◌ {A = ℕ} 0 1). omega arith);
      starts_at_zero = by (at 0) starts_at_zero (table walks (1 ∷ 2 ∷ [])) 0 (9 ∷ 9 ∷ 9 ∷ []) (λ (z : ◌≡◌ {A = ℕ} 0 1). omega arith);
      longest_first = by place longest_first (table walks (2 ∷ 1 ∷ [])) 1 (9 ∷ 9 ∷ []) (λ (z : ◌≡◌ {A = ℕ} 0 1). omega arith);
      skips_a_place = by place skips_a_place (table walks (2 ∷ 1 ∷ [])) 1 (9 ∷ 9 ∷ []) (λ (z : ◌≡◌ {A = ℕ} 0 1). omega arith);
      from_itself = by place from_itself (table walks (2 ∷ 1 ∷ [])) 1 (9 ∷ 9 ∷ []) (λ (z : ◌≡◌ {A = ℕ} 0 1). omega arith);
      downwards = by place downwards (table walks (1 ∷ 1 ∷ 1 ∷ [])) 0 (9 ∷ 9 ∷ []) (λ (z : ◌≡◌ {A = ℕ} 1 2). omega arith);
      last_steps_wait = by place last_steps_wait (table walks (3 ∷ 1 ∷ [])) 1 (9 ∷ 9 ∷ []) (λ (z : ◌≡◌ {A = ℕ} 0 1). omega arith);
      next_alone = by count next_alone (table walks (1 ∷ 0 ∷ 1 ∷ [])) 0 (9 ∷ []) (λ (z : ◌≡◌ {A = ℕ} 0 1). omega arith);
      not_round = by count not_round (table walks (1 ∷ [])) 0 (9 ∷ []) (λ (z : ◌≡◌ {A = ℕ} 0 1). omega arith);
      none_off = by (left 0) none_off (table walks (1 ∷ [])) 0 (9 ∷ []) (λ (z : ◌≡◌ {A = ℕ} 1 0). omega arith);
      two_off = by (left 0) two_off (table walks (2 ∷ 1 ∷ [])) 1 (9 ∷ 9 ∷ []) (λ (z : ◌≡◌ {A = ℕ} 0 1). omega arith);
      off_the_next = by place off_the_next (table walks (2 ∷ 1 ∷ [])) 1 (9 ∷ 9 ∷ []) (λ (z : ◌≡◌ {A = ℕ} 0 1). omega arith);
      all_off = by (left 0) all_off (table walks (2 ∷ 1 ∷ [])) 1 (9 ∷ 9 ∷ []) (λ (z : ◌≡◌ {A = ℕ} 0 1). omega arith);
      once_round = by count once_round (table walks (1 ∷ 2 ∷ [])) 0 (9 ∷ 9 ∷ 9 ∷ []) (λ (z : ◌≡◌ {A = ℕ} 2 3). omega arith);
      one_short = by count one_short (table walks (1 ∷ [])) 0 (9 ∷ []) (λ (z : ◌≡◌ {A = ℕ} 0 1). omega arith);
      place_not_kept = by place place_not_kept (table walks (0 ∷ 0 ∷ [])) 1 (9 ∷ []) (λ (z : ◌≡◌ {A = ℕ} 0 1). omega arith);
      place_stays = by place place_stays (table walks (1 ∷ 2 ∷ [])) 0 (9 ∷ 9 ∷ 9 ∷ []) (λ (z : ◌≡◌ {A = ℕ} 0 1). omega arith);
      first_served = by place first_served (table walks (2 ∷ 1 ∷ [])) 1 (9 ∷ 9 ∷ []) (λ (z : ◌≡◌ {A = ℕ} 0 1). omega arith);
      one_place_on = by place one_place_on (table walks (1 ∷ [])) 0 (9 ∷ []) (λ (z : ◌≡◌ {A = ℕ} 1 0). omega arith);
      stale_counted = by count stale_counted (table walks (0 ∷ 0 ∷ [])) 1 (9 ∷ []) (λ (z : ◌≡◌ {A = ℕ} 1 0). omega arith);
      one_more_counted = by count one_more_counted (table walks (1 ∷ [])) 0 (9 ∷ []) (λ (z : ◌≡◌ {A = ℕ} 2 1). omega arith);
      not_counted = by told not_counted (table walks (1 ∷ [])) 0 (9 ∷ []) (λ (z : ◌≡◌ {A = ℕ} 0 1). omega arith);
      place_told = by count place_told (table walks (1 ∷ [])) 0 (9 ∷ []) (λ (z : ◌≡◌ {A = ℕ} 0 1). omega arith);
      count_as_number = by number count_as_number (table walks (1 ∷ [])) 0 (9 ∷ []) (λ (z : ◌≡◌ {A = ℕ} 1 0). omega arith);
      none_refuses = by number none_refuses (table walks (0 ∷ 0 ∷ [])) 1 (9 ∷ []) (λ (z : ◌≡◌ {A = ℕ} 29 0). omega arith);
      rest_zeroed = by (at 0) rest_zeroed (table walks (0 ∷ 0 ∷ [])) 1 (9 ∷ []) (λ (z : ◌≡◌ {A = ℕ} 0 9). omega arith);
      rest_filled = by (at 0) rest_filled (table walks (0 ∷ 0 ∷ [])) 1 (9 ∷ []) (λ (z : ◌≡◌ {A = ℕ} 1 9). omega arith);
      from_one = by (at 0) from_one (table walks (1 ∷ [])) 0 (9 ∷ []) (λ (z : ◌≡◌ {A = ℕ} 1 0). omega arith);
      not_written_lem = by (at 0) not_written (table walks (1 ∷ [])) 0 (9 ∷ []) (λ (z : ◌≡◌ {A = ℕ} 9 0). omega arith);
      at_the_end = by (at 0) at_the_end (table walks (1 ∷ 0 ∷ [])) 0 (9 ∷ 9 ∷ 9 ∷ []) (λ (z : ◌≡◌ {A = ℕ} 9 0). omega arith);
      list_cut = by (at 0) list_cut (table walks (0 ∷ 0 ∷ [])) 1 (9 ∷ []) (λ (z : ◌≡◌ {A = ℕ} 0 9). omega arith);
      table_as_it_was = by (left 0) table_as_it_was (table walks (1 ∷ [])) 0 (9 ∷ []) (λ (z : ◌≡◌ {A = ℕ} 1 0). omega arith);
      walked_too = by position walked_too (table walks (1 ∷ [])) 0 (9 ∷ []) (λ (z : ◌≡◌ {A = ℕ} 8 9). omega arith);
      walks_closed = by opened walks_closed (table walks (1 ∷ [])) 0 (9 ∷ []) (λ (z : ◌≡◌ {A = ℕ} 0 1). omega arith);
      numbers_lost = by sheet numbers_lost (table walks (1 ∷ [])) 0 (9 ∷ []) (λ (z : ◌≡◌ {A = ℕ} 0 7). omega arith);
      table_cut = by position table_cut (table walks (1 ∷ [])) 0 (9 ∷ []) (λ (z : ◌≡◌ {A = ℕ} 0 9). omega arith);
      open_alone = by count open_alone (table shut (1 ∷ [])) 0 (9 ∷ []) (λ (z : ◌≡◌ {A = ℕ} 0 1). omega arith);
      shut_refused = by number shut_refused (table shut (1 ∷ [])) 0 (9 ∷ []) (λ (z : ◌≡◌ {A = ℕ} 29 0). omega arith);
      fifteen_most = by number fifteen_most (table walks (replicate 16 1)) 0 (9 ∷ []) (λ (z : ◌≡◌ {A = ℕ} 29 0). omega arith);
      seventeen_taken = by number seventeen_taken (table walks (replicate 17 1)) 0 (9 ∷ []) (λ (z : ◌≡◌ {A = ℕ} 0 29). omega arith);
      one_walk_refused = by number one_walk_refused (table walks (1 ∷ [])) 0 (9 ∷ []) (λ (z : ◌≡◌ {A = ℕ} 29 0). omega arith);
      steps_limit_less = by number steps_limit_less (table walks (3650 ∷ [])) 0 (9 ∷ []) (λ (z : ◌≡◌ {A = ℕ} 29 0). omega arith);
      steps_limit_more = by number steps_limit_more (table walks (3651 ∷ [])) 0 (9 ∷ []) (λ (z : ◌≡◌ {A = ℕ} 0 29). omega arith);
      shorter_list_taken = by number shorter_list_taken (table walks (1 ∷ [])) 0 (replicate 65535 9) (λ (z : ◌≡◌ {A = ℕ} 29 0). omega arith);
      longer_list_taken = by number longer_list_taken (table walks (1 ∷ [])) 0 (replicate 65536 9) (λ (z : ◌≡◌ {A = ℕ} 0 29). omega arith);
      empty_taken = by number empty_taken (table walks []) 0 [] (λ (z : ◌≡◌ {A = ℕ} 0 29). omega arith);
      place_behind_taken = by number place_behind_taken (table walks (1 ∷ [])) 1 (9 ∷ []) (λ (z : ◌≡◌ {A = ℕ} 0 29). omega arith);
      last_place_refused = by number last_place_refused (table walks (1 ∷ [])) 0 (9 ∷ []) (λ (z : ◌≡◌ {A = ℕ} 29 0). omega arith);
      empty_list_refused = by number empty_list_refused (table walks (1 ∷ 1 ∷ [])) 0 [] (λ (z : ◌≡◌ {A = ℕ} 29 0). omega arith);
      all_refused = by number all_refused (table walks (1 ∷ [])) 0 (9 ∷ []) (λ (z : ◌≡◌ {A = ℕ} 29 0). omega arith);
      none_refused = by number none_refused (table walks (replicate 17 1)) 0 (9 ∷ []) (λ (z : ◌≡◌ {A = ℕ} 0 29). omega arith);
      refused_with_2 = by number refused_with_2 (table walks (replicate 17 1)) 0 (9 ∷ []) (λ (z : ◌≡◌ {A = ℕ} 2 29). omega arith);
      refused_tells = by told refused_tells (table walks (replicate 17 1)) 0 (9 ∷ []) (λ (z : ◌≡◌ {A = ℕ} 1 0). omega arith);
      refused_moves = by place refused_moves (table walks (1 ∷ [])) 1 (9 ∷ []) (λ (z : ◌≡◌ {A = ℕ} 0 1). omega arith);
      refused_writes = by (at 0) refused_writes (table walks (replicate 17 1)) 0 (9 ∷ []) (λ (z : ◌≡◌ {A = ℕ} 0 9). omega arith);
      refused_takes_off = by (left 0) refused_takes_off (table walks (replicate 17 1)) 0 (9 ∷ []) (λ (z : ◌≡◌ {A = ℕ} 0 1). omega arith);
    }

-- ---- not fair, and no step off

-- Calls that each lend a list of so many entries, on walks of sheet 7.
abbrev calling : List ℕ → List Call
calling [] = []
calling (n ∷ lists) = record { walks = walks; list = replicate n 9 } ∷ calling lists

unfair : (f : Server) (steps : List ℕ) (s : ℕ) (lists before between after : List ℕ) (p q : ℕ) →
    named f steps s (calling lists) ≡ before ++ (p ∷ (between ++ (p ∷ after))) → turns_at p between ≡ 0 → q ≢ p →
    HasLeft steps (before ++ (p ∷ between)) q → (turns_at q between ≡ 1 → ⊥) → Fair f → ⊥
unfair f steps s lists before between after p q e none ne has wrong fair =
    wrong (fair steps s (calling lists) before between after p q e none ne (all_that_while steps before between p q has))

pub none_fair : NoneFair
unfolding next_place first_of chosen turns_of any_over taken turns_at served
none_fair =
    record {
      -- 0 0, while the walk at 1 waits
      lowest_first =
          unfair lowest_first (2 ∷ 2 ∷ []) 1 (2 ∷ []) [] [] [] 0 1 refl refl (λ (z : ◌≡◌ {A = ℕ} 1 0). omega arith)
          (let z : 0 < 2 = omega arith in z) (λ (z : ◌≡◌ {A = ℕ} 0 1). omega arith);
      -- 0 1 2, 0 1, 0 1 2: two turns of the walk at 0 between those of the walk at 2
      starts_at_zero =
          unfair starts_at_zero (9 ∷ 9 ∷ 9 ∷ []) 2 (3 ∷ 2 ∷ 3 ∷ []) (0 ∷ 1 ∷ []) (0 ∷ 1 ∷ 0 ∷ 1 ∷ []) [] 2 0 refl refl
          (λ (z : ◌≡◌ {A = ℕ} 0 2). omega arith) (let z : 3 < 9 = omega arith in z) (λ (z : ◌≡◌ {A = ℕ} 2 1). omega arith);
      -- 0 0, while the walk at 1 waits
      longest_first =
          unfair longest_first (3 ∷ 1 ∷ []) 1 (2 ∷ []) [] [] [] 0 1 refl refl (λ (z : ◌≡◌ {A = ℕ} 1 0). omega arith)
          (let z : 0 < 1 = omega arith in z) (λ (z : ◌≡◌ {A = ℕ} 0 1). omega arith);
      -- 1 1, while the walk at 0 waits
      skips_a_place =
          unfair skips_a_place (2 ∷ 2 ∷ []) 1 (2 ∷ []) [] [] [] 1 0 refl refl (λ (z : ◌≡◌ {A = ℕ} 0 1). omega arith)
          (let z : 0 < 2 = omega arith in z) (λ (z : ◌≡◌ {A = ℕ} 0 1). omega arith);
      -- 0 0, while the walk at 1 waits
      from_itself =
          unfair from_itself (2 ∷ 2 ∷ []) 0 (2 ∷ []) [] [] [] 0 1 refl refl (λ (z : ◌≡◌ {A = ℕ} 1 0). omega arith)
          (let z : 0 < 2 = omega arith in z) (λ (z : ◌≡◌ {A = ℕ} 0 1). omega arith);
      -- 0 1, a refused call, then 1 again
      refused_moves =
          unfair refused_moves (9 ∷ 9 ∷ 9 ∷ []) 2 (2 ∷ 65536 ∷ 3 ∷ []) (0 ∷ []) [] (2 ∷ 0 ∷ []) 1 0 refl refl
          (λ (z : ◌≡◌ {A = ℕ} 0 1). omega arith) (let z : 1 < 9 = omega arith in z) (λ (z : ◌≡◌ {A = ℕ} 0 1). omega arith);
      -- 0 1, an empty list, then 1 again
      place_not_kept =
          unfair place_not_kept (9 ∷ 9 ∷ 9 ∷ []) 2 (2 ∷ 0 ∷ 3 ∷ []) (0 ∷ []) [] (2 ∷ 0 ∷ []) 1 0 refl refl
          (λ (z : ◌≡◌ {A = ℕ} 0 1). omega arith) (let z : 1 < 9 = omega arith in z) (λ (z : ◌≡◌ {A = ℕ} 0 1). omega arith);
      -- 0 1, then the walk at 1 is shut, and 0 0
      open_alone = λ fair.
          let z : ◌≡◌ {A = ℕ} 0 1 =
          fair (9 ∷ 9 ∷ []) 1 (record { walks = walks; list = replicate 2 9 } ∷ record { walks = first_open; list = replicate 2 9 } ∷ [])
          (0 ∷ 1 ∷ []) [] [] 0 1 refl refl (λ (z : ◌≡◌ {A = ℕ} 1 0). omega arith)
          (all_that_while (9 ∷ 9 ∷ []) (0 ∷ 1 ∷ []) [] 0 1 (let z : 1 < 9 = omega arith in z)) in
          omega arith;
      -- 0 0, while the last step of the walk at 1 waits
      last_steps_wait =
          unfair last_steps_wait (3 ∷ 1 ∷ []) 1 (2 ∷ []) [] [] [] 0 1 refl refl (λ (z : ◌≡◌ {A = ℕ} 1 0). omega arith)
          (let z : 0 < 1 = omega arith in z) (λ (z : ◌≡◌ {A = ℕ} 0 1). omega arith);
    }

pub none_takes_off : NoneTakesOff
unfolding next_place first_of chosen turns_of any_over taken turns_at
none_takes_off =
    record {
      none_off = λ k. let z : ◌≡◌ {A = ℕ} 4 3 = k (3 ∷ 3 ∷ []) 0 (calling (1 ∷ 1 ∷ [])) 1 in omega arith;
      two_off = λ k. let z : ◌≡◌ {A = ℕ} 1 2 = k (2 ∷ []) 0 (calling (1 ∷ [])) 0 in omega arith;
      off_the_next = λ k. let z : ◌≡◌ {A = ℕ} 1 2 = k (2 ∷ 2 ∷ []) 1 (calling (1 ∷ [])) 1 in omega arith;
      all_off = λ k. let z : ◌≡◌ {A = ℕ} 1 3 = k (3 ∷ []) 0 (calling (1 ∷ [])) 0 in omega arith;
      table_as_it_was = λ k. let z : ◌≡◌ {A = ℕ} 2 1 = k (1 ∷ []) 0 (calling (1 ∷ [])) 0 in omega arith;
    }

-- ---- where nothing is changed

module _ (t : List Turn) (p : ℕ) (list : List ℕ) where
  abbrev tested : Bool
  tested = taken (steps_of t) p (length list)

  abbrev r : Stretch
  r = turns_of (steps_of t) p (length list)

  -- The test as it falls out.
  pick : {A : Type 0} (b : Bool) → tested ≡ b → (x y o : A) → (tested ≡ true → x ≡ o) → (tested ≡ false → y ≡ o) → cond tested x y ≡ o
  pick true e x y o f g = rw e (f e)
  pick false e x y o f g = rw e (g e)

  pub all_is : serving taken turns_of written t p list ≡ ours t p list
  all_is = pick tested refl (written r t p list) (refuses 29 t p list) (ours t p list) (λ e. sym (our_turns t p list e))
      (λ e. sym (our_refusal t p list e))

  pub refusal_is : refused_as (λ table place list. refuses 29 table place list) t p list ≡ ours t p list
  refusal_is = pick tested refl (ours t p list) (refuses 29 t p list) (ours t p list) (λ e. refl) (λ e. sym (our_refusal t p list e))

turns_by_lem : (m : ℕ) (l : List ℕ) (s : ℕ) → turns_by chosen one_off l s m ≡ turns_of l s m
unfolding turns_of
turns_by_lem zero l s = refl
turns_by_lem (suc m) l s =
    ap (λ (x : Stretch). cond (ltb (chosen l s) (length l)) (turn_then (chosen l s) x) (rests l s)) (turns_by_lem m (one_off l (chosen l s)) (chosen l s))

all : serving taken turns_of written ≡ ours
all = λ i. λ t p list. all_is t p list i

by_choice : serving taken (turns_by chosen one_off) written ≡ ours
by_choice = (λ i. serving taken (λ l s m. turns_by_lem m l s i) written) ∙ all

same_walks : (t : List Turn) → with_walks (λ w. w) t ≡ t
same_walks [] = refl
same_walks (x ∷ t) = ap (λ (y : List Turn). x ∷ y) (same_walks t)

walks_as_they_are : with_table (λ r table. with_walks (λ w. w) (with_steps table r.left)) ≡ with_table (λ r table. with_steps table r.left)
walks_as_they_are = λ i. with_table (λ r table. same_walks (with_steps table r.left) i)

limits_are : (l : List ℕ) (s m : ℕ) → limited_to 1 16 3650 65535 l s m ≡ taken l s m
limits_are l s m = go (cmp (length l) 1) (cmp 16 (length l)) (cmp s (length l)) (any_over l 3650) refl
  where
    go : Cmp (length l) 1 → Cmp 16 (length l) → Cmp s (length l) → (t : Bool) → any_over l 3650 ≡ t → limited_to 1 16 3650 65535 l s m ≡ taken l s m
    go (below a) b c t e = rw (lt-leb 1 (length l) a) (taken_empty l s m a)
    go (above a) (below b) c t e = rw (le-leb 1 (length l) a, lt-leb (length l) 16 b) (taken_long l s m a b)
    go (above a) (above b) (above c) t e = rw (le-leb 1 (length l) a, le-leb (length l) 16 b, le-ltb s (length l) c) (taken_outside l s m a b c)
    go (above a) (above b) (below c) true e =
        rw (le-leb 1 (length l) a, le-leb (length l) 16 b, lt-ltb s (length l) c, e) (taken_over l s m a b c e)
    go (above a) (above b) (below c) false e =
        rw (le-leb 1 (length l) a, le-leb (length l) 16 b, lt-ltb s (length l) c, e) (taken_room l s m a b c e)

pub unchanged : Unchanged
unchanged =
    record {
      kept = ours_keeps;
      all = all;
      choice = by_choice;
      step = by_choice;
      many = all;
      place = all;
      figures = all;
      list = all;
      table = all;
      walks = walks_as_they_are ∙ all;
      limits = (λ i. serving (λ l s m. limits_are l s m i) turns_of written) ∙ all;
      refusal = λ i. λ t p list. refusal_is t p list i;
    }
