-- Calls for turns written out. Proved in proofs/Examples.antt, by computation.
use Rattle.std.specs.Prelude.{ℕ, zero, suc, ◌+◌, ◌≡◌, true, false, List, [], ◌∷◌, replicate}
use Rattle.turns.specs.declared.Turn.{Turn}
use Rattle.fairness.specs.Promise.{Call, named, left_by, ours}

-- A walk of a sheet with this number at step 60, and its steps left.
abbrev pub opened : ℕ → ℕ → Turn
opened number steps = record { walk = record { «open» = true; number = number; position = 60 }; left = steps }

abbrev pub shut : ℕ → ℕ → Turn
shut number steps = record { walk = record { «open» = false; number = number; position = 60 }; left = steps }

-- Sheets 1, 2 and so on, with so many steps each.
abbrev pub alike : ℕ → ℕ → ℕ → List Turn
alike zero number steps = []
alike (suc walks) number steps = opened number steps ∷ alike walks (suc number) steps

-- Calls with lists of so many entries, each on walks of their own.
abbrev pub calling : List ℕ → List Call
calling [] = []
calling (entries ∷ lists) = record { walks = λ p. (shut (entries + p) 0).walk; list = replicate entries 91 } ∷ calling lists

pub record Calls : Type 0 where
  -- The turns of seven calls, one of them refused and two without a turn, and what the first five leave.
  pub all_turns : named ours (9 ∷ 2 ∷ 1 ∷ 3 ∷ []) 3 (calling (3 ∷ 0 ∷ 3 ∷ 65536 ∷ 5 ∷ 4 ∷ 2 ∷ []))
      ≡ 0 ∷ 1 ∷ 2 ∷ 3 ∷ 0 ∷ 1 ∷ 3 ∷ 0 ∷ 3 ∷ 0 ∷ 0 ∷ 0 ∷ 0 ∷ 0 ∷ 0 ∷ []
  pub left_over : left_by ours (9 ∷ 2 ∷ 1 ∷ 3 ∷ []) 3 (calling (3 ∷ 0 ∷ 3 ∷ 65536 ∷ 5 ∷ [])) ≡ 4 ∷ 0 ∷ 0 ∷ 0 ∷ []
  -- Four walks, the last of which was served last: six turns, and the rest of the list keeps.
  pub four_walks : ours (opened 1 2 ∷ shut 2 1 ∷ opened 3 0 ∷ opened 4 3 ∷ []) 3 (91 ∷ 92 ∷ 93 ∷ 94 ∷ 95 ∷ 96 ∷ 97 ∷ 98 ∷ [])
      ≡ record {
        number = 0;
        values = 6 ∷ [];
        place = 3;
        table = opened 1 0 ∷ shut 2 0 ∷ opened 3 0 ∷ opened 4 0 ∷ [];
        list = 0 ∷ 1 ∷ 3 ∷ 0 ∷ 3 ∷ 3 ∷ 97 ∷ 98 ∷ [];
      }
  -- The same turns by three calls: each goes on after the place served last.
  pub first_call : ours (opened 1 2 ∷ shut 2 1 ∷ opened 3 0 ∷ opened 4 3 ∷ []) 3 (91 ∷ 92 ∷ [])
      ≡ record {
        number = 0;
        values = 2 ∷ [];
        place = 1;
        table = opened 1 1 ∷ shut 2 0 ∷ opened 3 0 ∷ opened 4 3 ∷ [];
        list = 0 ∷ 1 ∷ [];
      }
  pub second_call : ours (opened 1 1 ∷ shut 2 0 ∷ opened 3 0 ∷ opened 4 3 ∷ []) 1 (91 ∷ 92 ∷ 93 ∷ [])
      ≡ record {
        number = 0;
        values = 3 ∷ [];
        place = 3;
        table = opened 1 0 ∷ shut 2 0 ∷ opened 3 0 ∷ opened 4 1 ∷ [];
        list = 3 ∷ 0 ∷ 3 ∷ [];
      }
  pub third_call : ours (opened 1 0 ∷ shut 2 0 ∷ opened 3 0 ∷ opened 4 1 ∷ []) 3 (91 ∷ 92 ∷ [])
      ≡ record {
        number = 0;
        values = 1 ∷ [];
        place = 3;
        table = opened 1 0 ∷ shut 2 0 ∷ opened 3 0 ∷ opened 4 0 ∷ [];
        list = 3 ∷ 92 ∷ [];
      }
  -- After the place and not from it: the walk served last comes last.
  pub after_the_place : ours (opened 1 5 ∷ opened 2 5 ∷ opened 3 5 ∷ []) 1 (91 ∷ 92 ∷ 93 ∷ 94 ∷ [])
      ≡ record {
        number = 0;
        values = 4 ∷ [];
        place = 2;
        table = opened 1 4 ∷ opened 2 4 ∷ opened 3 3 ∷ [];
        list = 2 ∷ 0 ∷ 1 ∷ 2 ∷ [];
      }
  -- None is left, or the list is empty: nothing is written, and the place stays.
  pub none_left : ours (opened 1 0 ∷ opened 2 0 ∷ []) 1 (91 ∷ 92 ∷ [])
      ≡ record { number = 0; values = 0 ∷ []; place = 1; table = opened 1 0 ∷ opened 2 0 ∷ []; list = 91 ∷ 92 ∷ [] }
  pub empty_list : ours (opened 1 7 ∷ opened 2 7 ∷ []) 1 []
      ≡ record { number = 0; values = 0 ∷ []; place = 1; table = opened 1 7 ∷ opened 2 7 ∷ []; list = [] }
  -- One walk alone gets every turn. 29 places written are no refusal.
  pub twenty_nine : ours (opened 1 40 ∷ []) 0 (replicate 29 91)
      ≡ record { number = 0; values = 29 ∷ []; place = 0; table = opened 1 11 ∷ []; list = replicate 29 0 }
  -- As much as is taken: sixteen walks, the last place, 3,650 steps.
  pub sixteen : ours (alike 16 1 3650) 15 (91 ∷ [])
      ≡ record { number = 0; values = 1 ∷ []; place = 0; table = opened 1 3649 ∷ alike 15 2 3650; list = 0 ∷ [] }
  pub long_list : ours (opened 1 0 ∷ []) 0 (replicate 65535 91)
      ≡ record { number = 0; values = 0 ∷ []; place = 0; table = opened 1 0 ∷ []; list = replicate 65535 91 }
  -- And more: all is left as it was.
  pub no_walk : ours [] 0 (91 ∷ 92 ∷ []) ≡ record { number = 29; values = []; place = 0; table = []; list = 91 ∷ 92 ∷ [] }
  pub seventeen : ours (alike 17 1 5) 3 (91 ∷ 92 ∷ [])
      ≡ record { number = 29; values = []; place = 3; table = alike 17 1 5; list = 91 ∷ 92 ∷ [] }
  pub outside : ours (opened 1 5 ∷ shut 2 5 ∷ []) 2 (91 ∷ 92 ∷ [])
      ≡ record { number = 29; values = []; place = 2; table = opened 1 5 ∷ shut 2 5 ∷ []; list = 91 ∷ 92 ∷ [] }
  pub too_many_steps : ours (opened 1 5 ∷ opened 2 3651 ∷ []) 1 (91 ∷ 92 ∷ [])
      ≡ record { number = 29; values = []; place = 1; table = opened 1 5 ∷ opened 2 3651 ∷ []; list = 91 ∷ 92 ∷ [] }
  pub too_many_steps_first : ours (opened 1 3651 ∷ opened 2 5 ∷ []) 1 (91 ∷ 92 ∷ [])
      ≡ record { number = 29; values = []; place = 1; table = opened 1 3651 ∷ opened 2 5 ∷ []; list = 91 ∷ 92 ∷ [] }
  pub longer_list : ours (opened 1 0 ∷ []) 0 (replicate 65536 91)
      ≡ record { number = 29; values = []; place = 0; table = opened 1 0 ∷ []; list = replicate 65536 91 }
