-- A turn table, a lent list of walk records: the steps left in it.
use Rattle.std.specs.Prelude.{false, List, [], ◌∷◌, map, ℕ, zero, suc, get_or, set}
use Rattle.turns.specs.declared.Turn.{Turn}

abbrev pub steps_of : List Turn → List ℕ
steps_of table = map (λ (t : Turn). t.left) table

-- Another number of steps left: the walk keeps.
abbrev pub with_left : Turn → ℕ → Turn
with_left t steps = record { walk = t.walk; left = steps }

-- The table with these steps left, walk by walk.
abbrev pub with_steps : List Turn → List ℕ → List Turn
with_steps [] left = []
with_steps (t ∷ table) [] = t ∷ table
with_steps (t ∷ table) (x ∷ left) = with_left t x ∷ with_steps table left

-- ---- one walk after another, as they are copied

abbrev pub fresh : Turn
fresh = record { walk = record { «open» = false; number = 0; position = 0 }; left = 0 }

abbrev pub left_at : List Turn → ℕ → ℕ
left_at table i = (get_or table i fresh).left

abbrev pub left_set : List Turn → ℕ → ℕ → List Turn
left_set table i steps = set table i (with_left (get_or table i fresh) steps)

-- The numbers with the steps left of the first k walks in them.
abbrev pub copied_out : List Turn → List ℕ → ℕ → List ℕ
copied_out table left zero = left
copied_out table left (suc k) = set (copied_out table left k) k (left_at table k)

-- The table with the first k numbers as steps left.
abbrev pub copied_in : List Turn → List ℕ → ℕ → List Turn
copied_in table left zero = table
copied_in table left (suc k) = left_set (copied_in table left k) k (get_or left k 0)
