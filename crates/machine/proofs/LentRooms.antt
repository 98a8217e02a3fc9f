-- Parts of a room, lent and come back.
use Rattle.std.proofs.Common.{ℕ, suc, ◌+◌, ◌*◌, ◌≤◌, ◌<◌, min, ◌≡◌, refl, sym, ap, ◌∙◌, Bool, true, false, cond, List, [], ◌∷◌, ◌++◌, mul-le-mul}
use Rattle.std.proofs.Common.{arith, lt-ltb, le-ltb, ltb-true, ltb-false, ltb, pos, length, get_or, take, drop, take-append-drop, drop_of_length-le}
use Rattle.std.proofs.Common.{take_all, length-take-le}
use Rattle.refusals.specs.declared.Refusal.{Refusal}
use Rattle.std.specs.Prelude.{Result, Ok, Err, ⊤}
use Rattle.sheet.specs.Brought.{Brought}
use Rattle.refusals.specs.Tests.{first}
use Rattle.figures.specs.Answer.{Answer, Refused, Done, done_answer}
use Rattle.walk.specs.declared.Reply.{Reply}
use Rattle.rows.specs.Rows.{Rows, rows_of, row_length}
use Rattle.walk.specs.Answers.{Said, said_of, accepted}
use Rattle.walk.specs.Calls.{Outcome, ForwardOutcome, replied, forward_outcome, forward_tests, or_forward_outcome, forward_call}
use Rattle.walk.specs.CallRules.{ForwardRule}
use Rattle.walk.specs.OurEngine.{forward_result}
use Rattle.walk.proofs.Judging.{refusal_some}
use Rattle.machine.specs.Rooms.{lent_rows, left_in_rooms, left_in_row, forward_in_row, count_said, said_beside, count_in_row, distribution_in_row}

-- ---- as many as are asked, or all

take_by : (n m k : ℕ) (l : List ℕ) (b : Bool) → ltb n m ≡ b → length l ≡ m → k ≡ min n m → take k l ≡ take n l
take_by n m k l true e long is = let h : n < m = ltb-true n m e in let q : k ≡ n = omega arith in ap (λ (i : ℕ). take i l) q
take_by n m k l false e long is = let h : m ≤ n = ltb-false n m e in take_all k l (omega arith) ∙ sym (take_all n l (omega arith))

drop_by : (n m k : ℕ) (l : List ℕ) (b : Bool) → ltb n m ≡ b → length l ≡ m → k ≡ min n m → drop k l ≡ drop n l
drop_by n m k l true e long is = let h : n < m = ltb-true n m e in let q : k ≡ n = omega arith in ap (λ (i : ℕ). drop i l) q
drop_by n m k l false e long is =
    let h : m ≤ n = ltb-false n m e in drop_of_length-le l {i = k} (omega arith) ∙ sym (drop_of_length-le l {i = n} (omega arith))

take_min : (n m k : ℕ) (l : List ℕ) → length l ≡ m → k ≡ min n m → take k l ≡ take n l
take_min n m k l = take_by n m k l (ltb n m) refl

drop_min : (n m k : ℕ) (l : List ℕ) → length l ≡ m → k ≡ min n m → drop k l ≡ drop n l
drop_min n m k l = drop_by n m k l (ltb n m) refl

-- a part is within its room
pub part_long : (n m k : ℕ) (l : List ℕ) → length l ≡ m → k ≡ min n m → k ≡ length (take k l)
part_long n m k l long is = sym (length-take-le k l (omega arith))

-- a product is at least each factor
pub product_left : (r n : ℕ) → 1133 < r → 1134 ≤ suc r * suc n
product_left r n h = mul-le-mul {n₁ = 1134} {m₁ = 1} {n₂ = suc r} {m₂ = suc n} (omega arith) (omega arith)

pub product_right : (r n : ℕ) → 1133 < n → 1134 ≤ suc r * suc n
product_right r n h = mul-le-mul {n₁ = 1} {m₁ = 1134} {n₂ = suc r} {m₂ = suc n} (omega arith) (omega arith)

pub product_most : (r n : ℕ) → r ≤ 1133 → n ≤ 1133 → suc r * suc n ≤ 1285956
product_most r n g h = mul-le-mul {n₁ = suc r} {m₁ = suc n} {n₂ = 1134} {m₂ = 1134} (omega arith) (omega arith)

-- ---- both rows

module _ (x : Brought) (ds ps : List ℕ) (k : ℕ) (k_is : k ≡ min (row_length x.sheet) 1134) (d_long : length ds ≡ 1134) (p_long : length ps ≡ 1134) where
  lent_is : rows_of (take k ds) (take k ps) ≡ lent_rows x (rows_of ds ps)
  lent_is = λ j. rows_of (take_min (row_length x.sheet) 1134 k ds d_long k_is j) (take_min (row_length x.sheet) 1134 k ps p_long k_is j)

  -- what a call says of the parts, said of the rooms
  pub rooms_left : (call : Rows → Outcome) {T : Type 0} (answers : Result T Refusal → Answer) {r : Reply T} {ds' ps' : List ℕ} →
      replied answers r ds' ps' ≡ call (rows_of (take k ds) (take k ps)) →
      replied answers r (ds' ++ drop k ds) (ps' ++ drop k ps) ≡ left_in_rooms x (rows_of ds ps) (call (lent_rows x (rows_of ds ps)))
  rooms_left call answers {r} {ds'} {ps'} e =
      (λ j. replied answers r (ds' ++ drop_min (row_length x.sheet) 1134 k ds d_long k_is j) (ps' ++ drop_min (row_length x.sheet) 1134 k ps p_long k_is j))
      ∙ ap (left_in_rooms x (rows_of ds ps)) (e ∙ ap call lent_is)

  -- the same of a call that only reads them
  pub rooms_read : (call : Rows → Outcome) {T : Type 0} (answers : Result T Refusal → Answer) {r : Reply T} →
      replied answers r (take k ds) (take k ps) ≡ call (rows_of (take k ds) (take k ps)) →
      replied answers r ds ps ≡ left_in_rooms x (rows_of ds ps) (call (lent_rows x (rows_of ds ps)))
  rooms_read call answers {r} e = (λ j. replied answers r (sym (take-append-drop k ds) j) (sym (take-append-drop k ps) j)) ∙ rooms_left call answers e

-- ---- the forward row

chosen : (b : Bool) (l m : List ℕ) → (b ≡ false → l ≡ m) → l ≡ cond b l m
chosen true l m e = refl
chosen false l m e = e refl

module _ (x : Brought) (register row row' : List ℕ) (a : Result ⊤ Refusal) (i count k : ℕ) (k_is : k ≡ min (x.sheet.names + 1) 126) (long : length row ≡ 126)
    (fills : forward_outcome a row' ≡ forward_call x register (take k row) i) where
  fills_in : forward_outcome a (row' ++ drop k row) ≡ forward_in_row x register row i
  unfolding forward_in_row
  fills_in =
      (λ j. forward_outcome a (row' ++ drop_min (x.sheet.names + 1) 126 k row long k_is j))
      ∙ ap (left_in_row x row) (fills ∙ ap (λ (l : List ℕ). forward_call x register l i) (take_min (x.sheet.names + 1) 126 k row long k_is))

  -- what is said of a count that a tree may have; a refused call leaves its part, and so the row
  pub distribution_left : {said : Said} → said ≡ count_said (done_answer a) (row' ++ drop k row) x.sheet.names count →
      (accepted said ≡ false → row' ≡ take k row) → said_beside said (row' ++ drop k row) ≡ distribution_in_row x register row i count
  unfolding distribution_in_row count_in_row
  distribution_left {said} e kept =
      ap (said_beside said) (chosen (accepted said) (row' ++ drop k row) row (λ f. ap (λ (l : List ℕ). l ++ drop k row) (kept f) ∙ take-append-drop k row))
      ∙ ap (λ (s : Said). said_beside s (cond (accepted s) (row' ++ drop k row) row)) e
      ∙ ap (λ (o : ForwardOutcome). count_in_row x row o count) fills_in

  -- an accepted forward leaves a row of n + 1, so there are at most 125 names
  pub names_few : a ≡ Ok tt → length row' ≡ length (take k row) → ForwardRule x register (take k row) i (forward_result (forward_outcome a row')) → x.sheet.names ≤ 125
  names_few e same f =
      let yes : accepted (said_of (done_answer a)) ≡ true = ap (λ (b : Result ⊤ Refusal). accepted (said_of (done_answer b))) e in
      omega (arith, (f.does yes).size, same, length-take-le k row (omega arith))

-- what forward says
pub said_off : (a : Answer) (row : List ℕ) (n k : ℕ) → a ≡ Done → n < k → record { number = 14; values = [] } ≡ count_said a row n k
unfolding count_said
said_off a row n k e h = sym (ap (λ (b : Answer). count_said b row n k) e ∙ rw (lt-ltb n k h, count_said))

pub said_count : (a : Answer) (row : List ℕ) (n k : ℕ) → a ≡ Done → k ≤ n → record { number = 0; values = pos (get_or row k 0) ∷ [] } ≡ count_said a row n k
unfolding count_said
said_count a row n k e h = sym (ap (λ (b : Answer). count_said b row n k) e ∙ rw (le-ltb n k h, count_said))

-- what it says of a count above the names, by what it is refused for
unfoldable pub off_tree_said : Result ⊤ Refusal → Said
off_tree_said (Ok tt) = record { number = 14; values = [] }
off_tree_said (Err f) = said_of (Refused f)

off_said : (f : Result ⊤ Refusal) (q row : List ℕ) (o : ForwardOutcome) (n k : ℕ) → o.answer ≡ Done → n < k →
    off_tree_said f ≡ count_said (or_forward_outcome f q o).answer row n k
unfolding off_tree_said or_forward_outcome count_said
off_said (Ok tt) q row o n k e h = said_off o.answer row n k e h
off_said (Err r) q row o n k e h = refl

off_refused : (f : Result ⊤ Refusal) → accepted (off_tree_said f) ≡ false
unfolding off_tree_said
off_refused (Ok tt) = refl
off_refused (Err r) = refusal_some r

-- there the row is only read
module _ (x : Brought) (register row : List ℕ) (i count k : ℕ) (k_is : k ≡ min (x.sheet.names + 1) 126) (long : length row ≡ 126)
    (above : x.sheet.names < count) where
  abbrev lent : List ℕ
  lent = take (x.sheet.names + 1) row

  as_told : (filled : List ℕ) → off_tree_said (first (forward_tests x register lent i)) ≡ count_said (forward_call x register lent i).answer filled x.sheet.names count
  unfolding forward_call
  as_told filled = off_said (first (forward_tests x register lent i)) lent filled _ x.sheet.names count refl above

  pub distribution_off : {said : Said} → said ≡ off_tree_said (first (forward_tests x register (take k row) i)) →
      said_beside said row ≡ distribution_in_row x register row i count
  unfolding distribution_in_row count_in_row forward_in_row
  distribution_off {said} e =
      let o : ForwardOutcome = left_in_row x row (forward_call x register lent i) in
      let there : Said = count_said o.answer o.row x.sheet.names count in
      let told : off_tree_said (first (forward_tests x register lent i)) ≡ there = as_told o.row in
      let same : said ≡ off_tree_said (first (forward_tests x register lent i)) =
      e ∙ ap (λ (l : List ℕ). off_tree_said (first (forward_tests x register l i))) (take_min (x.sheet.names + 1) 126 k row long k_is) in
      let refused : accepted there ≡ false = ap accepted (sym told) ∙ off_refused (first (forward_tests x register lent i)) in
      ap (λ (s : Said). said_beside s row) (same ∙ told) ∙ ap (λ (b : Bool). said_beside there (cond b o.row row)) (sym refused)
