-- Wrong engines whose checks are not document 01's ('Refusals in order'), each ours but for one call, with a call that shows it.
-- Proved in proofs/Checks.antt.
use Rattle.std.specs.Prelude.{ℕ, suc, pred, ◌+◌, ◌-◌, ◌*◌, ◌≡◌, Bool, true, false, cond, not, ◌&&◌, ◌||◌, List, [], ◌∷◌, ◌++◌, map, ◌≢◌, length, get_or, set, take, drop, replicate, leb, ltb, eqb, nat_abs}
use Rattle.hedges.specs.Hedges.{ratio_of}
use Rattle.register.specs.declared.answers.Status.{Status}
use Rattle.register.specs.Register.{status_in}
use Rattle.register.specs.Events.{blank_register}
use Rattle.sheet.specs.Terms.{Terms, sum_of}
use Rattle.sheet.specs.Dates.{next_accrual}
use Rattle.tree.specs.Sheet.{accrual_of, width_of, outstanding_of, default_most, premium_most}
use Rattle.rows.specs.Tables.{tab, any}
use Rattle.rows.specs.Rows.{any_over, soiled, distribution_row, Rows, rows_of, row_length}
use Rattle.sheet.specs.Brought.{Brought, brought}
use Rattle.refusals.specs.Refusals.{refusal_number}
use Rattle.lists.specs.Outside.{outside}
use Rattle.refusals.specs.Tests.{differs, Test, first}
use Rattle.walk.specs.declared.Walk.{Walk}
use Rattle.figures.specs.Answer as Answer
use Rattle.walk.specs.Answers.{fresh}
use Rattle.figures.specs.Nodes.{jump}
use Rattle.admission.specs.LentTests.{rows_bad, is_withdrawn, is_unissued}
use Rattle.walk.specs.Calls.{open_tests, back_tests, value_tests, ratio_tests, forward_tests, or_outcome, or_forward_outcome, zeros, rolls}
use Rattle.figures.specs.Replies.{worth}
use Rattle.walk.specs.CallRules.{says}
use Rattle.walk.specs.Engine.{Engine}
use Rattle.walk.specs.CallLists.{own_rows, issue, back, value}
use Rattle.walk.specs.Promise.{Rules, Demand3}
use Rattle.walk.specs.OurEngine.{walk_result, forward_result, ours}
use Rattle.wrong.specs.Substitutes.{issue_by, withdraw_by, open_by, back_by, value_by, ratio_by, forward_by, refusal, by_answer}
use Rattle.wrong.specs.Examples.{deck, unevenly, live, walk_at, refused, Plays}

-- ---- calls

-- Those that bring a sheet.
pub data SheetCall : Type 0 where
  Open Back Value Ratio Forward : SheetCall

-- What they are given: each takes its own part of it.
pub record Inputs : Type 0 where
  pub sheet : Brought
  pub register : List ℕ
  pub walk : Walk
  pub rows : Rows
  pub row : List ℕ
  pub steps : ℕ
  pub tranche : ℕ
  pub count : ℕ

abbrev pub inputs : Brought → List ℕ → Walk → Rows → List ℕ → ℕ → ℕ → ℕ → Inputs
inputs x g w l q i j k = record { sheet = x; register = g; walk = w; rows = l; row = q; steps = i; tranche = j; count = k }

-- The refusal that an engine answers, 0 where it accepts.
abbrev pub answered : SheetCall → Inputs → Engine → ℕ
answered Open a e = (e.opening a.sheet a.register a.walk a.rows).said.number
answered Back a e = (e.back a.sheet a.register a.walk a.rows a.steps).said.number
answered Value a e = (e.value a.sheet a.register a.walk a.rows a.tranche a.count).said.number
answered Ratio a e = (e.ratio a.sheet a.register a.walk a.rows a.tranche a.count).said.number
answered Forward a e = (e.forward a.sheet a.register a.row a.steps).said.number

abbrev pub tests : SheetCall → Inputs → List Test
tests Open a = open_tests a.sheet a.register a.rows
tests Back a = back_tests a.sheet a.register a.walk a.rows a.steps
tests Value a = value_tests a.sheet a.register a.walk a.rows a.tranche a.count
tests Ratio a = ratio_tests a.sheet a.register a.walk a.rows a.tranche a.count
tests Forward a = forward_tests a.sheet a.register a.row a.steps

-- A wrong engine, a call, and document 01's answer n to it: ours gives it, the wrong one another, and the rules do not admit the wrong one.
pub record RuledOut (e : Engine) (answer : Engine → ℕ) (n : ℕ) : Type 0 where
  pub due : answer ours ≡ n
  pub other : answer e ≢ n
  pub refuted : Rules e → ⊥

-- ---- ours, with other tests in one call

-- It judges by what f makes of our tests.
abbrev pub judging : SheetCall → (Inputs → List Test → List Test) → Engine
judging Open f =
    open_by (λ x g w l.
    walk_result (or_outcome (first (f (inputs x g w l [] 0 0 0) (open_tests x g l))) w l
    (record { answer = Answer.Done; walk = record { «open» = true; number = x.number; position = x.sheet.steps }; rows = zeros x })))
judging Back f =
    back_by (λ x g w l c.
    walk_result (or_outcome (first (f (inputs x g w l [] c 0 0) (back_tests x g w l c))) w l
    (record {
      answer = Answer.Position (w.position - c);
      walk = record { «open» = w.«open»; number = w.number; position = w.position - c };
      rows = rolls x w.position c l;
    })))
judging Value f =
    value_by (λ x g w l j k.
    walk_result (or_outcome (first (f (inputs x g w l [] 0 j k) (value_tests x g w l j k))) w l
    (record { answer = worth x l j k; walk = w; rows = l })))
judging Ratio f =
    ratio_by (λ x g w l j k.
    walk_result (or_outcome (first (f (inputs x g w l [] 0 j k) (ratio_tests x g w l j k))) w l
    (record { answer = Answer.Ratio (ratio_of (jump x l j k) (jump x l x.sheet.tranches k)); walk = w; rows = l })))
judging Forward f =
    forward_by (λ x g q i.
    forward_result (or_forward_outcome (first (f (inputs x g fresh (rows_of [] []) q i 0 0) (forward_tests x g q i))) q
    (record { answer = Answer.Done; row = distribution_row x.sheet i })))

-- Another test for the refusal n.
abbrev pub replaced : ℕ → Bool → List Test → List Test
replaced n b [] = []
replaced n b (t ∷ l) = (cond (eqb (refusal_number t.1) n) b t.0, t.1) ∷ replaced n b l

abbrev pub tested : ℕ → (Inputs → Bool) → SheetCall → Engine
tested n f o = judging o (λ a. replaced n (f a))

-- ---- a check left out, two checks exchanged, one moved

abbrev pub skipping : SheetCall → ℕ → Engine
skipping o n = tested n (λ a. false) o

-- The test of the refusal n.
abbrev pub test_of : ℕ → Test → List Test → Test
test_of n d [] = d
test_of n d (t ∷ l) = cond (eqb (refusal_number t.1) n) t (test_of n d l)

-- The tests of two refusals change places.
abbrev pub swapped : ℕ → ℕ → List Test → List Test
swapped m n l =
    map (λ t. cond (eqb (refusal_number t.1) m) (test_of n t l) (cond (eqb (refusal_number t.1) n) (test_of m t l) t)) l

abbrev pub exchanging : SheetCall → ℕ → ℕ → Engine
exchanging o m n = judging o (λ a. swapped m n)

-- The tests of the refusal n alone.
abbrev pub only : ℕ → List Test → List Test
only n [] = []
only n (t ∷ l) = cond (eqb (refusal_number t.1) n) (t ∷ only n l) (only n l)

-- A check made before all others, and after all others.
abbrev pub firstly : SheetCall → ℕ → Engine
firstly o n = judging o (λ a l. only n l ++ l)

abbrev pub lastly : SheetCall → ℕ → Engine
lastly o n = judging o (λ a l. replaced n false l ++ only n l)

-- Document 01's checks of each call, in order, with those of T-06 and T-01.
abbrev pub numbers_to_ten : List ℕ → List ℕ
numbers_to_ten more = 1 ∷ 2 ∷ 3 ∷ 4 ∷ 25 ∷ 5 ∷ 6 ∷ 7 ∷ 21 ∷ 8 ∷ 9 ∷ 10 ∷ more

abbrev pub checks : SheetCall → List ℕ
checks Open = numbers_to_ten []
checks Back = numbers_to_ten (11 ∷ 12 ∷ 13 ∷ [])
checks Value = numbers_to_ten (11 ∷ 12 ∷ 14 ∷ [])
checks Ratio = numbers_to_ten (11 ∷ 12 ∷ 14 ∷ 15 ∷ 16 ∷ [])
checks Forward = numbers_to_ten (13 ∷ [])

abbrev pub has : ℕ → List ℕ → Bool
has n [] = false
has n (m ∷ l) = eqb m n || has n l

-- Where a check stands in that order: 25 between 4 and 5, 21 between 7 and 8.
abbrev pub rank : ℕ → ℕ
rank n = cond (eqb n 25) 9 (cond (eqb n 21) 15 (2 * n))

-- A call checks m and, later, n, and can break both: no number is both withdrawn and unissued.
abbrev pub breakable : SheetCall → ℕ → ℕ → Bool
breakable o m n = has m (checks o) && (has n (checks o) && (ltb (rank m) (rank n) && not (eqb m 9 && eqb n 10)))

-- The first where the check n stands before m, else the second.
abbrev pub from : {A : Type 0} → ℕ → ℕ → A → A → A
from m n kept broken = cond (ltb (rank n) (rank m)) kept broken

-- A call that keeps the checks before m and breaks all others: of 9 and 10 it breaks 9, or 10 where m or n is 10.
-- Its index does not jump, which breaks 15 and 16; where m is 16 it jumps by 10, and the tranche by -10,000,000.
abbrev pub broken_from : ℕ → ℕ → Inputs
broken_from m n =
    inputs
    (brought
    (record { names = 1; steps = 1; tranches = from m 1 1 9; recovery = from m 3 1_000_000_000 1_000_000_001; number = 7 })
    (from m 4 0 5 ∷ 5 ∷ []) (from m 25 1 2 ∷ []) (from m 5 0 1_000_000_001 ∷ from m 2 [] (0 ∷ [])) (from m 6 1 0 ∷ []) (from m 7 10 0 ∷ [])
    (from m 21 0 11 ∷ []) (0 ∷ from m 8 1 10_000_001 ∷ []))
    (set blank_register 7 (from m 10 0xA5 (cond (eqb m 10 || eqb n 10) 0xFF 0x00)))
    (from m 11 (record { «open» = true; number = 7; position = 0 }) fresh)
    (rows_of (from m 15 (1 ∷ 0 ∷ 0 ∷ 0 ∷ []) (replicate 4 (from m 12 0 1_000_000_000_000))) (from m 15 (0 ∷ 0 ∷ 10 ∷ 0 ∷ []) (replicate 4 0)))
    (0 ∷ 0 ∷ []) 2 0 (from m 14 0 9)

-- ---- 2, list by list

abbrev pub is_forward : SheetCall → Bool
is_forward Open = false
is_forward Back = false
is_forward Value = false
is_forward Ratio = false
is_forward Forward = true

-- Lengths, each with what it is to be: 0 attachments, 1 hazards, 2 discounts, 3 accruals, 4 elapsed, 5 coupons, 6 the register,
-- 7 and 8 the rows of the default and the premium legs; of forward, 7 is its row.
abbrev pub lengths : SheetCall → Inputs → List (ℕ × ℕ)
lengths o a =
    let x : Terms = a.sheet.sheet in
    (length x.attachments, x.tranches + 1) ∷ (length x.hazards, length x.starts * x.names) ∷ (length x.discounts, x.steps)
    ∷ (length x.accruals, x.steps) ∷ (length x.elapsed, x.steps)
    ∷ (length a.sheet.coupons, x.tranches + 1) ∷ (length a.register, 256)
    ∷ cond (is_forward o) ((length a.row, x.names + 1) ∷ [])
    ((length a.rows.defaults, row_length x) ∷ (length a.rows.premiums, row_length x) ∷ [])

abbrev pub places : SheetCall → List ℕ
places o = 0 ∷ 1 ∷ 2 ∷ 3 ∷ 4 ∷ 5 ∷ 6 ∷ 7 ∷ cond (is_forward o) [] (8 ∷ [])

-- Whether one of them, counted from i, meets a test.
abbrev pub any_length : (ℕ → ℕ → ℕ → Bool) → ℕ → List (ℕ × ℕ) → Bool
any_length f i [] = false
any_length f i (t ∷ l) = f i t.0 t.1 || any_length f (suc i) l

-- At one place by another test of the length and what it is to be.
abbrev pub measuring : SheetCall → ℕ → (ℕ → ℕ → Bool) → Engine
measuring o place off =
    tested 2 (λ a.
    outside 1 16 (length a.sheet.sheet.starts)
    || any_length (λ i is due. cond (eqb i place) (off is due) (differs is due)) 0 (lengths o a)) o

-- There a longer list is taken (true), or a shorter one (false); and both.
abbrev pub one_way : SheetCall → ℕ → Bool → Engine
one_way o place longer = measuring o place (λ is due. cond longer (ltb is due) (ltb due is))

abbrev pub unmeasured : SheetCall → ℕ → Engine
unmeasured o place = measuring o place (λ is due. false)

-- A call that keeps all checks, but that the list at that place is one longer or shorter.
abbrev pub resized : ℕ → Bool → Inputs
resized place longer =
    let list : ℕ → List ℕ → List ℕ = λ i l. cond (eqb i place) (cond longer (l ++ (9 ∷ [])) (take (length l - 1) l)) l in
    inputs
    (brought (record { names = 1; steps = 1; tranches = 1; recovery = 0; number = 7 })
    (list 0 (0 ∷ 5 ∷ [])) (1 ∷ []) (list 1 (0 ∷ [])) (list 2 (1 ∷ [])) (list 3 (1 ∷ [])) (list 4 (0 ∷ [])) (list 5 (0 ∷ 0 ∷ [])))
    (list 6 live) (walk_at 1) (rows_of (list 7 (replicate 4 0)) (list 8 (replicate 4 0))) (list 7 (0 ∷ 0 ∷ [])) 0 0 0

-- ---- 1, 3 to 8, 21 and 25, at their limits, in open

-- n, m and r, each from its least to its most.
abbrev pub pool_limits : ℕ → ℕ → ℕ → ℕ → ℕ → ℕ → Engine
pool_limits n n' m m' r r' =
    tested 1 (λ a. outside n n' a.sheet.sheet.names || outside m m' a.sheet.sheet.steps || outside r r' a.sheet.sheet.tranches) Open

abbrev pub recovery_to : ℕ → Engine
recovery_to most = tested 3 (λ a. ltb most a.sheet.sheet.recovery) Open

-- `flat` tells that a point does not rise above the one before it.
abbrev pub attachments_to : (ℕ → ℕ → Bool) → ℕ → Engine
attachments_to flat most =
    tested 4 (λ a.
    any a.sheet.sheet.tranches (λ j. flat (get_or a.sheet.sheet.attachments (suc j) 0) (get_or a.sheet.sheet.attachments j 0))
    || any (a.sheet.sheet.tranches + 1) (λ j. ltb most (get_or a.sheet.sheet.attachments j 0))) Open

abbrev pub hazards_to : ℕ → Engine
hazards_to most = tested 5 (λ a. any (length a.sheet.sheet.hazards) (λ k. ltb most (get_or a.sheet.sheet.hazards k 0))) Open

-- Looked for among the first n alone.
abbrev pub first_hazards : Engine
first_hazards = tested 5 (λ a. any a.sheet.sheet.names (λ k. ltb 1_000_000_000 (get_or a.sheet.sheet.hazards k 0))) Open

-- n hazards a start.
abbrev pub hazards_due : Terms → ℕ
hazards_due x = length x.starts * x.names

-- 2, of the periods: their least and most, and how many hazards are due.
abbrev pub periods_in : ℕ → ℕ → (Terms → ℕ) → Engine
periods_in least most due =
    tested 2 (λ a.
    let x : Terms = a.sheet.sheet in
    differs (length x.attachments) (x.tranches + 1) || (outside least most (length x.starts) || differs (length x.hazards) (due x))
    || differs (length x.discounts) x.steps || differs (length x.accruals) x.steps
    || differs (length x.elapsed) x.steps || differs (length a.sheet.coupons) (x.tranches + 1)
    || rows_bad a.sheet a.register a.rows) Open

-- 25: the first start, whether a start does not rise above the one before it, and the most.
abbrev pub starts_in : (ℕ → Bool) → (ℕ → ℕ → Bool) → (Terms → ℕ) → Engine
starts_in off flat most =
    tested 25 (λ a.
    let x : Terms = a.sheet.sheet in
    off (get_or x.starts 0 0) || any (pred (length x.starts)) (λ j. flat (get_or x.starts (suc j) 0) (get_or x.starts j 0))
    || any (length x.starts) (λ j. ltb (most x) (get_or x.starts j 0))) Open

abbrev pub discounts_in : ℕ → ℕ → Engine
discounts_in least most = tested 6 (λ a. any a.sheet.sheet.steps (λ i. outside least most (get_or a.sheet.sheet.discounts i 0))) Open

-- The most of each and in total, and the least of the last.
abbrev pub accruals_in : ℕ → ℕ → ℕ → Engine
accruals_in most total last =
    tested 7 (λ a.
    any a.sheet.sheet.steps (λ i. ltb most (get_or a.sheet.sheet.accruals i 0)) || ltb total (sum_of a.sheet.sheet.accruals)
    || ltb (get_or a.sheet.sheet.accruals (pred a.sheet.sheet.steps) 0) last) Open

-- 21: the most of the fraction that stands at i in its list, for the step i + 1.
abbrev pub elapsed_to : (Terms → ℕ → ℕ) → Engine
elapsed_to most = tested 21 (λ a. any a.sheet.sheet.steps (λ i. ltb (most a.sheet.sheet i) (get_or a.sheet.sheet.elapsed i 0))) Open

-- The accrual of the next premium date at or after that step: T-01's limit.
abbrev pub next_of : Terms → ℕ → ℕ
next_of x i = next_accrual (drop i x.accruals)

-- The accrual of the last premium date among steps.
abbrev pub last_accrual : List ℕ → ℕ
last_accrual [] = 0
last_accrual (a ∷ l) = cond (eqb (last_accrual l) 0) a (last_accrual l)

abbrev pub coupons_to : ℕ → Engine
coupons_to most = tested 8 (λ a. any (a.sheet.sheet.tranches + 1) (λ j. ltb most (get_or a.sheet.coupons j 0))) Open

-- A sheet of n, m and r, with lists of the right lengths; and with none.
abbrev pub pool : ℕ → ℕ → ℕ → Brought
pool n m r =
    brought (record { names = n; steps = m; tranches = r; recovery = 0; number = 7 })
    (tab (r + 1) (λ j. j)) (1 ∷ []) (replicate n 0) (replicate m 1) (replicate m 1) (replicate m 0) (replicate (r + 1) 0)

abbrev pub pool_alone : ℕ → ℕ → ℕ → Brought
pool_alone n m r = brought (record { names = n; steps = m; tranches = r; recovery = 0; number = 7 }) [] [] [] [] [] [] []

-- One name and one tranche, and all but one of its terms plain.
abbrev pub terms : ℕ → ℕ → ℕ → ℕ → ℕ → List ℕ → List ℕ → ℕ → Brought
terms recovery low high hazard discount accruals elapsed coupon =
    brought (record { names = 1; steps = length accruals; tranches = 1; recovery = recovery; number = 7 })
    (low ∷ high ∷ []) (1 ∷ []) (hazard ∷ []) (replicate (length accruals) discount) accruals elapsed (0 ∷ coupon ∷ [])

abbrev pub of_recovery : ℕ → Brought
of_recovery y = terms y 0 5 0 1 (1 ∷ []) (0 ∷ []) 0

abbrev pub of_attachments : ℕ → ℕ → Brought
of_attachments low high = terms 0 low high 0 1 (1 ∷ []) (0 ∷ []) 0

abbrev pub of_hazard : ℕ → Brought
of_hazard y = terms 0 0 5 y 1 (1 ∷ []) (0 ∷ []) 0

-- One name and sixteen steps with these starts, and as many hazards.
abbrev pub of_starts : List ℕ → List ℕ → Brought
of_starts starts hazards =
    brought (record { names = 1; steps = 16; tranches = 1; recovery = 0; number = 7 })
    (0 ∷ 5 ∷ []) starts hazards (replicate 16 1) (replicate 16 1) (replicate 16 0) (0 ∷ 0 ∷ [])

abbrev pub of_discount : ℕ → Brought
of_discount y = terms 0 0 5 0 y (1 ∷ []) (0 ∷ []) 0

abbrev pub of_accruals : List ℕ → Brought
of_accruals l = terms 0 0 5 0 1 l (replicate (length l) 0) 0

abbrev pub of_elapsed : List ℕ → List ℕ → Brought
of_elapsed accruals elapsed = terms 0 0 5 0 1 accruals elapsed 0

abbrev pub of_coupon : ℕ → Brought
of_coupon y = terms 0 0 5 0 1 (1 ∷ []) (0 ∷ []) y

-- By an open of a live number, with rows of the right length.
abbrev pub ByOpen : Engine → Brought → ℕ → Type 0
ByOpen e x n = RuledOut e (answered Open (inputs x live fresh (zeros x) [] 0 0 0)) n

-- ---- 11 to 16

-- A part of 11 is left out, or the highest position changed.
abbrev pub closed_taken : SheetCall → Engine
closed_taken = tested 11 (λ a. differs a.walk.number a.sheet.number || ltb a.sheet.sheet.steps a.walk.position)

abbrev pub other_number_taken : SheetCall → Engine
other_number_taken = tested 11 (λ a. not a.walk.«open» || ltb a.sheet.sheet.steps a.walk.position)

abbrev pub position_to : (Terms → ℕ) → SheetCall → Engine
position_to most =
    tested 11 (λ a. not a.walk.«open» || differs a.walk.number a.sheet.number || ltb (most a.sheet.sheet) a.walk.position)

-- One of the two rows is not looked at.
abbrev pub defaults_unseen : SheetCall → Engine
defaults_unseen = tested 12 (λ a. soiled a.sheet.sheet a.walk.position [] a.rows.premiums)

abbrev pub premiums_unseen : SheetCall → Engine
premiums_unseen = tested 12 (λ a. soiled a.sheet.sheet a.walk.position a.rows.defaults [])

-- Other ceilings, of the default legs at a tranche and a count, and of the premium legs at a step and a count.
abbrev pub ceilings_to : (Terms → ℕ → ℕ → ℕ) → (Terms → ℕ → ℕ → ℕ) → SheetCall → Engine
ceilings_to d p =
    tested 12 (λ a.
    any_over a.sheet.sheet (d a.sheet.sheet) a.rows.defaults
    || any_over a.sheet.sheet (λ j k. p a.sheet.sheet a.walk.position k) a.rows.premiums)

-- The whole width, whatever is lost: of a tranche, and of the index.
abbrev pub tranche_unlost : Terms → ℕ → ℕ → ℕ
tranche_unlost x j k = cond (ltb j x.tranches) (width_of x j) (default_most x j k)

abbrev pub index_unlost : Terms → ℕ → ℕ → ℕ
index_unlost x j k = cond (ltb j x.tranches) (default_most x j k) (width_of x j)

-- What a tranche has outstanding.
abbrev pub tranche_left : Terms → ℕ → ℕ → ℕ
tranche_left x j k = cond (ltb j x.tranches) (outstanding_of x j k) (default_most x j k)

-- Premium ceilings that count otherwise the accruals after a step, the names left at a count, or the steps left, each of which gives two units.
abbrev pub premiums_to : (Terms → ℕ → ℕ) → (Terms → ℕ → ℕ) → (Terms → ℕ → ℕ) → SheetCall → Engine
premiums_to accruals names steps = ceilings_to default_most (λ x i k. accruals x i + names x k + steps x i)

abbrev pub accruals_after : Terms → ℕ → ℕ
accruals_after x i = sum_of (drop i x.accruals)

abbrev pub names_left : Terms → ℕ → ℕ
names_left x k = x.names - k

abbrev pub steps_twice : Terms → ℕ → ℕ
steps_twice x i = 2 * (x.steps - i)

-- Premium legs of the small sheet, of which all entries but the tranche's are 0.
abbrev pub premiums_lent : ℕ → ℕ → Rows
premiums_lent a b = rows_of (replicate 4 0) (a ∷ b ∷ 0 ∷ 0 ∷ [])

abbrev pub steps_to : (Inputs → ℕ) → SheetCall → Engine
steps_to most = tested 13 (λ a. ltb (most a) a.steps)

-- The last tranche and the last count.
abbrev pub nodes_to : (Terms → ℕ) → (Terms → ℕ) → SheetCall → Engine
nodes_to r n = tested 14 (λ a. ltb (r a.sheet.sheet) a.tranche || ltb (n a.sheet.sheet) a.count)

-- Off scale by another test of how far the index and the tranche jump.
abbrev pub scale_by : (ℕ → ℕ → Bool) → Engine
scale_by off =
    tested 16 (λ a.
    off (nat_abs (jump a.sheet a.rows a.sheet.sheet.tranches a.count))
    (nat_abs (jump a.sheet a.rows a.tranche a.count))) Ratio

-- A tranche that jumps just 1,000,000 times as far as the index is taken.
abbrev pub scale_equal : Engine
scale_equal = scale_by (λ index tranche. ltb (1_000_000 * index) tranche)

-- One that jumps 999,999 times as far is refused.
abbrev pub scale_early : Engine
scale_early = scale_by (λ index tranche. leb (999_999 * index) tranche)

-- A live sheet of one name, one step and one tranche.
abbrev pub small : Walk → Rows → ℕ → ℕ → ℕ → Inputs
small w l steps tranche count = inputs (of_recovery 0) live w l (0 ∷ 0 ∷ []) steps tranche count

abbrev pub clean : Rows
clean = rows_of (replicate 4 0) (replicate 4 0)

-- The tranche jumps by -1,000,000,000,000 and the index by 1,000,001.
abbrev pub near_scale : Inputs
near_scale =
    inputs (terms 1_000_000_000 0 200_000 0 1 (1_000_000_000 ∷ []) (0 ∷ []) 1) live (walk_at 0)
    (rows_of (100_000 ∷ 0 ∷ 0 ∷ 0 ∷ []) (0 ∷ 0 ∷ 1_000_001 ∷ 0 ∷ [])) [] 0 0 0

-- The uneven pool at its root, with a premium leg of the tranche at the count 0.
abbrev pub unevenly_lent : ℕ → Inputs
unevenly_lent a = inputs (unevenly.sheet 7) live (walk_at 0) (rows_of (replicate 8 0) (a ∷ replicate 7 0)) [] 0 0 0

-- By back, value and hedge ratio, each with the fault in itself; and on the small sheet.
pub record ByWalkCalls (e : SheetCall → Engine) (a : Inputs) (n : ℕ) : Type 0 where
  pub back : RuledOut (e Back) (answered Back a) n
  pub value : RuledOut (e Value) (answered Value a) n
  pub ratio : RuledOut (e Ratio) (answered Ratio a) n

abbrev pub ByWalking : (SheetCall → Engine) → Walk → Rows → ℕ → Type 0
ByWalking e w l n = ByWalkCalls e (small w l 0 0 0) n

-- By one of them at the last step, or by forward, with operands.
abbrev pub By : SheetCall → (SheetCall → Engine) → ℕ → ℕ → ℕ → ℕ → Type 0
By o e steps tranche count n = RuledOut (e o) (answered o (small (walk_at 1) clean steps tranche count)) n

-- ---- issue and withdraw

-- Ours, with another register.
abbrev pub issue_on : (List ℕ → ℕ → List ℕ) → Engine
issue_on f = issue_by (λ g y. ours.issue (f g y) y)

abbrev pub withdraw_on : (List ℕ → ℕ → List ℕ) → Engine
withdraw_on f = withdraw_by (λ g y. ours.withdraw (f g y) y)

-- A byte that says so is refused with n, whatever the length.
abbrev pub issue_first : ℕ → (Status → Bool) → Engine
issue_first n f = issue_by (λ g y. cond (f (status_in g y)) (record { said = refusal n; register = g }) (ours.issue g y))

abbrev pub withdraw_first : ℕ → (Status → Bool) → Engine
withdraw_first n f = withdraw_by (λ g y. cond (f (status_in g y)) (record { said = refusal n; register = g }) (ours.withdraw g y))

abbrev pub is_live : Status → Bool
is_live s = not (is_withdrawn s || is_unissued s)

abbrev pub issue_answered : List ℕ → Engine → ℕ
issue_answered g e = (e.issue g 7).said.number

abbrev pub withdraw_answered : List ℕ → Engine → ℕ
withdraw_answered g e = (e.withdraw g 7).said.number

-- ---- the walk that an accepted open leaves

abbrev pub opened_as : (Walk → Walk) → Engine
opened_as f =
    open_by (λ x g w l.
    by_answer (ours.opening x g w l)
    (record { said = (ours.opening x g w l).said; walk = f (ours.opening x g w l).walk; rows = (ours.opening x g w l).rows })
    (ours.opening x g w l))

abbrev pub opened_closed : Engine
opened_closed = opened_as (λ w. record { «open» = false; number = w.number; position = w.position })

abbrev pub opened_elsewhere : Engine
opened_elsewhere = opened_as (λ w. record { «open» = w.«open»; number = w.number + 1; position = w.position })

abbrev pub opened_short : Engine
opened_short = opened_as (λ w. record { «open» = w.«open»; number = w.number; position = w.position - 1 })

-- ---- the rules admit none

-- Each field is named for the fault, and gives the wrong engine, the call, and document 01's answer to it: a refusal, or 0.
-- `more` does not give one above the most that refusal, nor `zero` one below the least, though it may go on to a later one.
-- `most-refused` and `one-refused` refuse what is just within.
pub record NoneChecks : Type 0 where
  -- An engine that judges by our tests is ours, and our tests are document 01's checks in order.
  pub unchanged : (o : SheetCall) → judging o (λ a t. t) ≡ ours
  pub in_order : (o : SheetCall) (a : Inputs) → map (λ t. refusal_number t.1) (tests o a) ≡ checks o
  -- Any check of any call left out, 21 among them; any two exchanged, so that 21 comes before 7, or 8 before 21; any moved to the front or the end,
  -- where its number would put 21; any length tested one way only, or not at all, that of the elapsed fractions among them.
  pub skipped : (o : SheetCall) (n : ℕ) → has n (checks o) ≡ true → RuledOut (skipping o n) (answered o (broken_from n n)) n
  pub exchanged : (o : SheetCall) (m n : ℕ) → breakable o m n ≡ true → RuledOut (exchanging o m n) (answered o (broken_from m n)) m
  pub made_first : (o : SheetCall) (m n : ℕ) → breakable o m n ≡ true → RuledOut (firstly o n) (answered o (broken_from m n)) m
  pub made_last : (o : SheetCall) (m n : ℕ) → breakable o m n ≡ true → RuledOut (lastly o m) (answered o (broken_from m n)) m
  pub one_way_lem : (o : SheetCall) (i : ℕ) → has i (places o) ≡ true → (longer : Bool) →
      RuledOut (one_way o i longer) (answered o (resized i longer)) 2
  pub length_unseen : (o : SheetCall) (i : ℕ) → has i (places o) ≡ true → (longer : Bool) →
      RuledOut (unmeasured o i) (answered o (resized i longer)) 2
  -- No fractions taken for zeros, as a deck without any has them.
  pub elapsed_none_taken : ByOpen (measuring Open 4 (λ is due. not (eqb is 0) && differs is due)) (of_elapsed (5 ∷ []) []) 2
  -- 1
  pub names_zero : ByOpen (pool_limits 0 125 1 3650 1 8) (pool 0 1 1) 1
  pub names_one_refused : ByOpen (pool_limits 2 125 1 3650 1 8) (pool 1 1 1) 0
  pub names_most_refused : ByOpen (pool_limits 1 124 1 3650 1 8) (pool 125 1 1) 0
  pub names_more : ByOpen (pool_limits 1 126 1 3650 1 8) (pool 126 1 1) 1
  pub steps_zero : ByOpen (pool_limits 1 125 0 3650 1 8) (pool 1 0 1) 1
  pub steps_one_refused : ByOpen (pool_limits 1 125 2 3650 1 8) (pool 1 1 1) 0
  pub steps_most_refused : ByOpen (pool_limits 1 125 1 3649 1 8) (pool_alone 1 3650 1) 2
  pub steps_more : ByOpen (pool_limits 1 125 1 3651 1 8) (pool_alone 1 3651 1) 1
  pub tranches_zero : ByOpen (pool_limits 1 125 1 3650 0 8) (pool 1 1 0) 1
  pub tranches_one_refused : ByOpen (pool_limits 1 125 1 3650 2 8) (pool 1 1 1) 0
  pub tranches_most_refused : ByOpen (pool_limits 1 125 1 3650 1 7) (pool 1 1 8) 0
  pub tranches_more : ByOpen (pool_limits 1 125 1 3650 1 9) (pool 1 1 9) 1
  -- 2, of the periods; and 25
  pub periods_none : ByOpen (periods_in 0 16 hazards_due) (of_starts [] []) 2
  pub periods_one_refused : ByOpen (periods_in 2 16 hazards_due) (of_starts (1 ∷ []) (0 ∷ [])) 0
  pub periods_most_refused : ByOpen (periods_in 1 15 hazards_due) (of_starts (tab 16 suc) (replicate 16 0)) 0
  pub periods_more : ByOpen (periods_in 1 17 hazards_due) (of_starts (tab 17 suc) (replicate 17 0)) 2
  pub hazards_by_names : ByOpen (periods_in 1 16 (λ x. x.names)) (of_starts (1 ∷ 2 ∷ []) (0 ∷ [])) 2
  pub first_start_less : ByOpen (starts_in (ltb 1) leb (λ x. x.steps)) (of_starts (0 ∷ []) (0 ∷ [])) 25
  pub first_start_more : ByOpen (starts_in (λ s. ltb s 1) leb (λ x. x.steps)) (of_starts (2 ∷ []) (0 ∷ [])) 25
  pub starts_equal : ByOpen (starts_in (λ s. differs s 1) ltb (λ x. x.steps)) (of_starts (1 ∷ 1 ∷ []) (0 ∷ 0 ∷ [])) 25
  pub start_most_refused : ByOpen (starts_in (λ s. differs s 1) leb (λ x. x.steps - 1)) (of_starts (1 ∷ 16 ∷ []) (0 ∷ 0 ∷ [])) 0
  pub start_more : ByOpen (starts_in (λ s. differs s 1) leb (λ x. x.steps + 1)) (of_starts (1 ∷ 17 ∷ []) (0 ∷ 0 ∷ [])) 25
  -- 3 to 8, and 21
  pub recovery_most_refused : ByOpen (recovery_to 999_999_999) (of_recovery 1_000_000_000) 0
  pub recovery_more : ByOpen (recovery_to 1_000_000_001) (of_recovery 1_000_000_001) 3
  pub attachments_equal : ByOpen (attachments_to ltb 1_000_000_000) (of_attachments 5 5) 4
  pub attachment_most_refused : ByOpen (attachments_to leb 999_999_999) (of_attachments 0 1_000_000_000) 0
  pub attachment_more : ByOpen (attachments_to leb 1_000_000_001) (of_attachments 0 1_000_000_001) 4
  pub hazard_most_refused : ByOpen (hazards_to 999_999_999) (of_hazard 1_000_000_000) 0
  pub hazard_more : ByOpen (hazards_to 1_000_000_001) (of_hazard 1_000_000_001) 5
  pub hazard_of_later_period : ByOpen first_hazards (of_starts (1 ∷ 2 ∷ []) (0 ∷ 1_000_000_001 ∷ [])) 5
  pub discount_zero : ByOpen (discounts_in 0 1_000_000_000) (of_discount 0) 6
  pub discount_one_refused : ByOpen (discounts_in 2 1_000_000_000) (of_discount 1) 0
  pub discount_most_refused : ByOpen (discounts_in 1 999_999_999) (of_discount 1_000_000_000) 0
  pub discount_more : ByOpen (discounts_in 1 1_000_000_001) (of_discount 1_000_000_001) 6
  pub accrual_most_refused : ByOpen (accruals_in 999_999_999 10_000_000_000 1) (of_accruals (1_000_000_000 ∷ [])) 0
  pub accrual_more : ByOpen (accruals_in 1_000_000_001 10_000_000_000 1) (of_accruals (1_000_000_001 ∷ [])) 7
  pub total_most_refused : ByOpen (accruals_in 1_000_000_000 9_999_999_999 1) (of_accruals (replicate 10 1_000_000_000)) 0
  pub total_more : ByOpen (accruals_in 1_000_000_000 10_000_000_001 1) (of_accruals (replicate 10 1_000_000_000 ++ (1 ∷ []))) 7
  pub last_zero : ByOpen (accruals_in 1_000_000_000 10_000_000_000 0) (of_accruals (1 ∷ 0 ∷ [])) 7
  pub last_one_refused : ByOpen (accruals_in 1_000_000_000 10_000_000_000 2) (of_accruals (0 ∷ 1 ∷ [])) 0
  pub elapsed_most_refused : ByOpen (elapsed_to (λ x i. next_of x i - 1)) (of_elapsed (5 ∷ []) (5 ∷ [])) 0
  pub elapsed_more : ByOpen (elapsed_to (λ x i. next_of x i + 1)) (of_elapsed (5 ∷ []) (6 ∷ [])) 21
  pub elapsed_by_own_step : ByOpen (elapsed_to (λ x i. get_or x.accruals i 0)) (of_elapsed (0 ∷ 5 ∷ []) (5 ∷ 0 ∷ [])) 0
  pub elapsed_by_date_before : ByOpen (elapsed_to (λ x i. last_accrual (take i x.accruals))) (of_elapsed (9 ∷ 5 ∷ []) (0 ∷ 6 ∷ [])) 21
  pub elapsed_by_date_until : ByOpen (elapsed_to (λ x i. last_accrual (take (suc i) x.accruals))) (of_elapsed (9 ∷ 0 ∷ 5 ∷ []) (0 ∷ 6 ∷ 0 ∷ [])) 21
  pub elapsed_by_date_after : ByOpen (elapsed_to (λ x i. next_of x (suc i))) (of_elapsed (5 ∷ 9 ∷ []) (6 ∷ 0 ∷ [])) 21
  pub elapsed_by_last_date : ByOpen (elapsed_to (λ x i. accrual_of x x.steps)) (of_elapsed (5 ∷ 9 ∷ []) (6 ∷ 0 ∷ [])) 21
  pub elapsed_by_a_year : ByOpen (elapsed_to (λ x i. 1_000_000_000)) (of_elapsed (5 ∷ []) (6 ∷ [])) 21
  pub coupon_most_refused : ByOpen (coupons_to 9_999_999) (of_coupon 10_000_000) 0
  pub coupon_more : ByOpen (coupons_to 10_000_001) (of_coupon 10_000_001) 8
  -- 11 and 12, in back, value and hedge ratio
  pub closed_taken : ByWalking closed_taken (record { «open» = false; number = 7; position = 1 }) clean 11
  pub other_number_taken : ByWalking other_number_taken (record { «open» = true; number = 8; position = 1 }) clean 11
  pub position_most_refused : ByWalking (position_to (λ x. x.steps - 1)) (walk_at 1) clean 0
  pub position_more : ByWalking (position_to (λ x. x.steps + 1)) (walk_at 2) clean 11
  pub defaults_unseen : ByWalking defaults_unseen (walk_at 1) (rows_of (6 ∷ 0 ∷ 0 ∷ 0 ∷ []) (replicate 4 0)) 12
  pub premiums_unseen : ByWalking premiums_unseen (walk_at 1) (premiums_lent 2 0) 12
  pub ceiling_without_loss : ByWalking (ceilings_to tranche_unlost premium_most) (walk_at 1) (rows_of (0 ∷ 1 ∷ 0 ∷ 0 ∷ []) (replicate 4 0)) 12
  pub index_ceiling_without_loss : ByWalking (ceilings_to index_unlost premium_most) (walk_at 1) (rows_of (0 ∷ 0 ∷ 0 ∷ 1 ∷ []) (replicate 4 0)) 12
  -- What a tranche has outstanding in place of what it has left to lose, where all but a unit is recovered: nothing, and all but a unit.
  pub ceiling_of_outstanding : ByWalkCalls (ceilings_to tranche_left premium_most)
      (inputs (terms 999_999_999 0 1_000_000_000 0 1 (1 ∷ []) (0 ∷ []) 0) live (walk_at 1)
      (rows_of (0 ∷ 1 ∷ 0 ∷ 0 ∷ []) (replicate 4 0)) (0 ∷ 0 ∷ []) 0 0 0) 0
  -- Of the premium legs: at the root of the uneven pool the accruals, 3 for the names and 4 for the steps; on the small sheet 4 at its root, at the
  -- count 0, and in the last step 1 at the count 0 and 0 at the count 1.
  pub premium_most_refused : ByWalkCalls (ceilings_to default_most (λ x i k. premium_most x i k - 1)) (unevenly_lent 503_000_007) 0
  pub premium_more : ByWalkCalls (ceilings_to default_most (λ x i k. premium_most x i k + 1)) (unevenly_lent 503_000_008) 12
  pub ceiling_of_accruals_alone : ByWalking (premiums_to accruals_after (λ x k. 0) (λ x i. 0)) (walk_at 1) (premiums_lent 1 0) 0
  pub ceiling_of_all_accruals : ByWalking (premiums_to (λ x i. sum_of x.accruals) names_left steps_twice) (walk_at 1) (premiums_lent 2 0) 12
  pub ceiling_without_names : ByWalking (premiums_to accruals_after (λ x k. 0) steps_twice) (walk_at 1) (premiums_lent 1 0) 0
  pub ceiling_of_all_names : ByWalking (premiums_to accruals_after (λ x k. x.names) steps_twice) (walk_at 1) (premiums_lent 0 1) 12
  pub ceiling_of_steps_once : ByWalking (premiums_to accruals_after names_left (λ x i. x.steps - i)) (walk_at 0) (premiums_lent 4 0) 0
  pub ceiling_of_all_steps : ByWalking (premiums_to accruals_after names_left (λ x i. 2 * x.steps)) (walk_at 1) (premiums_lent 2 0) 12
  -- 13, 14 and 16
  pub back_more : By Back (steps_to (λ a. a.walk.position + 1)) 2 0 0 13
  pub forward_most_refused : By Forward (steps_to (λ a. a.sheet.sheet.steps - 1)) 1 0 0 0
  pub forward_more : By Forward (steps_to (λ a. a.sheet.sheet.steps + 1)) 2 0 0 13
  pub value_tranche_most_refused : By Value (nodes_to (λ x. x.tranches - 1) (λ x. x.names)) 0 1 0 0
  pub value_tranche_more : By Value (nodes_to (λ x. x.tranches + 1) (λ x. x.names)) 0 2 0 14
  pub value_count_most_refused : By Value (nodes_to (λ x. x.tranches) (λ x. x.names - 1)) 0 0 1 0
  pub value_count_more : By Value (nodes_to (λ x. x.tranches) (λ x. x.names + 1)) 0 0 2 14
  pub ratio_tranche_most_refused : By Ratio (nodes_to (λ x. x.tranches - 1) (λ x. x.names - 1)) 0 1 0 0
  pub ratio_tranche_more : By Ratio (nodes_to (λ x. x.tranches + 1) (λ x. x.names - 1)) 0 2 0 14
  pub ratio_count_most_refused : RuledOut (nodes_to (λ x. x.tranches) (λ x. x.names - 2) Ratio)
      (answered Ratio (inputs (deck.sheet 7) live (walk_at 2) (zeros (deck.sheet 7)) [] 0 0 1)) 0
  pub ratio_count_more : By Ratio (nodes_to (λ x. x.tranches) (λ x. x.names)) 0 0 1 14
  pub scale_equal : RuledOut scale_equal (answered Ratio (broken_from 16 16)) 16
  pub scale_early : RuledOut scale_early (answered Ratio near_scale) 0
  -- 2, 9, 10 and 17 of issue and withdraw. No number is withdrawn and live, or withdrawn and unissued, so 9 is exchanged with 2 alone.
  pub issue_longer : RuledOut (issue_on (λ g y. take 256 g)) (issue_answered (replicate 257 0xFF)) 2
  pub issue_shorter : RuledOut (issue_on (λ g y. g ++ replicate (256 - length g) 0xFF)) (issue_answered (replicate 255 0xFF)) 2
  pub issue_withdrawn_first : RuledOut (issue_first 9 is_withdrawn) (issue_answered (replicate 255 0x00)) 2
  pub issue_live_first : RuledOut (issue_first 17 is_live) (issue_answered (replicate 255 0xA5)) 2
  pub issue_live : RuledOut (issue_on (λ g y. cond (is_live (status_in g y)) (set g y 0xFF) g)) (issue_answered live) 17
  pub withdraw_longer : RuledOut (withdraw_on (λ g y. take 256 g)) (withdraw_answered (replicate 257 0xA5)) 2
  pub withdraw_shorter : RuledOut (withdraw_on (λ g y. g ++ replicate (256 - length g) 0xA5)) (withdraw_answered (replicate 255 0xA5)) 2
  pub withdraw_withdrawn_first : RuledOut (withdraw_first 9 is_withdrawn) (withdraw_answered (replicate 255 0x00)) 2
  pub withdraw_unissued_first : RuledOut (withdraw_first 10 is_unissued) (withdraw_answered (replicate 255 0xFF)) 2
  pub withdraw_withdrawn :
      RuledOut (withdraw_on (λ g y. cond (is_withdrawn (status_in g y)) (set g y 0xA5) g)) (withdraw_answered (set blank_register 7 0x00)) 9
  pub withdraw_unissued : RuledOut (withdraw_on (λ g y. cond (is_unissued (status_in g y)) (set g y 0xA5) g)) (withdraw_answered blank_register) 10
  -- Demand 3 rules out any other walk after an open. A fresh walk is closed: an open one would be the walk of the number 0.
  pub opened_closed : Demand3 opened_closed → ⊥
  pub opened_elsewhere : Demand3 opened_elsewhere → ⊥
  pub opened_short : Demand3 opened_short → ⊥
  pub fresh_closed : Plays deck ((issue 0, says []) ∷ (back 0 own_rows 0, refused 11) ∷ (value 0 own_rows 0 0, refused 11) ∷ [])

-- ---- the families with document 01's own limits

-- Each is ours, so that the fault of an engine above is the one it is named for.
pub record Unmoved : Type 0 where
  pub lengths : (o : SheetCall) → measuring o 4 differs ≡ ours
  pub pool : pool_limits 1 125 1 3650 1 8 ≡ ours
  pub recovery : recovery_to 1_000_000_000 ≡ ours
  pub attachments : attachments_to leb 1_000_000_000 ≡ ours
  pub periods : periods_in 1 16 hazards_due ≡ ours
  pub starts : starts_in (λ s. differs s 1) leb (λ x. x.steps) ≡ ours
  pub hazards : hazards_to 1_000_000_000 ≡ ours
  pub discounts : discounts_in 1 1_000_000_000 ≡ ours
  pub accruals : accruals_in 1_000_000_000 10_000_000_000 1 ≡ ours
  pub elapsed : elapsed_to next_of ≡ ours
  pub coupons : coupons_to 10_000_000 ≡ ours
  pub position : (o : SheetCall) → position_to (λ x. x.steps) o ≡ ours
  pub ceilings : (o : SheetCall) → ceilings_to default_most premium_most o ≡ ours
  pub premiums : (o : SheetCall) → premiums_to accruals_after names_left steps_twice o ≡ ours
  pub back_steps_lem : steps_to (λ a. a.walk.position) Back ≡ ours
  pub forward_steps : steps_to (λ a. a.sheet.sheet.steps) Forward ≡ ours
  pub value_nodes : nodes_to (λ x. x.tranches) (λ x. x.names) Value ≡ ours
  pub ratio_nodes : nodes_to (λ x. x.tranches) (λ x. x.names - 1) Ratio ≡ ours
  pub scale : scale_by (λ index tranche. leb (1_000_000 * index) tranche) ≡ ours
  pub issue : issue_on (λ g y. g) ≡ ours
  pub withdraw : withdraw_on (λ g y. g) ≡ ours
