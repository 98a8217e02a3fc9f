-- No engine with a wrong check keeps to the rules: they admit ours alone, which answers the call that shows the fault otherwise.
use Rattle.std.proofs.Common.{ℕ, zero, suc, pred, ◌+◌, ◌-◌, ◌*◌, ◌≡◌, refl, sym, ◌∙◌, ap, subst, Bool, true, false, not, ◌&&◌, ◌||◌, true≢false, List}
use Rattle.std.proofs.Common.{[], ◌∷◌, map, arith, length, get_or, leb, ltb, eqb, ℤ, eqb-true}
use lib.Dec.{leb-suc-suc, leb-suc-zero, eqb-suc-zero}
use borrow.Author.Tests.{eqb-false, not-true}
use Rattle.hedges.specs.Hedges.{ratio_of}
use Rattle.std.proofs.lemmas.Bool.{and_parts as both}
use Rattle.sheet.specs.Terms.{sum_of}
use Rattle.tree.specs.Sheet.{default_most, premium_most}
use Rattle.rows.specs.Tables.{any}
use Rattle.sheet.specs.Brought.{Brought}
use Rattle.refusals.specs.declared.Refusal.{Refusal}
use Rattle.refusals.specs.declared.Refusal.TheVariants.{Pool}
use Rattle.refusals.specs.Refusals.{refusal_number}
use Rattle.lists.specs.Outside.{outside}
use Rattle.refusals.specs.Tests.{differs, pool_bad, lists_bad, Test, first}
use Rattle.admission.specs.LentTests.{rows_bad}
use Rattle.walk.specs.declared.Walk.{Walk}
use Rattle.figures.specs.Answer as Answer
use Rattle.rows.specs.Rows.{Rows, row_length}
use Rattle.walk.specs.CallRules.{WalkResult}
use Rattle.figures.specs.Nodes.{jump}
use Rattle.walk.specs.Calls.{ratio_tests, or_outcome}
use Rattle.walk.specs.Engine.{Engine}
use Rattle.walk.specs.Promise.{Demand3}
use Rattle.walk.specs.OurEngine.{walk_result, ours}
use Rattle.walk.proofs.Uniqueness.{only_one}
use Rattle.wrong.specs.Substitutes.{ratio_by}
use Rattle.wrong.specs.Checks.{SheetCall, Open, Back, Value, Ratio, Forward, Inputs, answered, tests, RuledOut, judging, skipping, exchanging, firstly, lastly, checks, has, breakable, broken_from, places, measuring, one_way, unmeasured, resized, opened_closed, opened_elsewhere, opened_short, NoneChecks, replaced, tested, accruals_in, position_to, ceilings_to, premiums_to, accruals_after, names_left, steps_twice, nodes_to, Unmoved}
use Rattle.wrong.specs.Examples.{deck, answers_of}
use Rattle.wrong.proofs.Computing.{computed}
use Rattle.wrong.proofs.Refuted.{found, opened}

-- ---- one call

abbrev shows : Engine → (Engine → ℕ) → ℕ → Bool
shows e answer n = eqb (answer ours) n && not (eqb (answer e) n)

ruled_out : {e : Engine} {answer : Engine → ℕ} {n : ℕ} → shows e answer n ≡ true → RuledOut e answer n
ruled_out {e} {answer} {n} h =
    let p = both (eqb (answer ours) n) (not (eqb (answer e) n)) h in
    let due : answer ours ≡ n = eqb-true (answer ours) n p.0 in
    let other : answer e ≡ n → ⊥ = eqb-false (answer e) n (not-true _ p.1) in
    record { due = due; other = other; refuted = λ r. other (ap answer (only_one e r) ∙ due) }

-- ---- all of a list of numbers

abbrev all : List ℕ → (ℕ → Bool) → Bool
all [] f = true
all (n ∷ l) f = f n && all l f

one_of : (l : List ℕ) (f : ℕ → Bool) → all l f ≡ true → (n : ℕ) → has n l ≡ true → f n ≡ true
one_of [] f t n h = absurd (true≢false (sym h))
one_of (m ∷ l) f t n h = go (eqb m n) refl h (one_of l f (both (f m) _ t).1 n)
  where
    go : (b : Bool) → eqb m n ≡ b → (b || has n l) ≡ true → (has n l ≡ true → f n ≡ true) → f n ≡ true
    go true e p more = subst (λ i. f i ≡ true) (eqb-true m n e) (both (f m) _ t).0
    go false e p more = more p

implied : (a b : Bool) → (not a || b) ≡ true → a ≡ true → b ≡ true
implied true b t h = t
implied false b t h = absurd (true≢false (sym h))

-- ---- a check left out

unfoldable skip : SheetCall → ℕ → Bool
skip o n = shows (skipping o n) (answered o (broken_from n n)) n

skips : (o : SheetCall) → all (checks o) (skip o) ≡ true
unfolding computed skip
skips Open = refl
skips Back = refl
skips Value = refl
skips Ratio = refl
skips Forward = refl

skipped : (o : SheetCall) (n : ℕ) → has n (checks o) ≡ true → RuledOut (skipping o n) (answered o (broken_from n n)) n
unfolding skip
skipped o n h = ruled_out (one_of (checks o) (skip o) (skips o) n h)

-- ---- two checks exchanged

unfoldable swap : SheetCall → ℕ → ℕ → Bool
swap o m n = shows (exchanging o m n) (answered o (broken_from m n)) m

swaps : (o : SheetCall) → all (checks o) (λ m. all (checks o) (λ n. not (breakable o m n) || swap o m n)) ≡ true
unfolding computed swap
swaps Open = refl
swaps Back = refl
swaps Value = refl
swaps Ratio = refl
swaps Forward = refl

-- What holds of all pairs of checks, of two that a call can break.
pairwise : (o : SheetCall) (f : ℕ → ℕ → Bool) → all (checks o) (λ m. all (checks o) (λ n. not (breakable o m n) || f m n)) ≡ true →
    (m n : ℕ) → breakable o m n ≡ true → f m n ≡ true
pairwise o f t m n h =
    let g : ℕ → ℕ → Bool = λ m n. not (breakable o m n) || f m n in
    let p = both (has m (checks o)) _ h in
    let q = both (has n (checks o)) _ p.1 in
    implied (breakable o m n) (f m n) (one_of (checks o) (g m) (one_of (checks o) (λ m. all (checks o) (g m)) t m p.0) n q.0) h

exchanged : (o : SheetCall) (m n : ℕ) → breakable o m n ≡ true → RuledOut (exchanging o m n) (answered o (broken_from m n)) m
unfolding swap
exchanged o m n h = ruled_out (pairwise o (swap o) (swaps o) m n h)

-- ---- a check moved

unfoldable ahead : SheetCall → ℕ → ℕ → Bool
ahead o m n = shows (firstly o n) (answered o (broken_from m n)) m

all_ahead : (o : SheetCall) → all (checks o) (λ m. all (checks o) (λ n. not (breakable o m n) || ahead o m n)) ≡ true
unfolding computed ahead
all_ahead Open = refl
all_ahead Back = refl
all_ahead Value = refl
all_ahead Ratio = refl
all_ahead Forward = refl

made_first : (o : SheetCall) (m n : ℕ) → breakable o m n ≡ true → RuledOut (firstly o n) (answered o (broken_from m n)) m
unfolding ahead
made_first o m n h = ruled_out (pairwise o (ahead o) (all_ahead o) m n h)

unfoldable behind : SheetCall → ℕ → ℕ → Bool
behind o m n = shows (lastly o m) (answered o (broken_from m n)) m

all_behind : (o : SheetCall) → all (checks o) (λ m. all (checks o) (λ n. not (breakable o m n) || behind o m n)) ≡ true
unfolding computed behind
all_behind Open = refl
all_behind Back = refl
all_behind Value = refl
all_behind Ratio = refl
all_behind Forward = refl

made_last : (o : SheetCall) (m n : ℕ) → breakable o m n ≡ true → RuledOut (lastly o m) (answered o (broken_from m n)) m
unfolding behind
made_last o m n h = ruled_out (pairwise o (behind o) (all_behind o) m n h)

-- ---- a length tested one way

unfoldable half : SheetCall → Bool → ℕ → Bool
half o longer i = shows (one_way o i longer) (answered o (resized i longer)) 2

halves : (o : SheetCall) (longer : Bool) → all (places o) (half o longer) ≡ true
unfolding computed half
halves Open true = refl
halves Open false = refl
halves Back true = refl
halves Back false = refl
halves Value true = refl
halves Value false = refl
halves Ratio true = refl
halves Ratio false = refl
halves Forward true = refl
halves Forward false = refl

one_way_lem : (o : SheetCall) (i : ℕ) → has i (places o) ≡ true → (longer : Bool) → RuledOut (one_way o i longer) (answered o (resized i longer)) 2
unfolding half
one_way_lem o i h longer = ruled_out (one_of (places o) (half o longer) (halves o longer) i h)

-- ---- a length not tested

unfoldable unseen : SheetCall → Bool → ℕ → Bool
unseen o longer i = shows (unmeasured o i) (answered o (resized i longer)) 2

all_unseen : (o : SheetCall) (longer : Bool) → all (places o) (unseen o longer) ≡ true
unfolding computed unseen
all_unseen Open true = refl
all_unseen Open false = refl
all_unseen Back true = refl
all_unseen Back false = refl
all_unseen Value true = refl
all_unseen Value false = refl
all_unseen Ratio true = refl
all_unseen Ratio false = refl
all_unseen Forward true = refl
all_unseen Forward false = refl

length_unseen : (o : SheetCall) (i : ℕ) → has i (places o) ≡ true → (longer : Bool) → RuledOut (unmeasured o i) (answered o (resized i longer)) 2
unfolding unseen
length_unseen o i h longer = ruled_out (one_of (places o) (unseen o longer) (all_unseen o longer) i h)

-- ---- ours

unchanged : (o : SheetCall) → judging o (λ a t. t) ≡ ours
unfolding computed
unchanged Open = refl
unchanged Back = refl
unchanged Value = refl
unchanged Ratio = refl
unchanged Forward = refl

in_order : (o : SheetCall) (a : Inputs) → map (λ (t : Test). refusal_number t.1) (tests o a) ≡ checks o
unfolding computed
in_order Open a = refl
in_order Back a = refl
in_order Value a = refl
in_order Ratio a = refl
in_order Forward a = refl

-- ---- the walk that an open leaves

not_opened_closed : Demand3 opened_closed → ⊥
unfolding computed
not_opened_closed d = true≢false (sym (ap (λ (w : Walk). w.«open») (found d deck (opened []) 0 refl refl refl).walk))

not_opened_elsewhere : Demand3 opened_elsewhere → ⊥
unfolding computed
not_opened_elsewhere d = omega (arith, ap (λ (w : Walk). w.number) (found d deck (opened []) 0 refl refl refl).walk)

not_opened_short : Demand3 opened_short → ⊥
unfolding computed
not_opened_short d = omega (arith, ap (λ (w : Walk). w.position) (found d deck (opened []) 0 refl refl refl).walk)

pub none_checks : NoneChecks
unfolding computed answers_of
none_checks =
    record {
      unchanged = unchanged;
      in_order = in_order;
      skipped = skipped;
      exchanged = exchanged;
      made_first = made_first;
      made_last = made_last;
      one_way_lem = one_way_lem;
      length_unseen = length_unseen;
      elapsed_none_taken = ruled_out refl;
      names_zero = ruled_out refl;
      names_one_refused = ruled_out refl;
      names_most_refused = ruled_out refl;
      names_more = ruled_out refl;
      steps_zero = ruled_out refl;
      steps_one_refused = ruled_out refl;
      steps_most_refused = ruled_out refl;
      steps_more = ruled_out refl;
      tranches_zero = ruled_out refl;
      tranches_one_refused = ruled_out refl;
      tranches_most_refused = ruled_out refl;
      tranches_more = ruled_out refl;
      periods_none = ruled_out refl;
      periods_one_refused = ruled_out refl;
      periods_most_refused = ruled_out refl;
      periods_more = ruled_out refl;
      hazards_by_names = ruled_out refl;
      first_start_less = ruled_out refl;
      first_start_more = ruled_out refl;
      starts_equal = ruled_out refl;
      start_most_refused = ruled_out refl;
      start_more = ruled_out refl;
      recovery_most_refused = ruled_out refl;
      recovery_more = ruled_out refl;
      attachments_equal = ruled_out refl;
      attachment_most_refused = ruled_out refl;
      attachment_more = ruled_out refl;
      hazard_most_refused = ruled_out refl;
      hazard_more = ruled_out refl;
      hazard_of_later_period = ruled_out refl;
      discount_zero = ruled_out refl;
      discount_one_refused = ruled_out refl;
      discount_most_refused = ruled_out refl;
      discount_more = ruled_out refl;
      accrual_most_refused = ruled_out refl;
      accrual_more = ruled_out refl;
      total_most_refused = ruled_out refl;
      total_more = ruled_out refl;
      last_zero = ruled_out refl;
      last_one_refused = ruled_out refl;
      elapsed_most_refused = ruled_out refl;
      elapsed_more = ruled_out refl;
      elapsed_by_own_step = ruled_out refl;
      elapsed_by_date_before = ruled_out refl;
      elapsed_by_date_until = ruled_out refl;
      elapsed_by_date_after = ruled_out refl;
      elapsed_by_last_date = ruled_out refl;
      elapsed_by_a_year = ruled_out refl;
      coupon_most_refused = ruled_out refl;
      coupon_more = ruled_out refl;
      closed_taken = record { back = ruled_out refl; value = ruled_out refl; ratio = ruled_out refl };
      other_number_taken = record { back = ruled_out refl; value = ruled_out refl; ratio = ruled_out refl };
      position_most_refused = record { back = ruled_out refl; value = ruled_out refl; ratio = ruled_out refl };
      position_more = record { back = ruled_out refl; value = ruled_out refl; ratio = ruled_out refl };
      defaults_unseen = record { back = ruled_out refl; value = ruled_out refl; ratio = ruled_out refl };
      premiums_unseen = record { back = ruled_out refl; value = ruled_out refl; ratio = ruled_out refl };
      ceiling_without_loss = record { back = ruled_out refl; value = ruled_out refl; ratio = ruled_out refl };
      index_ceiling_without_loss = record { back = ruled_out refl; value = ruled_out refl; ratio = ruled_out refl };
      ceiling_of_outstanding = record { back = ruled_out refl; value = ruled_out refl; ratio = ruled_out refl };
      premium_most_refused = record { back = ruled_out refl; value = ruled_out refl; ratio = ruled_out refl };
      premium_more = record { back = ruled_out refl; value = ruled_out refl; ratio = ruled_out refl };
      ceiling_of_accruals_alone = record { back = ruled_out refl; value = ruled_out refl; ratio = ruled_out refl };
      ceiling_of_all_accruals = record { back = ruled_out refl; value = ruled_out refl; ratio = ruled_out refl };
      ceiling_without_names = record { back = ruled_out refl; value = ruled_out refl; ratio = ruled_out refl };
      ceiling_of_all_names = record { back = ruled_out refl; value = ruled_out refl; ratio = ruled_out refl };
      ceiling_of_steps_once = record { back = ruled_out refl; value = ruled_out refl; ratio = ruled_out refl };
      ceiling_of_all_steps = record { back = ruled_out refl; value = ruled_out refl; ratio = ruled_out refl };
      back_more = ruled_out refl;
      forward_most_refused = ruled_out refl;
      forward_more = ruled_out refl;
      value_tranche_most_refused = ruled_out refl;
      value_tranche_more = ruled_out refl;
      value_count_most_refused = ruled_out refl;
      value_count_more = ruled_out refl;
      ratio_tranche_most_refused = ruled_out refl;
      ratio_tranche_more = ruled_out refl;
      ratio_count_most_refused = ruled_out refl;
      ratio_count_more = ruled_out refl;
      scale_equal = ruled_out refl;
      scale_early = ruled_out refl;
      issue_longer = ruled_out refl;
      issue_shorter = ruled_out refl;
      issue_withdrawn_first = ruled_out refl;
      issue_live_first = ruled_out refl;
      issue_live = ruled_out refl;
      withdraw_longer = ruled_out refl;
      withdraw_shorter = ruled_out refl;
      withdraw_withdrawn_first = ruled_out refl;
      withdraw_unissued_first = ruled_out refl;
      withdraw_withdrawn = ruled_out refl;
      withdraw_unissued = ruled_out refl;
      opened_closed = not_opened_closed;
      opened_elsewhere = not_opened_elsewhere;
      opened_short = not_opened_short;
      fresh_closed = refl;
    }

-- ---- the families with document 01's own limits

-- The lengths of a sheet's own lists, the number of its periods first, and then others.
regroup : (s a h d c e u l : Bool) → (s || (a || (h || (d || (c || (e || (u || l))))))) ≡ (a || (s || h) || d || c || e || u || l)
regroup true true h d c e u l = refl
regroup true false h d c e u l = refl
regroup false true h d c e u l = refl
regroup false false true d c e u l = refl
regroup false false false true c e u l = refl
regroup false false false false true e u l = refl
regroup false false false false false true u l = refl
regroup false false false false false false true l = refl
regroup false false false false false false false l = refl

-- Three more, or two.
three : (g p q : Bool) → (g || (p || (q || false))) ≡ (g || p || q)
three true p q = refl
three false true q = refl
three false false true = refl
three false false false = refl

two : (g p : Bool) → (g || (p || false)) ≡ (g || p)
two true p = refl
two false true = refl
two false false = refl

-- 2 by its lengths one after the other, those lent last.
module _ (x : Brought) where
  abbrev starts : Bool
  starts = outside 1 16 (length x.sheet.starts)

  abbrev attachments : Bool
  attachments = differs (length x.sheet.attachments) (x.sheet.tranches + 1)

  abbrev hazards : Bool
  hazards = differs (length x.sheet.hazards) (length x.sheet.starts * x.sheet.names)

  abbrev discounts : Bool
  discounts = differs (length x.sheet.discounts) x.sheet.steps

  abbrev accruals : Bool
  accruals = differs (length x.sheet.accruals) x.sheet.steps

  abbrev elapsed : Bool
  elapsed = differs (length x.sheet.elapsed) x.sheet.steps

  abbrev coupons : Bool
  coupons = differs (length x.coupons) (x.sheet.tranches + 1)

  by_lengths : (l m : Bool) → l ≡ m →
      (starts || (attachments || (hazards || (discounts || (accruals || (elapsed || (coupons || l))))))) ≡ (lists_bad x || m)
  unfolding computed
  by_lengths l m e = regroup starts attachments hazards discounts accruals elapsed coupons l ∙ ap (λ b. lists_bad x || b) e

  walk_lengths : (g : List ℕ) (l : Rows) →
      (differs (length g) 256 || (differs (length l.defaults) (row_length x.sheet) || (differs (length l.premiums) (row_length x.sheet) || false)))
      ≡ rows_bad x g l
  unfolding computed
  walk_lengths g l = three (differs (length g) 256) (differs (length l.defaults) (row_length x.sheet)) (differs (length l.premiums) (row_length x.sheet))

lengths_unmoved : (o : SheetCall) → measuring o 4 differs ≡ ours
unfolding computed
lengths_unmoved Open = λ t. tested 2 (λ a. by_lengths a.sheet _ _ (walk_lengths a.sheet a.register a.rows) t) Open
lengths_unmoved Back = λ t. tested 2 (λ a. by_lengths a.sheet _ _ (walk_lengths a.sheet a.register a.rows) t) Back
lengths_unmoved Value = λ t. tested 2 (λ a. by_lengths a.sheet _ _ (walk_lengths a.sheet a.register a.rows) t) Value
lengths_unmoved Ratio = λ t. tested 2 (λ a. by_lengths a.sheet _ _ (walk_lengths a.sheet a.register a.rows) t) Ratio
lengths_unmoved Forward =
    λ t. tested 2 (λ a. by_lengths a.sheet _ _ (two (differs (length a.register) 256) (differs (length a.row) (a.sheet.sheet.names + 1))) t) Forward

position_unmoved : (o : SheetCall) → position_to (λ x. x.steps) o ≡ ours
unfolding computed
position_unmoved Open = refl
position_unmoved Back = refl
position_unmoved Value = refl
position_unmoved Ratio = refl
position_unmoved Forward = refl

ceilings_unmoved : (o : SheetCall) → ceilings_to default_most premium_most o ≡ ours
unfolding computed
ceilings_unmoved Open = refl
ceilings_unmoved Back = refl
ceilings_unmoved Value = refl
ceilings_unmoved Ratio = refl
ceilings_unmoved Forward = refl

premiums_unmoved : (o : SheetCall) → premiums_to accruals_after names_left steps_twice o ≡ ours
unfolding computed
premiums_unmoved Open = refl
premiums_unmoved Back = refl
premiums_unmoved Value = refl
premiums_unmoved Ratio = refl
premiums_unmoved Forward = refl

-- Below 1 is 0.
below_one : (n : ℕ) → ltb n 1 ≡ eqb n 0
below_one zero = refl
below_one (suc n) = leb-suc-suc (suc n) 0 ∙ leb-suc-zero n ∙ sym (eqb-suc-zero n)

accruals_unmoved : accruals_in 1_000_000_000 10_000_000_000 1 ≡ ours
unfolding computed
accruals_unmoved t =
    tested 7 (λ a.
    any a.sheet.sheet.steps (λ i. ltb 1_000_000_000 (get_or a.sheet.sheet.accruals i 0))
    || ltb 10_000_000_000 (sum_of a.sheet.sheet.accruals)
    || below_one (get_or a.sheet.sheet.accruals (pred a.sheet.sheet.steps) 0) t) Open

-- The tests after one that is met are not looked at.
met : (b : Bool) → b ≡ true → (r : Refusal) (l m : List Test) → first ((b, r) ∷ l) ≡ first ((b, r) ∷ m)
unfolding first
met true e r l m = refl
met false e r l m = absurd (true≢false (sym e))

abbrev later : List Test → List Test
later [] = []
later (t ∷ l) = l

-- Above n - 1 is from n on, unless n is 0, which is refused with 1.
module _ (x : Brought) (g : List ℕ) (w : Walk) (l : Rows) (j k : ℕ) where
  -- by another test of 14
  abbrev off : Bool → WalkResult
  off b = (tested 14 (λ a. ltb x.sheet.tranches j || b) Ratio).ratio x g w l j k

  ratio_at : (n : ℕ) → x.sheet.names ≡ n → off (ltb (x.sheet.names - 1) k) ≡ off (leb x.sheet.names k)
  unfolding computed
  ratio_at zero e =
      let bad : pool_bad x.sheet ≡ true = ap (λ n. outside 1 125 n || outside 1 3650 x.sheet.steps || outside 1 8 x.sheet.tranches) e in
      let rest : Bool → List Test = λ b. later (replaced 14 (ltb x.sheet.tranches j || b) (ratio_tests x g w l j k)) in
      let r : ℤ = ratio_of (jump x l j k) (jump x l x.sheet.tranches k) in
      ap (λ s. walk_result (or_outcome s w l (record { answer = Answer.Ratio r; walk = w; rows = l })))
      (met (pool_bad x.sheet) bad Pool (rest (ltb (x.sheet.names - 1) k)) (rest (leb x.sheet.names k)))
  ratio_at (suc n) e = ap (λ m. off (leb m k)) (omega (arith, e))

ratio_unmoved : nodes_to (λ x. x.tranches) (λ x. x.names - 1) Ratio ≡ ours
unfolding computed
ratio_unmoved t = ratio_by (λ x g w l j k. ratio_at x g w l j k x.sheet.names refl t)

pub unmoved : Unmoved
unfolding computed
unmoved =
    record {
      lengths = lengths_unmoved;
      pool = refl;
      recovery = refl;
      attachments = refl;
      periods = refl;
      starts = refl;
      hazards = refl;
      discounts = refl;
      accruals = accruals_unmoved;
      elapsed = refl;
      coupons = refl;
      position = position_unmoved;
      ceilings = ceilings_unmoved;
      premiums = premiums_unmoved;
      back_steps_lem = refl;
      forward_steps = refl;
      value_nodes = refl;
      ratio_nodes = ratio_unmoved;
      scale = refl;
      issue = refl;
      withdraw = refl;
    }
