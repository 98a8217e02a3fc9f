-- Over every list of calls our call takes one step off for each turn, and is fair.
use Rattle.std.proofs.Common.{ℕ, suc, ◌+◌, ◌<◌, ◌≡◌, refl, sym, ap, ◌∙◌, ◌≢◌, Bool, true, false, List, [], ◌∷◌, ◌++◌, arith, length, get_or, drop}
use Rattle.std.proofs.Common.{take_at}
use Rattle.walk.specs.declared.Walk.{Walk}
use Rattle.places.specs.Places.{Stretch, turns_of, taken, Outcome, served}
use Rattle.places.proofs.Partway.{served_refused, served_taken, served_length}
use Rattle.rounds.specs.Rounds.{turns_at}
use Rattle.rounds.proofs.Turns.{at_none, at_append, at_other, fair_turns, split_places, turns_add, turns_zero}
use Rattle.turns.specs.declared.Turn.{Turn}
use Rattle.turns.specs.Table.{steps_of, with_steps}
use Rattle.turns.specs.Turns.{on_table}
use Rattle.turns.proofs.Copies.{length_steps}
use Rattle.fairness.specs.Promise.{Result, Call, table_of, named_in, called_on, named, left_by, HasLeft, Fair, TakesOff, Keeps, result_of, ours}
use Rattle.fairness.proofs.Promise.{our_rule}

-- ---- tables and their steps left

pub steps_of_table : (left : List ℕ) (walks : ℕ → Walk) → steps_of (table_of walks left) ≡ left
steps_of_table [] walks = refl
steps_of_table (x ∷ left) walks = ap (λ (l : List ℕ). x ∷ l) (steps_of_table left (λ p. walks (suc p)))

pub steps_with : (table : List Turn) (left : List ℕ) → length left ≡ length table → steps_of (with_steps table left) ≡ left
steps_with [] [] e = refl
steps_with [] (x ∷ left) e = absurd (omega (arith, e))
steps_with (t ∷ table) [] e = absurd (omega (arith, e))
steps_with (t ∷ table) (x ∷ left) e = ap (λ (l : List ℕ). x ∷ l) (steps_with table left (let z : length left ≡ length table = omega (arith, e) in z))

-- ---- one call

-- A call of ours by the steps left alone.
record OneCall (left : List ℕ) (place : ℕ) (c : Call) (places after : List ℕ) (last : ℕ) : Type 0 where
  names : named_in (called_on ours left place c) ≡ places
  leaves : steps_of (called_on ours left place c).table ≡ after
  hands : (called_on ours left place c).place ≡ last

module _ (left : List ℕ) (place : ℕ) (c : Call) where
  abbrev table : List Turn
  table = table_of c.walks left

  abbrev o : Outcome
  o = served left place c.list

  called : called_on ours left place c ≡ result_of place (on_table table o)
  called = ap (λ (l : List ℕ). result_of place (on_table table (served l place c.list))) (steps_of_table left c.walks)

  left_after : steps_of (with_steps table o.left) ≡ o.left
  left_after =
      steps_with table o.left
      (served_length left place c.list ∙ sym (ap length (steps_of_table left c.walks)) ∙ length_steps table)

  call_refused : taken left place (length c.list) ≡ false → OneCall left place c [] left place
  call_refused e =
      let r = served_refused left place c.list e in
      let is = called in
      record {
        names = ap named_in is ∙ ap (λ (x : Outcome). named_in (result_of place (on_table table x))) r;
        leaves = ap (λ (x : Result). steps_of x.table) is ∙ left_after ∙ ap (λ (x : Outcome). x.left) r;
        hands = ap (λ (x : Result). x.place) is ∙ ap (λ (x : Outcome). (result_of place (on_table table x)).place) r;
      }

  abbrev turns : Stretch
  turns = turns_of left place (length c.list)

  call_taken : taken left place (length c.list) ≡ true → OneCall left place c turns.places turns.left turns.last
  call_taken e =
      let r = served_taken left place c.list e in
      let is = called in
      record {
        names = ap named_in is ∙ ap (λ (x : Outcome). named_in (result_of place (on_table table x))) r
            ∙ take_at turns.places (drop (length turns.places) c.list) (length turns.places) refl;
        leaves = ap (λ (x : Result). steps_of x.table) is ∙ left_after ∙ ap (λ (x : Outcome). x.left) r;
        hands = ap (λ (x : Result). x.place) is ∙ ap (λ (x : Outcome). (result_of place (on_table table x)).place) r;
      }

-- ---- a call and those after it

module _ (left : List ℕ) (place : ℕ) (c : Call) (calls : List Call) (places after : List ℕ) (last : ℕ)
    (one : OneCall left place c places after last) where
  named_more : named ours left place (c ∷ calls) ≡ places ++ named ours after last calls
  named_more = λ i. one.names i ++ named ours (one.leaves i) (one.hands i) calls

  left_more : left_by ours left place (c ∷ calls) ≡ left_by ours after last calls
  left_more = λ i. left_by ours (one.leaves i) (one.hands i) calls

-- ---- all turns of the calls are those of one

abbrev OneStretch : List ℕ → ℕ → List ℕ → Type 0
OneStretch left place turns = (m : ℕ) × (turns ≡ (turns_of left place m).places)

round_at : (left : List ℕ) (place : ℕ) (c : Call) (calls : List Call) → ((l : List ℕ) (s : ℕ) → OneStretch l s (named ours l s calls)) →
    (t : Bool) → taken left place (length c.list) ≡ t → OneStretch left place (named ours left place (c ∷ calls))
round_at left place c calls ih true e =
    let r = turns_of left place (length c.list) in
    let more = ih r.left r.last in (
      length c.list + more.0,
      named_more left place c calls r.places r.left r.last (call_taken left place c e)
          ∙ ap (λ (t : List ℕ). r.places ++ t) more.1 ∙ sym (split_places left place (length c.list) more.0),
    )
round_at left place c calls ih false e =
    let more = ih left place in
    (more.0, named_more left place c calls [] left place (call_refused left place c e) ∙ more.1)

one_stretch : (calls : List Call) (left : List ℕ) (place : ℕ) → OneStretch left place (named ours left place calls)
one_stretch [] left place = (0, ap (λ (r : Stretch). r.places) (sym (turns_zero left place)))
one_stretch (c ∷ calls) left place = round_at left place c calls (λ l s. one_stretch calls l s) (taken left place (length c.list)) refl

-- ---- fair

-- Steps left at the end of the while were left all that while.
pub all_that_while : (steps before between : List ℕ) (p q : ℕ) → HasLeft steps (before ++ (p ∷ between)) q → (some rest : List ℕ) →
    between ≡ some ++ rest → HasLeft steps (before ++ (p ∷ some)) q
all_that_while steps before between p q h some rest e =
    let a = at_append q before (p ∷ between) in
    let b = ap (λ (l : List ℕ). turns_at q (p ∷ l)) e in
    let c = at_append q (p ∷ some) rest in
    let d = at_append q before (p ∷ some) in
    omega (arith, h, a, b, c, d)

-- It is enough that the other walk has steps left where the first of the two turns is taken.
pub our_soon : (left : List ℕ) (place : ℕ) (calls : List Call) (before between after : List ℕ) (p q : ℕ) →
    named ours left place calls ≡ before ++ (p ∷ (between ++ (p ∷ after))) → turns_at p between ≡ 0 → q ≢ p → HasLeft left before q →
    turns_at q between ≡ 1
our_soon left place calls before between after p q e none ne has =
    let one = one_stretch calls left place in
    fair_turns left place one.0 before between after p q (sym one.1 ∙ e) none ne has

pub our_fairness : Fair ours
our_fairness left place calls before between after p q e none ne has =
    let h = has [] between refl in
    let z = at_append q before (p ∷ []) in
    let w = at_other q p [] ne in
    our_soon left place calls before between after p q e none ne
    (let y : turns_at q before < get_or left q 0 = omega (arith, z, w, h, at_none q) in y)

-- ---- a step off for each turn

abbrev Off : List ℕ → ℕ → ℕ → List Call → Type 0
Off left place q calls = get_or (left_by ours left place calls) q 0 + turns_at q (named ours left place calls) ≡ get_or left q 0

off_at : (left : List ℕ) (place : ℕ) (c : Call) (calls : List Call) (q : ℕ) → ((l : List ℕ) (s : ℕ) → Off l s q calls) →
    (t : Bool) → taken left place (length c.list) ≡ t → Off left place q (c ∷ calls)
off_at left place c calls q ih true e =
    let r = turns_of left place (length c.list) in
    let one = call_taken left place c e in
    let more = ih r.left r.last in
    let a = ap (λ (l : List ℕ). get_or l q 0) (left_more left place c calls r.places r.left r.last one) in
    let b = ap (turns_at q) (named_more left place c calls r.places r.left r.last one) in
    let d = at_append q r.places (named ours r.left r.last calls) in
    let f = turns_add left place (length c.list) q in
    omega (arith, more, a, b, d, f)
off_at left place c calls q ih false e =
    let one = call_refused left place c e in
    let more = ih left place in
    let a = ap (λ (l : List ℕ). get_or l q 0) (left_more left place c calls [] left place one) in
    let b = ap (turns_at q) (named_more left place c calls [] left place one) in
    omega (arith, more, a, b)

off_of : (calls : List Call) (left : List ℕ) (place q : ℕ) → Off left place q calls
off_of [] left place q = omega (arith, at_none q)
off_of (c ∷ calls) left place q = off_at left place c calls q (λ l s. off_of calls l s q) (taken left place (length c.list)) refl

pub our_takes_off : TakesOff ours
our_takes_off left place calls q = off_of calls left place q

-- ---- the whole promise

pub ours_keeps : Keeps ours
ours_keeps = record { rule = our_rule; takes_off = our_takes_off; fair = our_fairness }
