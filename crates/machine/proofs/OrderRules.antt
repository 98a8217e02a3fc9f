-- By the rules of the calls.
use Rattle.std.proofs.Common.{ℕ, ◌+◌, ◌≤◌, ◌≡◌, refl, sym, ap, ◌∙◌, Bool, true, false, cond, true≢false, List, [], ◌∷◌, ◌++◌, pos, arith, get_or}
use Rattle.std.proofs.Common.{take, drop}
use Rattle.refusals.specs.declared.Refusal.{Refusal}
use Rattle.std.specs.Prelude.{Result, Ok, Err, ⊤}
use mathlib.Core.Bool.{false≢true}
use lib.ListN.{get_or-append}
use Rattle.commands.specs.declared.Order.TheVariants.{Issue, Withdraw, Open, Back, Value, Delta, Forward}
use Rattle.refusals.specs.Tests.{first}
use Rattle.figures.specs.Answer.{Answer, Done}
use Rattle.walk.specs.Answers.{Said, said_of, accepted}
use Rattle.walk.specs.CallRules.{says}
use Rattle.walk.specs.Calls.{ForwardOutcome, forward_tests, or_forward_outcome, forward_call}
use Rattle.walk.specs.OurEngine.{ours, forward_result}
use Rattle.walk.proofs.Judging.{refusal_some}
use Rattle.walk.proofs.OurEngine.{ours_keeps}
use Rattle.machine.specs.Machine.{Machine}
use Rattle.machine.specs.Rooms.{lent_rows, open_in_rooms, back_in_rooms, value_in_rooms, ratio_in_rooms, forward_in_row, count_said, count_in_row}
use Rattle.machine.specs.Rooms.{distribution_in_row}
use Rattle.machine.specs.Transitions.{forward_transition, transition_of}
use Rattle.machine.specs.OrderRules.{CountRule, OrdersByRules}
use Rattle.machine.proofs.LentRooms.{said_off, said_count}

-- forward answers a refusal, or that it is done
is_done : (f : Result ⊤ Refusal) (q : List ℕ) (o : ForwardOutcome) → o.answer ≡ Done → accepted (said_of (or_forward_outcome f q o).answer) ≡ true →
    (or_forward_outcome f q o).answer ≡ Done
unfolding or_forward_outcome
is_done (Ok tt) q o done e = done
is_done (Err r) q o done e = absurd (true≢false (sym e ∙ refusal_some r))

is_refused : (f : Result ⊤ Refusal) (q : List ℕ) (o : ForwardOutcome) → o.answer ≡ Done → accepted (said_of (or_forward_outcome f q o).answer) ≡ false →
    (row : List ℕ) (n k : ℕ) → count_said (or_forward_outcome f q o).answer row n k ≡ said_of (or_forward_outcome f q o).answer
unfolding or_forward_outcome count_said
is_refused (Ok tt) q o done e row n k = absurd (false≢true (sym e ∙ ap (λ (a : Answer). accepted (said_of a)) done))
is_refused (Err r) q o done e row n k = refl

-- what is made of it
module _ (m : Machine) (i k : ℕ) where
  abbrev n : ℕ
  n = m.draft.brought.sheet.names

  abbrev o : ForwardOutcome
  o = forward_call m.draft.brought m.register (take (n + 1) m.row) i

  abbrev filled : List ℕ
  filled = o.row ++ drop (n + 1) m.row

  -- by what is said of the count
  transition_as : (said : Said) (b : Bool) → count_said o.answer filled n k ≡ said → accepted said ≡ b →
      transition_of (Forward i k) m ≡ forward_transition m (record { said = said; row = cond b filled m.row })
  unfolding transition_of distribution_in_row count_in_row forward_in_row
  transition_as said b e a =
      (λ j. forward_transition m (record { said = e j; row = cond (accepted (e j)) filled m.row }))
      ∙ (λ j. forward_transition m (record { said = said; row = cond (a j) filled m.row }))

  answered : accepted (said_of o.answer) ≡ true → o.answer ≡ Done
  unfolding forward_call
  answered = is_done (first (forward_tests m.draft.brought m.register (take (n + 1) m.row) i)) _ _ refl

  not_answered : accepted (said_of o.answer) ≡ false → count_said o.answer filled n k ≡ said_of o.answer
  unfolding forward_call
  not_answered e = is_refused (first (forward_tests m.draft.brought m.register (take (n + 1) m.row) i)) _ _ refl e _ n k

  counted : CountRule m (forward_result o) k (transition_of (Forward i k) m)
  counted =
      record {
        refused = λ e. transition_as (said_of o.answer) false (not_answered e) e;
        off_tree = λ e above. transition_as (record { number = 14; values = [] }) false (sym (said_off o.answer filled n k (answered e) above)) refl;
        told = λ e within.
            transition_as (says (pos (get_or o.row k 0) ∷ [])) true (sym (said_count o.answer filled n k (answered e) within) ∙ entry e within) refl;
      }
    where
      entry : accepted (said_of o.answer) ≡ true → k ≤ n →
          ◌≡◌ {A = Said} (record { number = 0; values = pos (get_or filled k 0) ∷ [] }) (says (pos (get_or o.row k 0) ∷ []))
      entry e within =
          let long = ((ours_keeps.rules.forward m.draft.brought m.register (take (n + 1) m.row) i).does e).size in
          ap (λ (a : ℕ). says (pos a ∷ [])) (get_or-append o.row (drop (n + 1) m.row) 0 k (omega (arith, long)))

pub orders_by_rules : OrdersByRules
unfolding transition_of open_in_rooms back_in_rooms value_in_rooms ratio_in_rooms
orders_by_rules (Issue y) m = (ours.issue m.register y, ours_keeps.rules.issue m.register y, refl)
orders_by_rules (Withdraw y) m = (ours.withdraw m.register y, ours_keeps.rules.withdraw m.register y, refl)
orders_by_rules Open m =
    let x = m.draft.brought in
    let rows = lent_rows x m.rooms in
    (ours.opening x m.register m.walk rows, ours_keeps.rules.opening x m.register m.walk rows, refl)
orders_by_rules (Back c) m =
    let x = m.draft.brought in
    let rows = lent_rows x m.rooms in
    (ours.back x m.register m.walk rows c, ours_keeps.rules.back x m.register m.walk rows c, refl)
orders_by_rules (Value j k) m =
    let x = m.draft.brought in
    let rows = lent_rows x m.rooms in
    (ours.value x m.register m.walk rows j k, ours_keeps.rules.value x m.register m.walk rows j k, refl)
orders_by_rules (Delta j k) m =
    let x = m.draft.brought in
    let rows = lent_rows x m.rooms in
    (ours.ratio x m.register m.walk rows j k, ours_keeps.rules.ratio x m.register m.walk rows j k, refl)
orders_by_rules (Forward i k) m =
    let x = m.draft.brought in
    let row = take (x.sheet.names + 1) m.row in
    (ours.forward x m.register row i, ours_keeps.rules.forward x m.register row i, counted m i k)
