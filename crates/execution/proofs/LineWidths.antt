-- How long the line of an order can be.
use Rattle.std.proofs.Common.{ℕ, ◌+◌, ◌*◌, ◌≤◌, ◌≡◌, refl, subst, Bool, true, false, List, arith, ltb-true, ltb-false, ltb, lit≤, length}
use Rattle.refusals.specs.declared.Refusal.{Refusal}
use Rattle.std.specs.Prelude.{Result, Ok, Err, ⊤}
use Rattle.commands.specs.declared.Order.{Order}
use Rattle.commands.specs.declared.Order.TheVariants.{Issue, Withdraw, Open, Back, Value, Delta, Forward}
use Rattle.commands.specs.Commands.{order_size}
use Rattle.sheet.specs.Brought.{Brought}
use Rattle.refusals.specs.Tests.{first}
use Rattle.figures.specs.Answer.{Answer, Refused, Done, Position, Worth, Ratio}
use Rattle.walk.specs.declared.Walk.{Walk}
use Rattle.rows.specs.Rows.{Rows}
use Rattle.walk.specs.Answers.{Said, said_of}
use Rattle.walk.specs.Calls.{or_outcome, open_tests, open_call}
use Rattle.machine.specs.Machine.{Machine}
use Rattle.machine.specs.Rooms.{lent_rows, open_in_rooms, back_in_rooms, value_in_rooms, ratio_in_rooms, forward_in_row, count_said, count_in_row, distribution_in_row}
use Rattle.machine.specs.Transitions.{transition_of}
use Rattle.machine.proofs.LentRooms.{said_off, said_count}
use Rattle.render.specs.Lines.{width}

-- a call of the walk says three values at most
walk_few : (a : Answer) → length (said_of a).values ≤ 3
walk_few (Refused f) = lit≤ tt
walk_few Done = lit≤ tt
walk_few (Position i) = lit≤ tt
walk_few (Worth d p w) = lit≤ tt
walk_few (Ratio z) = lit≤ tt

count_by : (row : List ℕ) (n k : ℕ) (b : Bool) → ltb n k ≡ b → length (count_said Done row n k).values ≤ 3
count_by row n k true e = subst (λ (s : Said). length s.values ≤ 3) (said_off Done row n k refl (ltb-true n k e)) (lit≤ tt)
count_by row n k false e = subst (λ (s : Said). length s.values ≤ 3) (said_count Done row n k refl (ltb-false n k e)) (lit≤ tt)

count_few : (a : Answer) (row : List ℕ) (n k : ℕ) → length (count_said a row n k).values ≤ 3
unfolding count_said
count_few (Refused f) row n k = lit≤ tt
count_few Done row n k = count_by row n k (ltb n k) refl
count_few (Position i) row n k = lit≤ tt
count_few (Worth d p w) row n k = lit≤ tt
count_few (Ratio z) row n k = lit≤ tt

-- open says none
open_by_lem : (f : Result ⊤ Refusal) (w v : Walk) (l m : Rows) → length (said_of (or_outcome f w l (record { answer = Done; walk = v; rows = m })).answer).values ≡ 0
unfolding or_outcome
open_by_lem (Ok tt) w v l m = refl
open_by_lem (Err f) w v l m = refl

open_none : (x : Brought) (register : List ℕ) (w : Walk) (l : Rows) → length (said_of (open_call x register w l).answer).values ≡ 0
unfolding open_call
open_none x register w l = open_by_lem (first (open_tests x register l)) w _ l _

-- at most 32 bytes for each byte of the command, and 96
pub record Short (o : Order) (s : Machine) : Type 0 where
  pub short : 10 + width (transition_of o s).said ≤ 32 * order_size o
  pub room : 10 + width (transition_of o s).said ≤ 96

pub line_short : (o : Order) (s : Machine) → Short o s
unfolding transition_of order_size open_in_rooms count_in_row distribution_in_row
line_short (Issue y) s = record { short = lit≤ tt; room = lit≤ tt }
line_short (Withdraw y) s = record { short = lit≤ tt; room = lit≤ tt }
line_short Open s =
    let x = s.draft.brought in
    let h = open_none x s.register s.walk (lent_rows x s.rooms) in
    record { short = omega (arith, h); room = omega (arith, h) }
line_short (Back c) s =
    let h = walk_few (back_in_rooms s.draft.brought s.register s.walk s.rooms c).answer in
    record { short = omega (arith, h); room = omega (arith, h) }
line_short (Value j k) s =
    let h = walk_few (value_in_rooms s.draft.brought s.register s.walk s.rooms j k).answer in
    record { short = omega (arith, h); room = omega (arith, h) }
line_short (Delta j k) s =
    let h = walk_few (ratio_in_rooms s.draft.brought s.register s.walk s.rooms j k).answer in
    record { short = omega (arith, h); room = omega (arith, h) }
line_short (Forward i k) s =
    let o = forward_in_row s.draft.brought s.register s.row i in
    let h = count_few o.answer o.row s.draft.brought.sheet.names k in
    record { short = omega (arith, h); room = omega (arith, h) }
