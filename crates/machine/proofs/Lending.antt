-- The rooms keep their lengths through every order, and the largest sheet fits into them.
use Rattle.std.proofs.Common.{ℕ, zero, suc, ◌+◌, ◌-◌, ◌≤◌, ◌≡◌, refl, sym, ap, ◌∙◌, subst, Bool, true, false, cond, List, ◌++◌, mul-le-mul, arith}
use Rattle.std.proofs.Common.{length, take, drop, replicate, length-append, length-drop, length-take-le}
use lib.ListN.{length-replicate}
use Rattle.commands.specs.declared.Order.{Order}
use Rattle.commands.specs.declared.Order.TheVariants.{Issue, Withdraw, Open, Back, Value, Delta, Forward}
use Rattle.sheet.specs.Terms.{Terms}
use Rattle.sheet.specs.Brought.{Brought}
use Rattle.sheet.specs.Limits.{PoolInside}
use Rattle.rows.specs.Rows.{Rows, row_length}
use Rattle.figures.specs.Answer.{Answer, Refused, Done, Position, Worth, Ratio}
use Rattle.walk.specs.Answers.{said_of, accepted}
use Rattle.walk.specs.RefusalOrders.{FullRows, open_order, back_order, value_order, ratio_order, forward_order}
use Rattle.walk.specs.CallRules.{BackSteps}
use Rattle.walk.specs.Calls.{forward_call}
use Rattle.walk.proofs.Judging.{accepted_holds}
use Rattle.walk.proofs.OurEngine.{ours_keeps}
use Rattle.machine.specs.Machine.{Machine, machine_on, RoomLengths}
use Rattle.machine.specs.Rooms.{lent_rows, open_in_rooms, back_in_rooms, value_in_rooms, ratio_in_rooms, forward_in_row, count_said, count_in_row}
use Rattle.machine.specs.Rooms.{distribution_in_row}
use Rattle.machine.specs.Lending.{LentFull}
use Rattle.machine.specs.Transitions.{transition_of}
use Rattle.machine.proofs.Refused.{refused_leaves}

abbrev pub RoomsLong : Machine → Type 0
RoomsLong m = RoomLengths m.rooms.defaults m.rooms.premiums m.row

-- ---- the largest sheet fits

row_most : (x : Terms) → PoolInside x → row_length x ≤ 1134
row_most x p =
    let r : suc x.tranches ≤ 9 = omega (arith, p.tranches.1) in
    let n : suc x.names ≤ 126 = omega (arith, p.names.1) in
    mul-le-mul {n₁ = suc x.tranches} {m₁ = suc x.names} {n₂ = 9} {m₂ = 126} r n

pub lent_full : (m : Machine) → RoomsLong m → PoolInside m.draft.brought.sheet → LentFull m
lent_full m l p =
    let x = m.draft.brought.sheet in
    record {
      rows =
          record {
            defaults = length-take-le (row_length x) m.rooms.defaults (omega (arith, row_most x p, l.defaults_long));
            premiums = length-take-le (row_length x) m.rooms.premiums (omega (arith, row_most x p, l.premiums_long));
          };
      row = length-take-le (x.names + 1) m.row (omega (arith, p.names.1, l.row_long));
    }

-- ---- the rooms keep their lengths, from the start of a run on

pub first_long : (register : List ℕ) → RoomsLong (machine_on register)
first_long register = record { defaults_long = long 1134; premiums_long = long 1134; row_long = long 126 }
  where
    long : (n : ℕ) → length (replicate {A = ℕ} n 0) ≡ n
    long n = length-replicate {A = ℕ} n 0

-- a part of a room that comes back as long as it was lent
kept_long : (n size : ℕ) (part room : List ℕ) → length part ≡ n → n ≤ size → length room ≡ size → length (part ++ drop n room) ≡ size
kept_long n size part room e h long = omega (arith, length-append part (drop n room), length-drop n room)

-- both rows
module _ (x : Brought) (rooms : Rows) (row : List ℕ) (p : PoolInside x.sheet) (l : RoomLengths rooms.defaults rooms.premiums row) where
  left_long : (rows : Rows) → FullRows x.sheet rows →
      RoomLengths (rows.defaults ++ drop (row_length x.sheet) rooms.defaults) (rows.premiums ++ drop (row_length x.sheet) rooms.premiums) row
  left_long rows f =
      record {
        defaults_long = kept_long (row_length x.sheet) 1134 rows.defaults rooms.defaults f.defaults (row_most x.sheet p) l.defaults_long;
        premiums_long = kept_long (row_length x.sheet) 1134 rows.premiums rooms.premiums f.premiums (row_most x.sheet p) l.premiums_long;
        row_long = l.row_long;
      }

-- rows go back as long as they were
back_full : (x : Terms) (c i : ℕ) (old new : Rows) → FullRows x old → BackSteps x c i old new → FullRows x new
unfolding BackSteps
back_full x zero i old new f e = subst (FullRows x) e f
back_full x (suc c) i old new f (between, step, rest) = back_full x c (i - 1) between new step.size rest

-- a forward that tells a count was accepted
count_accepted : (a : Answer) (row : List ℕ) (n k : ℕ) → accepted (count_said a row n k) ≡ true → accepted (said_of a) ≡ true
unfolding count_said
count_accepted (Refused f) row n k e = e
count_accepted Done row n k e = refl
count_accepted (Position i) row n k e = refl
count_accepted (Worth d p w) row n k e = refl
count_accepted (Ratio z) row n k e = refl

-- an accepted order, by its rule
taken : (o : Order) (m : Machine) → RoomsLong m → accepted (transition_of o m).said ≡ true → RoomsLong (transition_of o m).next
unfolding transition_of open_in_rooms back_in_rooms value_in_rooms ratio_in_rooms distribution_in_row count_in_row forward_in_row
taken (Issue y) m l e = l
taken (Withdraw y) m l e = l
taken Open m l e =
    let x = m.draft.brought in
    let rows = lent_rows x m.rooms in
    let rule = ours_keeps.rules.opening x m.register m.walk rows in
    let h = accepted_holds (open_order x m.register rows) _ refl rule.judged e in
    left_long x m.rooms m.row h.0 l _ (rule.does e).size
taken (Back c) m l e =
    let x = m.draft.brought in
    let rows = lent_rows x m.rooms in
    let rule = ours_keeps.rules.back x m.register m.walk rows c in
    let h = accepted_holds (back_order x m.register m.walk rows c) _ refl rule.judged e in
    left_long x m.rooms m.row h.0 l _ (back_full x.sheet c m.walk.position rows _ h.1.0.rows (rule.does e).rows)
taken (Value j k) m l e =
    let x = m.draft.brought in
    let rows = lent_rows x m.rooms in
    let rule = ours_keeps.rules.value x m.register m.walk rows j k in
    let h = accepted_holds (value_order x m.register m.walk rows j k) _ refl rule.judged e in
    left_long x m.rooms m.row h.0 l _ (subst (FullRows x.sheet) (sym (rule.does e).rows) h.1.0.rows)
taken (Delta j k) m l e =
    let x = m.draft.brought in
    let rows = lent_rows x m.rooms in
    let rule = ours_keeps.rules.ratio x m.register m.walk rows j k in
    let h = accepted_holds (ratio_order x m.register m.walk rows j k) _ refl rule.judged e in
    left_long x m.rooms m.row h.0 l _ (subst (FullRows x.sheet) (sym (rule.does e).rows) h.1.0.rows)
taken (Forward i k) m l e =
    let x = m.draft.brought in
    let n : ℕ = x.sheet.names + 1 in
    let lent = take n m.row in
    let o = forward_call x m.register lent i in
    let rule = ours_keeps.rules.forward x m.register lent i in
    let done : accepted (said_of o.answer) ≡ true = count_accepted o.answer _ _ k e in
    let h = accepted_holds (forward_order x m.register lent i) _ refl rule.judged done in
    record {
      defaults_long = l.defaults_long;
      premiums_long = l.premiums_long;
      row_long =
          ap (λ (b : Bool). length (cond b (o.row ++ drop n m.row) m.row)) e
          ∙ kept_long n 126 o.row m.row (rule.does done).size (omega (arith, h.0.names.1)) l.row_long;
    }

pub kept : (o : Order) (m : Machine) → RoomsLong m → RoomsLong (transition_of o m).next
kept o m l = go (accepted (transition_of o m).said) refl
  where
    go : (b : Bool) → accepted (transition_of o m).said ≡ b → RoomsLong (transition_of o m).next
    go true e = taken o m l e
    go false e = subst RoomsLong (sym (refused_leaves o m e)) l
