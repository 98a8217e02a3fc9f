-- 'The program lends rows of the right length': a call is lent the first numbers of each room, and what it leaves takes their place.
-- A room that has fewer is lent whole; its pool is then refused. (document 01, 'Deck and printing program')
use Rattle.std.specs.Prelude.{ℕ, ◌+◌, true, false, cond, List, [], ◌∷◌, ◌++◌, ltb, pos, get_or, take, drop}
use Rattle.sheet.specs.Brought.{Brought}
use Rattle.rows.specs.Rows.{Rows, row_length}
use Rattle.figures.specs.Answer.{Answer, Refused, Done, Position, Worth, Ratio}
use Rattle.walk.specs.declared.Walk.{Walk}
use Rattle.walk.specs.Answers.{Said, said_of, accepted}
use Rattle.walk.specs.CallRules.{ForwardResult}
use Rattle.walk.specs.Calls.{Outcome, ForwardOutcome, open_call, back_call, value_call, ratio_call, forward_call}

abbrev pub lent_rows : Brought → Rows → Rows
lent_rows x rooms = record { defaults = take (row_length x.sheet) rooms.defaults; premiums = take (row_length x.sheet) rooms.premiums }

abbrev pub left_in_rooms : Brought → Rows → Outcome → Outcome
left_in_rooms x rooms o =
    record {
      answer = o.answer;
      walk = o.walk;
      rows =
          record {
            defaults = o.rows.defaults ++ drop (row_length x.sheet) rooms.defaults;
            premiums = o.rows.premiums ++ drop (row_length x.sheet) rooms.premiums;
          };
    }

unfoldable pub open_in_rooms : Brought → List ℕ → Walk → Rows → Outcome
open_in_rooms x register w rooms = left_in_rooms x rooms (open_call x register w (lent_rows x rooms))

unfoldable pub back_in_rooms : Brought → List ℕ → Walk → Rows → ℕ → Outcome
back_in_rooms x register w rooms c = left_in_rooms x rooms (back_call x register w (lent_rows x rooms) c)

unfoldable pub value_in_rooms : Brought → List ℕ → Walk → Rows → ℕ → ℕ → Outcome
value_in_rooms x register w rooms j k = left_in_rooms x rooms (value_call x register w (lent_rows x rooms) j k)

unfoldable pub ratio_in_rooms : Brought → List ℕ → Walk → Rows → ℕ → ℕ → Outcome
ratio_in_rooms x register w rooms j k = left_in_rooms x rooms (ratio_call x register w (lent_rows x rooms) j k)

-- Forward is lent its own row.
abbrev pub left_in_row : Brought → List ℕ → ForwardOutcome → ForwardOutcome
left_in_row x row o = record { answer = o.answer; row = o.row ++ drop (x.sheet.names + 1) row }

unfoldable pub forward_in_row : Brought → List ℕ → List ℕ → ℕ → ForwardOutcome
forward_in_row x register row i = left_in_row x row (forward_call x register (take (x.sheet.names + 1) row) i)

-- Forward says Q(k), or 14 where k is above n, after the call's own refusals. (It answers nothing else: the last three stay as they are.)
unfoldable pub count_said : Answer → List ℕ → ℕ → ℕ → Said
count_said (Refused f) row n k = said_of (Refused f)
count_said Done row n k =
    elim (ltb n k) [ true ↦ record { number = 14; values = [] } | false ↦ record { number = 0; values = pos (get_or row k 0) ∷ [] } ]
count_said (Position i) row n k = said_of (Position i)
count_said (Worth d a w) row n k = said_of (Worth d a w)
count_said (Ratio z) row n k = said_of (Ratio z)

abbrev pub said_beside : Said → List ℕ → ForwardResult
said_beside said row = record { said = said; row = row }

-- What forward says of a count, and the row that it leaves: refused, by the call itself or with 14, the row as it was.
unfoldable pub count_in_row : Brought → List ℕ → ForwardOutcome → ℕ → ForwardResult
count_in_row x row o k =
    let said = count_said o.answer o.row x.sheet.names k in
    said_beside said (cond (accepted said) o.row row)

unfoldable pub distribution_in_row : Brought → List ℕ → List ℕ → ℕ → ℕ → ForwardResult
distribution_in_row x register row i k = count_in_row x row (forward_in_row x register row i) k
