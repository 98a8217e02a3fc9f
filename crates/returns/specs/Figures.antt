-- The values of an answer, each 0 where the answer has none of its kind.
use Rattle.std.specs.Prelude.{ℕ, get_or, ℤ, pos, Result}
use Rattle.figures.specs.Answer.{Answer, Refused, Done, Position, Worth, Ratio}
use Rattle.places.specs.declared.Served.{Served}
use Rattle.places.specs.declared.NotTaken.{NotTaken}
use Rattle.places.specs.Places.{turned_number, turned_values, place_after}
use Rattle.returns.specs.declared.Allotted.{Allotted}

abbrev pub position_in : Answer → ℕ
position_in (Refused f) = 0
position_in Done = 0
position_in (Position i) = i
position_in (Worth d a w) = 0
position_in (Ratio z) = 0

abbrev pub default_in : Answer → ℕ
default_in (Refused f) = 0
default_in Done = 0
default_in (Position i) = 0
default_in (Worth d a w) = d
default_in (Ratio z) = 0

abbrev pub premium_in : Answer → ℕ
premium_in (Refused f) = 0
premium_in Done = 0
premium_in (Position i) = 0
premium_in (Worth d a w) = a
premium_in (Ratio z) = 0

abbrev pub net_in : Answer → ℤ
net_in (Refused f) = pos 0
net_in Done = pos 0
net_in (Position i) = pos 0
net_in (Worth d a w) = w
net_in (Ratio z) = pos 0

abbrev pub ratio_in : Answer → ℤ
ratio_in (Refused f) = pos 0
ratio_in Done = pos 0
ratio_in (Position i) = pos 0
ratio_in (Worth d a w) = pos 0
ratio_in (Ratio z) = z

-- Those of an answer to a call for turns at a place.
abbrev pub allotted_by : Result Served NotTaken → ℕ → Allotted
allotted_by answer place =
    record { number = turned_number answer; count = get_or (turned_values answer) 0 0; place = place_after place answer }
