-- Decks that enter zeros only, by the test of their bytes, and decks that do not. Proved in proofs/Zeros.antt.
use Rattle.std.specs.Prelude.{ℕ, ◌≡◌, true, false, List, [], ◌∷◌, ◌++◌}
use Rattle.listings.specs.Listing.{listing}
use Rattle.listings.specs.DatesOnly.{enters_zeros}
use Rattle.decks.specs.Limits.{none as zero, one as unit, single, issue_open, earning}
use Rattle.decks.specs.Calls.{worked_sheet, worked_calls, worked_deck, worked_listing, worked_fractions, zero_fractions, other_count_listing}

abbrev pub zero_fraction : List ℕ
zero_fraction =
    0x0D ∷ 0x00 ∷ 0x00 ∷ 0x00 ∷ 0x00 ∷ []  -- elapsed 0

-- The sheet of the worked deck walked a step back, and the calls from there on.
abbrev pub walked_deck : List ℕ
walked_deck =
    worked_sheet
    ++ (0x06 ∷ 0x07  -- issue 7
    ∷ 0x08  -- open
    ∷ 0x09 ∷ 0x01 ∷ 0x00  -- back 1
    ∷ 0x0A ∷ 0x00 ∷ 0x00 ∷ [])  -- value 0 0

abbrev pub onward_calls : List ℕ
onward_calls =
    0x09 ∷ 0x01 ∷ 0x00  -- back 1
    ∷ 0x0A ∷ 0x00 ∷ 0x00  -- value 0 0
    ∷ 0x0B ∷ 0x00 ∷ 0x00  -- delta 0 0
    ∷ 0x0C ∷ 0x02 ∷ 0x00 ∷ 0x01 ∷ []  -- forward 2 1

-- Two zeros for two steps: before the calls, before the pool, and behind an open and a step back with none entered. What is printed is the listing
-- without them. A fraction other than 0 does not pass, nor one zero for two steps or three, of which the calls say 2. (T-01)
pub record ZerosEntered : Type 0 where
  pub none : enters_zeros worked_deck ≡ true
  pub before : enters_zeros (worked_sheet ++ (zero_fractions ++ worked_calls)) ≡ true
  pub before_pool : enters_zeros (zero_fractions ++ worked_deck) ≡ true
  pub before_pool_printed : listing (zero_fractions ++ worked_deck) ≡ worked_listing
  pub behind : enters_zeros (walked_deck ++ (zero_fractions ++ onward_calls)) ≡ true
  pub behind_printed : listing (walked_deck ++ (zero_fractions ++ onward_calls)) ≡ listing (walked_deck ++ onward_calls)
  pub one_step : enters_zeros (earning unit zero zero zero) ≡ true
  pub one_step_twice : enters_zeros (single zero unit zero unit unit ++ (zero_fraction ++ (zero_fraction ++ issue_open))) ≡ false
  pub not_zero : enters_zeros (worked_sheet ++ (worked_fractions ++ worked_calls)) ≡ false
  pub one : enters_zeros (worked_sheet ++ (zero_fraction ++ worked_calls)) ≡ false
  pub one_printed : listing (worked_sheet ++ (zero_fraction ++ worked_calls)) ≡ other_count_listing
  pub three : enters_zeros (worked_sheet ++ (zero_fraction ++ (zero_fractions ++ worked_calls))) ≡ false
  pub three_printed : listing (worked_sheet ++ (zero_fraction ++ (zero_fractions ++ worked_calls))) ≡ other_count_listing
  pub one_behind : enters_zeros (walked_deck ++ (zero_fraction ++ onward_calls)) ≡ false
