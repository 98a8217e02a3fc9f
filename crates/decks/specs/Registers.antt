-- The registers that decks leave, also where the power fails, and what decks print on a register that is not blank. Proved in proofs/Printed.antt.
use Rattle.std.specs.Prelude.{ℕ, ◌<◌, ◌≡◌, true, false, List, [], ◌∷◌, ◌++◌, length, replicate, set}
use Rattle.register.specs.Cut.{may_be_left}
use Rattle.register.specs.Events.{blank_register}
use Rattle.rows.specs.Rows.{Rows}
use Rattle.walk.specs.declared.Walk.{Walk}
use Rattle.walk.specs.CallLists.{Catalogue, withdraw, blank_state}
use Rattle.walk.specs.Power.{call, returned}
use Rattle.listings.specs.Listing.{listing_on, register_after}
use Rattle.listings.specs.Power.{found_after, withdrew_after, called, ran, cut_run, state_after_runs, runs_withdrew}
use Rattle.decks.specs.Calls.{worked_deck}
use Rattle.decks.specs.Limits.{issue_seven}

-- The worked deck on a register where its number is withdrawn: every call says so.
abbrev pub worked_again : List ℕ
worked_again =
    105 ∷ 115 ∷ 115 ∷ 117 ∷ 101 ∷ 32 ∷ 57 ∷ 10  -- issue 9
    ∷ 111 ∷ 112 ∷ 101 ∷ 110 ∷ 32 ∷ 57 ∷ 10  -- open 9
    ∷ 98 ∷ 97 ∷ 99 ∷ 107 ∷ 32 ∷ 57 ∷ 10  -- back 9
    ∷ 118 ∷ 97 ∷ 108 ∷ 117 ∷ 101 ∷ 32 ∷ 57 ∷ 10  -- value 9
    ∷ 118 ∷ 97 ∷ 108 ∷ 117 ∷ 101 ∷ 32 ∷ 57 ∷ 10  -- value 9
    ∷ 100 ∷ 101 ∷ 108 ∷ 116 ∷ 97 ∷ 32 ∷ 57 ∷ 10  -- delta 9
    ∷ 102 ∷ 111 ∷ 114 ∷ 119 ∷ 97 ∷ 114 ∷ 100 ∷ 32 ∷ 57 ∷ 10  -- forward 9
    ∷ 119 ∷ 105 ∷ 116 ∷ 104 ∷ 100 ∷ 114 ∷ 97 ∷ 119 ∷ 32 ∷ 57 ∷ 10  -- withdraw 9
    ∷ 118 ∷ 97 ∷ 108 ∷ 117 ∷ 101 ∷ 32 ∷ 57 ∷ 10 ∷ []  -- value 9

-- An unknown byte behind the issue of 7, and an issue of 8 behind it.
abbrev pub stopped_deck : List ℕ
stopped_deck = issue_seven ++ (0x00 ∷ 0x06 ∷ 0x08 ∷ [])

abbrev pub stopped_again : List ℕ
stopped_again =
    105 ∷ 115 ∷ 115 ∷ 117 ∷ 101 ∷ 32 ∷ 49 ∷ 55 ∷ 10  -- issue 17
    ∷ 100 ∷ 101 ∷ 99 ∷ 107 ∷ 32 ∷ 49 ∷ 56 ∷ 32 ∷ 50 ∷ 10 ∷ []  -- deck 18 2

-- 7 as it was issued and withdrawn last; a stop behind an issue; a register of another length (2), and a deck of too many bytes.
pub record RegistersLeft : Type 0 where
  pub worked : register_after blank_register worked_deck ≡ set blank_register 7 0x00
  pub again : listing_on (set blank_register 7 0x00) worked_deck ≡ worked_again
  pub again_left : register_after (set blank_register 7 0x00) worked_deck ≡ set blank_register 7 0x00
  pub stopped : register_after blank_register stopped_deck ≡ set blank_register 7 0xA5
  pub stopped_again : listing_on (set blank_register 7 0xA5) stopped_deck ≡ stopped_again
  pub short : listing_on (replicate 255 0xFF) issue_seven ≡ 105 ∷ 115 ∷ 115 ∷ 117 ∷ 101 ∷ 32 ∷ 50 ∷ 10 ∷ []
  pub short_left : register_after (replicate 255 0xFF) issue_seven ≡ replicate 255 0xFF
  pub oversized : (register deck : List ℕ) → 65_536 < length deck → register_after register deck ≡ register

-- The power fails in the worked deck. Nine commands enter its sheet; the tenth is the issue, the twelfth back, the seventeenth the withdraw.
pub record RunsCut : Type 0 where
  -- In its issue and in its withdraw: the byte of 7 is what is found, and no other byte has changed.
  pub issue : found_after blank_register worked_deck 9 0xE5 ≡ set blank_register 7 0xE5
  pub issue_can_be : may_be_left 0xFF 0xA5 0xE5 ≡ true
  pub withdraw : found_after blank_register worked_deck 16 0x20 ≡ set blank_register 7 0x20
  pub withdraw_can_be : may_be_left 0xA5 0x00 0x20 ≡ true
  -- In an entry, in back, in the last value, and past the end: the register is as the commands before left it.
  pub entry : found_after blank_register worked_deck 0 0x20 ≡ blank_register
  pub back : found_after blank_register worked_deck 11 0x20 ≡ set blank_register 7 0xA5
  pub value : found_after blank_register worked_deck 17 0x20 ≡ set blank_register 7 0x00
  pub ended : found_after blank_register worked_deck 18 0x20 ≡ set blank_register 7 0x00
  -- In an issue that is refused, since 7 is withdrawn; behind a byte that stops the run, before the issue of 8.
  pub refused : found_after (set blank_register 7 0x00) worked_deck 9 0xA5 ≡ set blank_register 7 0x00
  pub stopped : found_after blank_register stopped_deck 2 0xA5 ≡ set blank_register 7 0xA5
  -- The withdrawal counts once its command is done.
  pub not_yet : withdrew_after blank_register worked_deck 16 7 ≡ false
  pub withdrew : withdrew_after blank_register worked_deck 17 7 ≡ true

-- The worked deck as an event, run to its end, cut in its withdraw or behind it; and a withdraw of 7 by a call. Each is one event of a list.
pub record RunsCounted : Type 0 where
  pub ran_left : (rows : Rows) → (state_after_runs (blank_state rows) (ran worked_deck ∷ [])).register ≡ set blank_register 7 0x00
  pub ran_withdrew : (rows : Rows) → runs_withdrew (blank_state rows) (ran worked_deck ∷ []) 7 ≡ true
  pub cut_left : (w : Walk) (rows : Rows) → (state_after_runs (blank_state rows) (cut_run worked_deck 16 0x20 w rows ∷ [])).register ≡ set blank_register 7 0x20
  pub cut_in_withdraw : (w : Walk) (rows : Rows) → runs_withdrew (blank_state rows) (cut_run worked_deck 16 0x20 w rows ∷ []) 7 ≡ false
  pub cut_behind : (w : Walk) (rows : Rows) → runs_withdrew (blank_state rows) (cut_run worked_deck 17 0x20 w rows ∷ []) 7 ≡ true
  pub called_left : (c : Catalogue) (w : Walk) (rows : Rows) →
      (state_after_runs (record { register = set blank_register 7 0xA5; walk = w; rows = rows }) (called (returned c (call (withdraw 7))) ∷ [])).register
      ≡ set blank_register 7 0x00
  pub called_withdrew : (c : Catalogue) (w : Walk) (rows : Rows) →
      runs_withdrew (record { register = set blank_register 7 0xA5; walk = w; rows = rows }) (called (returned c (call (withdraw 7))) ∷ []) 7 ≡ true
