-- The checks 1 to 12 as tests: the sheet's own, then what is lent beside it, the register, the walk and its rows (document 01, 'Refusals in order').
use Rattle.std.specs.Prelude.{ℕ, ◌+◌, Bool, true, false, not, ◌||◌, List, ◌∷◌, length, ltb}
use Rattle.register.specs.declared.answers.Status.{Status}
use Rattle.register.specs.Register.{status_in}
use Rattle.sheet.specs.Brought.{Brought}
use Rattle.rows.specs.Rows.{Rows, row_length, soiled}
use Rattle.refusals.specs.declared.Refusal.TheVariants.{Withdrawn, Unissued, NoWalk, OverCeiling}
use Rattle.refusals.specs.Tests.{differs, Test, sheet_tests}

-- 2, of open, back, value and hedge ratio; and of forward
unfoldable pub rows_bad : Brought → List ℕ → Rows → Bool
rows_bad x register rows =
    differs (length register) 256 || differs (length rows.defaults) (row_length x.sheet)
    || differs (length rows.premiums) (row_length x.sheet)

unfoldable pub row_bad : Brought → List ℕ → List ℕ → Bool
row_bad x register row = differs (length register) 256 || differs (length row) (x.sheet.names + 1)

-- 9 and 10
abbrev pub is_withdrawn : Status → Bool
is_withdrawn Status.Unissued = false
is_withdrawn Status.Live = false
is_withdrawn Status.Withdrawn = true

abbrev pub is_unissued : Status → Bool
is_unissued Status.Unissued = true
is_unissued Status.Live = false
is_unissued Status.Withdrawn = false

-- 11: by whether the walk is open, its number and its position
unfoldable pub off_walk : Brought → Bool → ℕ → ℕ → Bool
off_walk x is_open number position = not is_open || differs number x.number || ltb x.sheet.steps position

-- Checks 1 to 10 with 21 and 25, and then more. `lent` tells whether a list lent beside the sheet's own has another length.
unfoldable pub ten_tests : Brought → List ℕ → Bool → List Test → List Test
ten_tests x register lent more =
    sheet_tests x lent
    ((is_withdrawn (status_in register x.number), Withdrawn) ∷ (is_unissued (status_in register x.number), Unissued) ∷ more)

-- Checks 1 to 12, and then more.
unfoldable pub walk_tests : Brought → List ℕ → Bool → ℕ → ℕ → Rows → List Test → List Test
walk_tests x register is_open number position rows more =
    ten_tests x register (rows_bad x register rows)
    ((off_walk x is_open number position, NoWalk) ∷ (soiled x.sheet position rows.defaults rows.premiums, OverCeiling) ∷ more)
