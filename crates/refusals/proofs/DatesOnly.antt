-- Fractions of 0 change no refusal.
use Rattle.std.proofs.Common.{ℕ, ◌<◌, ◌≡◌, refl, ap, ◌∙◌, Bool, false, List, arith, length, get_or, replicate}
use mathlib.Core.Bool.{or-false}
use lib.ListN.{length-replicate, get_or-replicate}
use Rattle.sheet.specs.Brought.{Brought}
use Rattle.refusals.specs.Tests.{differs, lists_bad, elapsed_bad, Test, first, sheet_tests}
use Rattle.refusals.specs.DatesOnly.{dates_only_lists_bad, dates_only_tests, RefusalsByDates}
use Rattle.refusals.proofs.Judged.{differs_fine}
use Rattle.refusals.proofs.Meanings.{elapsed_fine}

module _ (x : Brought) (none : x.sheet.elapsed ≡ replicate x.sheet.steps 0) where
  length_dates : differs (length x.sheet.elapsed) x.sheet.steps ≡ false
  length_dates = (differs_fine _ _).1 (ap length none ∙ length-replicate x.sheet.steps 0)

  lists_dates : lists_bad x ≡ dates_only_lists_bad x
  unfolding lists_bad dates_only_lists_bad
  lists_dates = rw (length_dates, or-false) refl

  entry_0 : (i : ℕ) → i < x.sheet.steps → get_or x.sheet.elapsed i 0 ≡ 0
  entry_0 i h = ap (λ (l : List ℕ). get_or l i 0) none ∙ get_or-replicate x.sheet.steps i 0 0 h

  elapsed_dates : elapsed_bad x.sheet ≡ false
  elapsed_dates = (elapsed_fine x.sheet).1 (λ i h. omega (arith, entry_0 i h))

  dates_of : (lent : Bool) (more : List Test) → first (sheet_tests x lent more) ≡ first (dates_only_tests x lent more)
  unfolding sheet_tests dates_only_tests first
  dates_of lent more = rw (lists_dates, elapsed_dates) refl

pub refusals_by_dates : RefusalsByDates
refusals_by_dates x none lent more = dates_of x none lent more
