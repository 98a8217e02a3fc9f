-- Lists of events, computed: the promise is of lists that there are, and does not call a number withdrawn too soon.
use Rattle.std.proofs.Common.{◌≡◌, refl, true, false, List, [], ◌∷◌, ℕ, lit<, take}
use mathlib.Core.Option.{Option, none, some}
use Rattle.register.specs.Register.{WriteAnswer, number_of, issue, withdraw}
use Rattle.register.specs.Events.{RegisterEvent, returned, cut, reads, blank_register, after_event, after_events, CanCut, AllCanBe, answer_given, withdrawn_in, Gone}
use Rattle.register.proofs.Forever.{blank_forever}

abbrev numbered : Option WriteAnswer → Option ℕ
numbered none = none
numbered (some a) = some (number_of a)

-- Document 01's number of each answer that was returned.
abbrev numbers : List ℕ → List RegisterEvent → List (Option ℕ)
numbers register [] = []
numbers register (e ∷ es) = numbered (answer_given register e) ∷ numbers (after_event register e) es

-- The list can be, and these are its answers.
abbrev Goes : List RegisterEvent → List (Option ℕ) → Type 0
Goes es answers = AllCanBe blank_register es × (numbers blank_register es ≡ answers)

-- ---- issued and withdrawn, and refused from then on, also after a cut write of another number

abbrev once : List RegisterEvent
once =
    returned withdraw 7 ∷ returned issue 7 ∷ returned issue 7 ∷ reads ∷ returned withdraw 7 ∷ cut issue 8 0xAD ∷ returned issue 7
    ∷ returned withdraw 7 ∷ []

pub once_goes : Goes once (some 10 ∷ some 0 ∷ some 17 ∷ none ∷ some 0 ∷ none ∷ some 9 ∷ some 9 ∷ [])
once_goes = ((tt, (tt, (tt, (tt, (tt, (cut_can, (tt, (tt, tt)))))))), refl)
  where
    cut_can : CanCut (after_events blank_register (take 5 once)) issue 8 0xAD
    cut_can = record { accepted = refl; byte = lit< tt; left = refl }

-- From the fifth event on, and not before.
pub once_gone : Gone (after_events blank_register once) 7
once_gone = blank_forever once once_goes.0 7 8 refl

pub once_since : (withdrawn_in blank_register (take 4 once) 7 ≡ false) × (withdrawn_in blank_register (take 5 once) 7 ≡ true)
once_since = (refl, refl)

-- ---- a withdrawal that power cut: what was found reads withdrawn, though none returned

abbrev cut_withdraw : List RegisterEvent
cut_withdraw = returned issue 7 ∷ cut withdraw 7 0x84 ∷ returned withdraw 7 ∷ []

pub cut_withdraw_goes : Goes cut_withdraw (some 0 ∷ none ∷ some 9 ∷ [])
cut_withdraw_goes = ((tt, (record { accepted = refl; byte = lit< tt; left = refl }, (tt, tt))), refl)

pub cut_withdraw_untold : withdrawn_in blank_register cut_withdraw 7 ≡ false
cut_withdraw_untold = refl

-- ---- an issue that power cut: found unissued, live and withdrawn, each seen by the next issue

abbrev cut_issue_lem : ℕ → List RegisterEvent
cut_issue_lem found = cut issue 7 found ∷ returned issue 7 ∷ []

pub found_unissued : Goes (cut_issue_lem 0xFF) (none ∷ some 0 ∷ [])
found_unissued = ((record { accepted = refl; byte = lit< tt; left = refl }, (tt, tt)), refl)

pub found_live : Goes (cut_issue_lem 0xA5) (none ∷ some 17 ∷ [])
found_live = ((record { accepted = refl; byte = lit< tt; left = refl }, (tt, tt)), refl)

pub found_withdrawn : Goes (cut_issue_lem 0xAD) (none ∷ some 9 ∷ [])
found_withdrawn = ((record { accepted = refl; byte = lit< tt; left = refl }, (tt, tt)), refl)
