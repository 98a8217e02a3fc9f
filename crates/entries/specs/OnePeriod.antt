-- A deck has one period, from step 1 on: no command enters a start (T-06).
use Rattle.std.specs.Prelude.{◌≡◌, [], ◌∷◌}
use Rattle.commands.specs.declared.Entry.{Entry}
use Rattle.entries.specs.Draft.{Draft, empty_draft, added}

pub record OnePeriod : Type 0 where
  pub first : empty_draft.brought.sheet.starts ≡ 1 ∷ []
  pub kept : (e : Entry) (g : Draft) → (added e g).brought.sheet.starts ≡ g.brought.sheet.starts
