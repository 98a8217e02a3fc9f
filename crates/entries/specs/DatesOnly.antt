-- A deck that enters no elapsed fraction pays premium on dates only: it has m zeros (T-01).
use Rattle.std.specs.Prelude.{◌≡◌, Bool, true, false, []}
use Rattle.commands.specs.declared.Entry.{Entry}
use Rattle.commands.specs.declared.Entry.TheVariants.{Pool, Attachment, Hazard, Step, Coupon, Elapsed}
use Rattle.entries.specs.Draft.{Draft, empty_draft, fractions, added}

-- Whether an entry enters a fraction.
abbrev pub enters_fraction : Entry → Bool
enters_fraction (Pool n m r recovery number) = false
enters_fraction (Attachment a) = false
enters_fraction (Hazard p) = false
enters_fraction (Step v d) = false
enters_fraction (Coupon s) = false
enters_fraction (Elapsed e) = true

-- No fraction was entered, and a call brings a zero a step.
pub record NoFractions (g : Draft) : Type 0 where
  pub none : g.elapsed ≡ []
  pub zeros : g.brought.sheet.elapsed ≡ fractions [] g.brought.sheet.steps

pub record DatesOnly : Type 0 where
  pub first : NoFractions empty_draft
  pub kept : (e : Entry) (g : Draft) → enters_fraction e ≡ false → NoFractions g → NoFractions (added e g)
