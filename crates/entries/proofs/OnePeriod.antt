-- By cases of the entry.
use Rattle.std.proofs.Common.{◌≡◌, refl}
use Rattle.commands.specs.declared.Entry.{Entry}
use Rattle.commands.specs.declared.Entry.TheVariants.{Pool, Attachment, Hazard, Step, Coupon, Elapsed}
use Rattle.entries.specs.Draft.{Draft, added}
use Rattle.entries.specs.OnePeriod.{OnePeriod}

kept : (e : Entry) (g : Draft) → (added e g).brought.sheet.starts ≡ g.brought.sheet.starts
unfolding added
kept (Pool n m r recovery number) g = refl
kept (Attachment a) g = refl
kept (Hazard p) g = refl
kept (Step v d) g = refl
kept (Coupon s) g = refl
kept (Elapsed f) g = refl

pub one_period : OnePeriod
one_period = record { first = refl; kept = kept }
