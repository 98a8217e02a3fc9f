-- By cases of the entry.
use Rattle.std.proofs.Common.{ℕ, ◌≡◌, refl, ap, false, List, arith}
use Rattle.commands.specs.declared.Entry.{Entry}
use Rattle.commands.specs.declared.Entry.TheVariants.{Pool, Attachment, Hazard, Step, Coupon, Elapsed}
use Rattle.entries.specs.Draft.{Draft, empty_draft, fractions, added}
use Rattle.entries.specs.DatesOnly.{enters_fraction, NoFractions, DatesOnly}

first : NoFractions empty_draft
unfolding fractions
first = record { none = refl; zeros = refl }

kept : (e : Entry) (g : Draft) → enters_fraction e ≡ false → NoFractions g → NoFractions (added e g)
unfolding added
kept (Pool n m r recovery number) g _ h = record { none = h.none; zeros = ap (λ (l : List ℕ). fractions l m) h.none }
kept (Attachment a) g _ h = record { none = h.none; zeros = h.zeros }
kept (Hazard p) g _ h = record { none = h.none; zeros = h.zeros }
kept (Step v d) g _ h = record { none = h.none; zeros = h.zeros }
kept (Coupon s) g _ h = record { none = h.none; zeros = h.zeros }
kept (Elapsed e) g q h = let z : ◌≡◌ {A = ℕ} 0 1 = cc in absurd (omega (arith, z))

pub dates_only_lem : DatesOnly
dates_only_lem = record { first = first; kept = kept }
