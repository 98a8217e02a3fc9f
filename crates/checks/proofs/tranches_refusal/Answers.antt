-- The recovery, then the attachment points.
use Rattle.std.proofs.Common.{rules, lt-ltb, le-ltb, ◌≡◌, sym, ap, ◌∙◌}
use Rattle.cash.specs.Units.{B}
use Rattle.refusals.specs.Tests.{recovery_bad, attachments_bad}
use Rattle.refusals.proofs.FirstTest.{first_none, first_met, first_passed}
use Rattle.faults.proofs.Lists.{attachments_part}
use Rattle.checks.proofs.tranches_refusal.Goals as goal

pub returns-then-recovery-gt-UNITS : goal.returns-then-recovery-gt-UNITS
unfolding recovery_bad B
returns-then-recovery-gt-UNITS c = sym (first_met _ _ _ (lt-ltb _ _ (rw c.recovery.ensures at c.if-recovery-gt-UNITS.true)))

pub returns-then-attachments_bad : goal.returns-then-attachments_bad
unfolding recovery_bad B
returns-then-attachments_bad c =
    let told : c.attachments_bad.result ≡ attachments_bad c.args.brought.now.sheet = c.attachments_bad.ensures ∙ attachments_part c.brought.inside.sheet.pool _ _ _ _ _ _ _ (ap (λ b. b.sheet) c.brought.view_is) (search rules) in
    sym (first_passed _ _ _ (le-ltb _ _ (rw c.recovery.ensures at c.if-recovery-gt-UNITS.false)) ∙ first_met _ _ _ (sym told ∙ c.if-attachments_bad.true))

pub returns : goal.returns
unfolding recovery_bad B
returns c =
    let told : c.attachments_bad.result ≡ attachments_bad c.args.brought.now.sheet = c.attachments_bad.ensures ∙ attachments_part c.brought.inside.sheet.pool _ _ _ _ _ _ _ (ap (λ b. b.sheet) c.brought.view_is) (search rules) in
    sym (first_passed _ _ _ (le-ltb _ _ (rw c.recovery.ensures at c.if-recovery-gt-UNITS.false)) ∙ first_passed _ _ _ (sym told ∙ c.if-attachments_bad.false) ∙ first_none)
