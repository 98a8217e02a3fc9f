-- A sheet passes checks 1 to 8, 21 and 25 just where it is within 'Sheet and units'.
use Rattle.std.proofs.Common.{◌≡◌, Bool, false, List, [], ◌∷◌, ◌↔◌, Ok}
use mathlib.Core.Logic.Iff
use Rattle.sheet.specs.Brought.{Brought}
use Rattle.sheet.specs.Limits.{Limits}
use Rattle.refusals.specs.declared.Refusal.{Refusal}
use Rattle.refusals.specs.Tests.{Test, first, sheet_tests}
use Rattle.refusals.proofs.FirstTest.{first_none, first_fine}
use Rattle.refusals.proofs.Meanings.{pool_fine, lengths_fine, recovery_fine, attachments_fine, starts_fine, hazards_fine, discounts_fine, accruals_fine, elapsed_fine, coupons_fine}

-- One test more, before tests that find nothing just where L holds.
pub tests_fine : {b : Bool} {K L : Type 0} (f : Refusal) (l : List Test) → (b ≡ false) ↔ K → (first l ≡ Ok tt) ↔ L → (first ((b, f) ∷ l) ≡ Ok tt) ↔ (K × L)
tests_fine {b} f l k m =
    Iff.trans (first_fine b f l) (λ e. (k.0 e.0, m.0 e.1), λ p. (k.1 p.0, m.1 p.1))

pub limits : (x : Brought) (lent : Bool) → (first (sheet_tests x lent []) ≡ Ok tt) ↔ (Limits x × (lent ≡ false))
unfolding sheet_tests
limits x lent =
    Iff.trans
    (tests_fine _ _ (pool_fine x.sheet) (tests_fine _ _ (lengths_fine x Iff.rfl) (tests_fine _ _ (recovery_fine x.sheet) (tests_fine _ _ (attachments_fine x.sheet) (tests_fine _ _ (starts_fine x.sheet) (tests_fine _ _ (hazards_fine x.sheet) (tests_fine _ _ (discounts_fine x.sheet) (tests_fine _ _ (accruals_fine x.sheet) (tests_fine _ _ (elapsed_fine x.sheet) (tests_fine _ [] (coupons_fine x) Iff.rfl)))))))))) (
      λ m. (
        record {
          pool = m.0;
          lists = m.1.0.0;
          recovery = m.1.1.0;
          attachments = m.1.1.1.0;
          starts = m.1.1.1.1.0;
          hazards = m.1.1.1.1.1.0;
          discounts = m.1.1.1.1.1.1.0;
          accruals = m.1.1.1.1.1.1.1.0;
          elapsed = m.1.1.1.1.1.1.1.1.0;
          coupons = m.1.1.1.1.1.1.1.1.1.0;
        },
        m.1.0.1,
      ),
      λ p. let q = p.0 in (q.pool, ((q.lists, p.1), (q.recovery, (q.attachments, (q.starts, (q.hazards, (q.discounts, (q.accruals, (q.elapsed, (q.coupons, first_none)))))))))),
    )
