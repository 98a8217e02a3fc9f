-- When a call is accepted, of any outcome that keeps its rule; and that a withdrawn number is refused early.
use Rattle.std.proofs.Common.{ℕ, ◌*◌, ◌≤◌, ◌<◌, ◌≡◌, refl, true, List, [], ◌∷◌, ◌↔◌, ◌⊎◌, inl, inr, length, nat_abs}
use mathlib.Core.Logic.Iff
use Rattle.register.specs.Rules.{Unissued, Live}
use Rattle.sheet.specs.Brought.{Brought}
use Rattle.sheet.specs.Limits.{PoolInside, RecoveryInside, AttachmentsRise, StartsRise, HazardsInside, DiscountsInside, AccrualsInside, ElapsedInside, CouponsInside}
use Rattle.walk.specs.declared.Walk.{Walk}
use Rattle.rows.specs.Rows.{Rows}
use Rattle.walk.specs.Answers.{Said, accepted}
use Rattle.figures.specs.Nodes.{jump}
use Rattle.walk.specs.RefusalOrders.{RefusalOrder, to_ten, issue_order, withdraw_order, open_order, back_order, value_order, ratio_order, Judges}
use Rattle.walk.specs.CallRules.{RegisterResult, WalkResult, IssueRule, WithdrawRule, OpenRule, BackRule, ValueRule, RatioRule}
use Rattle.walk.specs.Accuracy.{EarlyRefusal}
use Rattle.walk.proofs.Judging.{Holds, numbered, judged_accepted, broken_refused}
use Rattle.walk.proofs.Ordering.{Opening, OnWay, only_live, live_issued, open_holds, back_holds, value_holds, ratio_holds}

-- ---- accepted just where

module _ (g : List ℕ) (y : ℕ) where
  pub issue_holds : Holds (issue_order g y) ↔ Unissued g y
  issue_holds = (λ h. only h.1.0 h.1.1.0, λ u. (u.size, (inl u, (λ v. live_issued g y v u, tt))))
    where
      only : Unissued g y ⊎ Live g y → ¬ (Live g y) → Unissued g y
      only (inl u) n = u
      only (inr v) n = absurd (n v)

  pub withdraw_holds : Holds (withdraw_order g y) ↔ Live g y
  withdraw_holds = (λ h. only_live g y h.1.0 h.1.1.0, λ v. (v.size, (inr v, (live_issued g y v, tt))))

  pub issue_taken : (o : RegisterResult) → IssueRule g y o → (accepted o.said ≡ true) ↔ Unissued g y
  issue_taken o r = Iff.trans (judged_accepted (issue_order g y) o.said refl r.judged) issue_holds

  pub withdraw_taken : (o : RegisterResult) → WithdrawRule g y o → (accepted o.said ≡ true) ↔ Live g y
  withdraw_taken o r = Iff.trans (judged_accepted (withdraw_order g y) o.said refl r.judged) withdraw_holds

module _ (x : Brought) (g : List ℕ) (w : Walk) (l : Rows) (o : WalkResult) where
  pub open_taken : OpenRule x g w l o → (accepted o.said ≡ true) ↔ Opening x g l
  open_taken r = Iff.trans (judged_accepted (open_order x g l) o.said refl r.judged) (open_holds x g l)

  pub back_taken : (c : ℕ) → BackRule x g w l c o → (accepted o.said ≡ true) ↔ (OnWay x g w l × (c ≤ w.position))
  back_taken c r = Iff.trans (judged_accepted (back_order x g w l c) o.said refl r.judged) (back_holds x g w l c)

  pub value_taken : (j k : ℕ) → ValueRule x g w l j k o
      → (accepted o.said ≡ true) ↔ (OnWay x g w l × (j ≤ x.sheet.tranches) × (k ≤ x.sheet.names))
  value_taken j k r = Iff.trans (judged_accepted (value_order x g w l j k) o.said refl r.judged) (value_holds x g w l j k)

  pub ratio_taken : (j k : ℕ) → RatioRule x g w l j k o
      → (accepted o.said ≡ true)
      ↔ (OnWay x g w l × (j ≤ x.sheet.tranches) × (k < x.sheet.names) × (¬ (nat_abs (jump x l x.sheet.tranches k) ≡ 0))
      × (nat_abs (jump x l j k) < 1_000_000 * nat_abs (jump x l x.sheet.tranches k)))
  ratio_taken j k r = Iff.trans (judged_accepted (ratio_order x g w l j k) o.said refl r.judged) (ratio_holds x g w l j k)

-- ---- a number that is neither unissued nor live

module _ (g : List ℕ) (y : ℕ) (gone : ¬ (Unissued g y ⊎ Live g y)) (a : Said) where
  pub issue_early : Judges (issue_order g y) a → EarlyRefusal (issue_order g y) a
  issue_early j = broken_refused ((length g ≡ 256, 2) ∷ []) _ ((¬ (Live g y), 17) ∷ []) a refl refl gone j

  pub withdraw_early : Judges (withdraw_order g y) a → EarlyRefusal (withdraw_order g y) a
  withdraw_early j = broken_refused ((length g ≡ 256, 2) ∷ []) _ ((¬ (Unissued g y), 10) ∷ []) a refl refl gone j

-- The five calls that bring a sheet.
pub ten_early : (x : Brought) (g : List ℕ) → ¬ (Unissued g x.number ⊎ Live g x.number) → (K : Type 0) (m : RefusalOrder) (a : Said)
    → numbered m ≡ true → Judges (to_ten x g K m) a → EarlyRefusal (to_ten x g K m) a
ten_early x g gone K m a n j =
    broken_refused
    ((PoolInside x.sheet, 1) ∷ (K, 2) ∷ (RecoveryInside x.sheet, 3) ∷ (AttachmentsRise x.sheet, 4) ∷ (StartsRise x.sheet, 25)
    ∷ (HazardsInside x.sheet, 5) ∷ (DiscountsInside x.sheet, 6) ∷ (AccrualsInside x.sheet, 7) ∷ (ElapsedInside x.sheet, 21)
    ∷ (CouponsInside x, 8) ∷ [])
    _ ((¬ (Unissued g x.number), 10) ∷ m) a n refl gone j
