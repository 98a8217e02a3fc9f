-- The tests of each call stand for its order of rules; what the rules of an order come to.
use Rattle.std.proofs.Common.{ℕ, suc, ◌*◌, ◌≤◌, ◌<◌, ◌≡◌, refl, sym, ◌∙◌, ap, Bool, false, ◌||◌, true≢false, List, [], ◌∷◌, ◌↔◌, ◌⊎◌, inl, inr, arith}
use Rattle.std.proofs.Common.{length, get_or, nat_abs, ne_eqb}
use mathlib.Core.Logic.Iff
use borrow.Author.Tests.{eqb-false}
use Rattle.register.specs.declared.answers.Status.{Status}
use Rattle.register.specs.Register.{status_in}
use Rattle.register.specs.Rules.{Unissued, Live, Withdrawn}
use Rattle.register.proofs.Rules.{Says, wrong, withdrawn, unissued, live, says}
use Rattle.sheet.specs.Terms.{Terms}
use Rattle.tree.specs.Sheet.{default_most, premium_most}
use Rattle.rows.specs.Rows.{node_in, any_over, soiled, Rows}
use Rattle.sheet.specs.Brought.{Brought}
use Rattle.sheet.specs.Limits.{ListsFit, Limits}
use Rattle.refusals.specs.Tests.{Test, lists_bad, sheet_tests}
use Rattle.refusals.proofs.Judged.{or_fine, most_fine, rise_fine, any_fine}
use Rattle.refusals.proofs.Meanings.{pool_fine, lengths_fine, recovery_fine, attachments_fine, starts_fine, hazards_fine, discounts_fine, accruals_fine, elapsed_fine, coupons_fine}
use Rattle.walk.specs.declared.Walk.{Walk}
use Rattle.figures.specs.Nodes.{jump}
use Rattle.walk.specs.RefusalOrders.{LentFit, ForwardFit, OnWalk, Clean, RefusalOrder, to_ten, to_twelve, open_order, back_order, value_order, ratio_order, forward_order}
use Rattle.admission.specs.LentTests.{rows_bad, row_bad, is_withdrawn, is_unissued, off_walk, ten_tests, walk_tests}
use Rattle.walk.specs.Calls.{twelve_tests, open_tests, back_tests, value_tests, ratio_tests, forward_tests}
use Rattle.admission.proofs.Lengths.{rows_fine, row_fine, off_fine}
use Rattle.walk.proofs.Judging.{Holds, Stands}

-- ---- 2: the lengths

module _ (x : Brought) (g : List ℕ) where
  pub rows_lent_fine : (l : Rows) → ((lists_bad x || rows_bad x g l) ≡ false) ↔ LentFit x g l
  rows_lent_fine l =
      Iff.trans (lengths_fine x (rows_fine x g l)) (
        λ m. record { lists = m.0; size = m.1.0.0; rows = record { defaults = m.1.0.1; premiums = m.1.1 } },
        λ p. (p.lists, ((p.size, p.rows.defaults), p.rows.premiums)),
      )

  pub row_lent_fine : (q : List ℕ) → ((lists_bad x || row_bad x g q) ≡ false) ↔ ForwardFit x g q
  row_lent_fine q =
      Iff.trans (lengths_fine x (row_fine x g q))
      (λ m. record { lists = m.0; size = m.1.0; row = m.1.1 }, λ p. (p.lists, (p.size, p.row)))

-- ---- 9 and 10: the register, of the right length

pub only_live : (g : List ℕ) (y : ℕ) → Unissued g y ⊎ Live g y → ¬ (Unissued g y) → Live g y
only_live g y (inl u) n = absurd (n u)
only_live g y (inr v) n = v

pub live_issued : (g : List ℕ) (y : ℕ) → Live g y → ¬ (Unissued g y)
live_issued g y v u = let e : ◌≡◌ {A = ℕ} 0xFF 0xA5 = sym u.byte ∙ v.byte in omega arith

pub not_either : (g : List ℕ) (y : ℕ) → Withdrawn g y → ¬ (Unissued g y ⊎ Live g y)
not_either g y h (inl u) = h.not_unissued u.byte
not_either g y h (inr v) = h.not_live v.byte

module _ (g : List ℕ) (y : ℕ) (long : length g ≡ 256) where
  says_gone : Withdrawn g y → status_in g y ≡ Status.Withdrawn
  says_gone h = simp (ne_eqb (get_or g y 0) 0xFF h.not_unissued, ne_eqb (get_or g y 0) 0xA5 h.not_live)

  pub withdrawn_fine : (is_withdrawn (status_in g y) ≡ false) ↔ (Unissued g y ⊎ Live g y)
  withdrawn_fine = go (says g y)
    where
      go : Says g y → (is_withdrawn (status_in g y) ≡ false) ↔ (Unissued g y ⊎ Live g y)
      go (wrong h) = absurd (h long)
      go (withdrawn h) = (λ p. absurd (true≢false (sym (ap is_withdrawn (says_gone h)) ∙ p)), λ p. absurd (not_either g y h p))
      go (unissued h) = (λ p. inl h, λ p. rw h.byte)
      go (live h) = (λ p. inr h, λ p. rw h.byte)

  pub unissued_fine : (is_unissued (status_in g y) ≡ false) ↔ (¬ (Unissued g y))
  unissued_fine = go (says g y)
    where
      go : Says g y → (is_unissued (status_in g y) ≡ false) ↔ (¬ (Unissued g y))
      go (wrong h) = absurd (h long)
      go (withdrawn h) = (λ p u. h.not_unissued u.byte, λ p. ap is_unissued (says_gone h))
      go (unissued h) = (λ p. absurd (true≢false (rw h.byte at p)), λ p. absurd (p h))
      go (live h) = (λ p. live_issued g y h, λ p. rw h.byte)

-- ---- 11 and 12: the walk and its rows

pub walk_fine : (x : Brought) (w : Walk) → (off_walk x w.«open» w.number w.position ≡ false) ↔ OnWalk x w
walk_fine x w =
    Iff.trans (off_fine x w.«open» w.number w.position)
    (λ m. record { opened = m.0.0; number = m.0.1; position = m.1 }, λ p. ((p.opened, p.number), p.position))

pub over_fine : (x : Terms) (most : ℕ → ℕ → ℕ) (row : List ℕ)
    → (any_over x most row ≡ false) ↔ ((j k : ℕ) → j ≤ x.tranches → k ≤ x.names → node_in x row j k ≤ most j k)
unfolding any_over
over_fine x most row =
    Iff.trans (any_fine (suc x.tranches) (λ j. any_fine (suc x.names) (λ k. most_fine (most j k) (node_in x row j k))))
    (λ m j k p q. m j (omega arith) k (omega arith), λ m j p k q. m j k (omega arith) (omega arith))

pub soiled_fine : (x : Terms) (i : ℕ) (l : Rows) → (soiled x i l.defaults l.premiums ≡ false) ↔ Clean x i l
unfolding soiled
soiled_fine x i l =
    Iff.trans (or_fine (over_fine x (default_most x) l.defaults) (over_fine x (λ j k. premium_most x i k) l.premiums))
    (λ m. record { default = m.0; premium = m.1 }, λ p. (p.default, p.premium))

-- ---- the orders

module _ (x : Brought) (g : List ℕ) where
  -- Checks 1 to 10, with any check of the lengths that has the register's.
  pub ten_stands : (lent : Bool) (K : Type 0) (more : List Test) (m : RefusalOrder) → ((lists_bad x || lent) ≡ false) ↔ K → (K → length g ≡ 256)
      → Stands more m → Stands (ten_tests x g lent more) (to_ten x g K m)
  unfolding ten_tests sheet_tests
  ten_stands lent K more m lengths long rest = (
    pool_fine x.sheet,
    refl,
    λ k1. (
      lengths,
      refl,
      λ k2. (
        recovery_fine x.sheet,
        refl,
        λ k3. (
          attachments_fine x.sheet,
          refl,
          λ k4. (
            starts_fine x.sheet,
            refl,
            λ k25. (
              hazards_fine x.sheet,
              refl,
              λ k5. (
                discounts_fine x.sheet,
                refl,
                λ k6. (
                  accruals_fine x.sheet,
                  refl,
                  λ k7. (
                    elapsed_fine x.sheet,
                    refl,
                    λ k21. (
                      coupons_fine x,
                      refl,
                      λ k8.
                          (withdrawn_fine g x.number (long k2), refl, λ k9. (unissued_fine g x.number (long k2), refl, λ k10. rest)),
                    ),
                  ),
                ),
              ),
            ),
          ),
        ),
      ),
    ),
  )

  pub twelve_stands : (w : Walk) (l : Rows) (more : List Test) (m : RefusalOrder) → Stands more m → Stands (twelve_tests x g w l more) (to_twelve x g w l m)
  unfolding walk_tests
  twelve_stands w l more m rest =
      ten_stands (rows_bad x g l) _ _ _ (rows_lent_fine x g l) (λ k. k.size)
      (walk_fine x w, refl, λ k11. (soiled_fine x.sheet w.position l, refl, λ k12. rest))

  pub open_stands : (l : Rows) → Stands (open_tests x g l) (open_order x g l)
  unfolding open_tests
  open_stands l = ten_stands (rows_bad x g l) _ [] [] (rows_lent_fine x g l) (λ k. k.size) tt

  pub back_stands : (w : Walk) (l : Rows) (c : ℕ) → Stands (back_tests x g w l c) (back_order x g w l c)
  unfolding back_tests
  back_stands w l c = twelve_stands w l _ _ (most_fine w.position c, refl, λ k. tt)

  pub value_stands : (w : Walk) (l : Rows) (j k : ℕ) → Stands (value_tests x g w l j k) (value_order x g w l j k)
  unfolding value_tests
  value_stands w l j k = twelve_stands w l _ _ (or_fine (most_fine x.sheet.tranches j) (most_fine x.sheet.names k), refl, λ k. tt)

  pub ratio_stands : (w : Walk) (l : Rows) (j k : ℕ) → Stands (ratio_tests x g w l j k) (ratio_order x g w l j k)
  unfolding ratio_tests
  ratio_stands w l j k =
      twelve_stands w l _ _ (
        or_fine (most_fine x.sheet.tranches j) (rise_fine x.sheet.names k),
        refl,
        λ k14. (
          (eqb-false (nat_abs (jump x l x.sheet.tranches k)) 0, ne_eqb (nat_abs (jump x l x.sheet.tranches k)) 0),
          refl,
          λ k15.
              (rise_fine (1_000_000 * nat_abs (jump x l x.sheet.tranches k)) (nat_abs (jump x l j k)), refl, λ k16. tt),
        ),
      )

  pub forward_stands : (q : List ℕ) (i : ℕ) → Stands (forward_tests x g q i) (forward_order x g q i)
  unfolding forward_tests
  forward_stands q i = ten_stands (row_bad x g q) _ _ _ (row_lent_fine x g q) (λ k. k.size) (most_fine x.sheet.steps i, refl, λ k. tt)

-- ---- what the rules of an order come to

-- Of open: a sheet within limits, lists of the right length and a live number.
pub record Opening (x : Brought) (g : List ℕ) (l : Rows) : Type 0 where
  pub limits : Limits x
  pub lent : LentFit x g l
  pub live : Live g x.number

-- Of back, value and hedge ratio: the walk is the sheet's too, and its rows are clean.
pub record OnWay (x : Brought) (g : List ℕ) (w : Walk) (l : Rows) : Type 0 where
  pub limits : Limits x
  pub lent : LentFit x g l
  pub live : Live g x.number
  pub walk : OnWalk x w
  pub clean : Clean x.sheet w.position l

-- Of forward.
pub record Forwarding (x : Brought) (g q : List ℕ) (i : ℕ) : Type 0 where
  pub limits : Limits x
  pub lent : ForwardFit x g q
  pub live : Live g x.number
  pub steps : i ≤ x.sheet.steps

module _ (x : Brought) (g : List ℕ) where
  pub ten_holds : (K : Type 0) (m : RefusalOrder) → (K → ListsFit x) → Holds (to_ten x g K m) ↔ (Limits x × K × Live g x.number × Holds m)
  ten_holds K m lists = (there, back)
    where
      there : Holds (to_ten x g K m) → Limits x × K × Live g x.number × Holds m
      there (a, (b, (c, (d, (s, (e, (f, (h, (t, (i, (u, (n, rest)))))))))))) = (
        record { pool = a; lists = lists b; recovery = c; attachments = d; starts = s; hazards = e; discounts = f; accruals = h; elapsed = t; coupons = i },
        b,
        only_live g x.number u n,
        rest,
      )

      back : Limits x × K × Live g x.number × Holds m → Holds (to_ten x g K m)
      back (q, b, v, rest) =
          (q.pool, (b, (q.recovery, (q.attachments, (q.starts, (q.hazards, (q.discounts, (q.accruals, (q.elapsed, (q.coupons, (inr v, (live_issued g x.number v, rest))))))))))))

  pub open_holds : (l : Rows) → Holds (open_order x g l) ↔ Opening x g l
  open_holds l =
      Iff.trans (ten_holds (LentFit x g l) [] (λ k. k.lists))
      (λ p. record { limits = p.0; lent = p.1; live = p.2 }, λ o. (o.limits, o.lent, o.live, tt))

  pub twelve_holds : (w : Walk) (l : Rows) (m : RefusalOrder) → Holds (to_twelve x g w l m) ↔ (OnWay x g w l × Holds m)
  twelve_holds w l m =
      Iff.trans (ten_holds (LentFit x g l) ((OnWalk x w, 11) ∷ (Clean x.sheet w.position l, 12) ∷ m) (λ k. k.lists)) (
        λ p. (record { limits = p.0; lent = p.1; live = p.2; walk = p.3.0; clean = p.3.1.0 }, p.3.1.1),
        λ o. (o.0.limits, o.0.lent, o.0.live, (o.0.walk, (o.0.clean, o.1))),
      )

  pub back_holds : (w : Walk) (l : Rows) (c : ℕ) → Holds (back_order x g w l c) ↔ (OnWay x g w l × (c ≤ w.position))
  back_holds w l c =
      Iff.trans (twelve_holds w l ((c ≤ w.position, 13) ∷ [])) (λ p. (p.0, p.1.0), λ o. (o.0, (o.1, tt)))

  pub value_holds : (w : Walk) (l : Rows) (j k : ℕ) → Holds (value_order x g w l j k) ↔ (OnWay x g w l × (j ≤ x.sheet.tranches) × (k ≤ x.sheet.names))
  value_holds w l j k =
      Iff.trans (twelve_holds w l (((j ≤ x.sheet.tranches) × (k ≤ x.sheet.names), 14) ∷ []))
      (λ p. (p.0, p.1.0.0, p.1.0.1), λ o. (o.0, ((o.1, o.2), tt)))

  pub ratio_holds : (w : Walk) (l : Rows) (j k : ℕ) → Holds (ratio_order x g w l j k)
      ↔ (OnWay x g w l × (j ≤ x.sheet.tranches) × (k < x.sheet.names) × (¬ (nat_abs (jump x l x.sheet.tranches k) ≡ 0))
      × (nat_abs (jump x l j k) < 1_000_000 * nat_abs (jump x l x.sheet.tranches k)))
  ratio_holds w l j k =
      Iff.trans
      (twelve_holds w l (((j ≤ x.sheet.tranches) × (k < x.sheet.names), 14) ∷ (¬ (nat_abs (jump x l x.sheet.tranches k) ≡ 0), 15)
      ∷ (nat_abs (jump x l j k) < 1_000_000 * nat_abs (jump x l x.sheet.tranches k), 16) ∷ []))
      (λ p. (p.0, p.1.0.0, p.1.0.1, p.1.1.0, p.1.1.1.0), λ o. (o.0, ((o.1, o.2), (o.3, (o.4, tt)))))

  pub forward_holds : (q : List ℕ) (i : ℕ) → Holds (forward_order x g q i) ↔ Forwarding x g q i
  forward_holds q i =
      Iff.trans (ten_holds (ForwardFit x g q) ((i ≤ x.sheet.steps, 13) ∷ []) (λ k. k.lists))
      (λ p. record { limits = p.0; lent = p.1; live = p.2; steps = p.3.0 }, λ o. (o.limits, o.lent, o.live, (o.steps, tt)))
