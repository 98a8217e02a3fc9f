-- What the limits of a sheet tell of every place of its lists, and of a sheet lent in part.
use Rattle.std.proofs.Common.{ℕ, ◌+◌, ◌≤◌, ◌<◌, le_trans, ◌≡◌, refl, List, arith, length, get_or, drop, get_or-drop}
use native.Mathlib.Decide.{dec_lt}
use lib.ListN.{get_or-eq_default}
use Rattle.cash.specs.Units.{B}
use Rattle.sheet.specs.Terms.{Terms}
use Rattle.sheet.specs.Brought.{Brought}
use Rattle.sheet.specs.Limits.{TranchesWithin, TermsWithin, Limits}
use Rattle.sheet.proofs.Dates.{next_most}

-- Past its end a list gives 0, so a bound on its own numbers is one on all.
all_most : (l : List ℕ) (n most : ℕ) → length l ≡ n → ((i : ℕ) → i < n → get_or l i 0 ≤ most) → (i : ℕ) → get_or l i 0 ≤ most
all_most l n most e h i = go (dec_lt i n)
  where
    go : Dec (i < n) → get_or l i 0 ≤ most
    go (yes q) = h i q
    go (no q) = let past : length l ≤ i = omega arith in omega (arith, get_or-eq_default l 0 past)

pub attachment_most : (x : Terms) → TranchesWithin x → (j : ℕ) → get_or x.attachments j 0 ≤ B
attachment_most x t = all_most x.attachments _ B t.points t.attachments.most

module _ (x : Terms) (w : TermsWithin x) where
  pub hazard_most : (k : ℕ) → get_or x.hazards k 0 ≤ B
  hazard_most = all_most x.hazards _ B refl (λ i h. w.hazards i (omega arith))

  pub discount_most : (i : ℕ) → get_or x.discounts i 0 ≤ B
  discount_most = all_most x.discounts _ B w.curves.discounts (λ i h. (w.discounts i h).1)

  pub accrual_most : (i : ℕ) → get_or x.accruals i 0 ≤ B
  accrual_most = all_most x.accruals _ B w.curves.accruals w.accruals.most

  pub elapsed_most : (i : ℕ) → get_or x.elapsed i 0 ≤ B
  elapsed_most = all_most x.elapsed _ B w.curves.elapsed (λ i h. le_trans (w.elapsed i h) (next_most (drop i x.accruals) B (below i)))
    where
      below : (i n : ℕ) → get_or (drop i x.accruals) n 0 ≤ B
      below i n = omega (arith, get_or-drop i x.accruals n 0, accrual_most (i + n))

-- The part of a sheet's limits that its values rest on.
pub limits_terms : (x : Brought) → Limits x → TermsWithin x.sheet
limits_terms x m =
    record {
      tranches = record { pool = m.pool; points = m.lists.0; recovery = m.recovery; attachments = m.attachments };
      curves = m.lists.1;
      starts = m.starts;
      hazards = m.hazards;
      discounts = m.discounts;
      accruals = m.accruals;
      elapsed = m.elapsed;
    }
