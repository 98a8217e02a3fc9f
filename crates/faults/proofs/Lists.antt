-- A search over a whole list that has its length is the search that a test of the sheet names.
use Rattle.std.proofs.Common.{ℕ, pred, ◌+◌, ◌*◌, ◌-◌, ◌^◌, ◌≤◌, ◌<◌, ◌≡◌, refl, ap, sym, ◌∙◌, Bool, false, ◌||◌, List, [], arith, sub-one, length, get_or}
use Rattle.std.proofs.Common.{ltb, eqb, le_refl, mul-le-mul}
use Rattle.std.specs.List.{sum}
use Rattle.std.proofs.lemmas.List.{get_or_default}
use Rattle.std.proofs.lemmas.List.Sums.{sum_by-le}
use Rattle.cash.specs.Units.{B}
use Rattle.refusals.proofs.Judged.{any_fine, most_fine}
use Rattle.sheet.specs.declared.Pool.{Pool}
use Rattle.sheet.specs.Terms.{Terms, terms_of, bare, sum_of}
use Rattle.rows.specs.Tables.{any}
use Rattle.sheet.specs.Brought.{Brought}
use Rattle.lists.specs.Outside.{outside}
use Rattle.refusals.specs.Tests.{pool_bad, attachments_bad, starts_bad, hazards_bad, discounts_bad, accruals_bad, elapsed_bad, coupons_bad}
use Rattle.lists.proofs.Loops.{falls}
use Rattle.faults.proofs.Elapsed.{over_next}

same_reach : (f : ℕ → Bool) {n m : ℕ} → n ≡ m → any n f ≡ any m f
same_reach f e = ap (λ n. any n f) e

-- Few numbers that are none above B have a sum that fits.
pub sum_fits : (l : List ℕ) → length l ≤ 3650 → any (length l) (λ i. ltb B (get_or l i 0)) ≡ false → sum l < 2 ^ 64
unfolding B
sum_fits l short low =
    omega (
      arith,
      sum_by-le (λ y. y) B l (λ i d h. rw (get_or_default l i d 0 h) ((any_fine (length l) (λ i. most_fine B (get_or l i 0))).0 low i h)),
      mul-le-mul {m₁ = B} {m₂ = B} short (le_refl B),
    )

module _ (x : Terms) where
  pub attachments_told : {fall high : Bool} → length x.attachments ≡ x.tranches + 1 →
      fall ≡ any (pred (length x.attachments)) (falls x.attachments) →
      high ≡ any (length x.attachments) (λ i. ltb B (get_or x.attachments i 0)) → (fall || high) ≡ attachments_bad x
  unfolding attachments_bad
  attachments_told e p q =
      let less : pred (length x.attachments) ≡ x.tranches = omega (arith, sub-one (length x.attachments)) in
      rw (p ∙ same_reach _ less, q ∙ same_reach _ e)

  -- a list that is the sheet's own
  pub hazards_told : {l : List ℕ} {high : Bool} → l ≡ x.hazards →
      high ≡ any (length l) (λ i. ltb B (get_or l i 0)) → high ≡ hazards_bad x
  unfolding hazards_bad
  hazards_told s p = p ∙ (λ t. any (length (s t)) (λ i. ltb B (get_or (s t) i 0)))

  pub discounts_told : {l : List ℕ} {off : Bool} → l ≡ x.discounts → length x.discounts ≡ x.steps →
      off ≡ any (length l) (λ i. outside 1 B (get_or l i 0)) → off ≡ discounts_bad x
  unfolding discounts_bad
  discounts_told s e p = p ∙ (λ t. any (length (s t)) (λ i. outside 1 B (get_or (s t) i 0))) ∙ same_reach _ e

  pub accruals_told : {high over zero : Bool} → length x.accruals ≡ x.steps →
      high ≡ any (length x.accruals) (λ i. ltb B (get_or x.accruals i 0)) →
      over ≡ ltb (10 * B) (sum_of x.accruals) →
      zero ≡ eqb (get_or x.accruals (x.steps - 1) 0) 0 → (high || over || zero) ≡ accruals_bad x
  unfolding accruals_bad
  accruals_told e p q z = rw (p ∙ same_reach _ e, q, z ∙ ap (λ i. eqb (get_or x.accruals i 0) 0) (sub-one x.steps))

  pub elapsed_told : {high : Bool} → length x.elapsed ≡ x.steps →
      high ≡ any (length x.elapsed) (over_next x.accruals x.elapsed) → high ≡ elapsed_bad x
  unfolding elapsed_bad
  elapsed_told e p = p ∙ same_reach _ e

module _ (x : Brought) where
  pub coupons_told : {l : List ℕ} {high : Bool} → l ≡ x.coupons → length x.coupons ≡ x.sheet.tranches + 1 →
      high ≡ any (length l) (λ i. ltb 10_000_000 (get_or l i 0)) → high ≡ coupons_bad x
  unfolding coupons_bad
  coupons_told s e p = p ∙ (λ t. any (length (s t)) (λ i. ltb 10_000_000 (get_or (s t) i 0))) ∙ same_reach _ e

-- What rests on the pool, and one list or two at most, of the sheet x that the pool and its lists tell.
module _ (pool : Pool) (attachments starts hazards discounts accruals elapsed : List ℕ) (x : Terms)
    (x_is : terms_of pool attachments starts hazards discounts accruals elapsed ≡ x) where
  abbrev whole : Terms
  whole = terms_of pool attachments starts hazards discounts accruals elapsed

  pool_whole : pool_bad (bare pool []) ≡ pool_bad whole
  unfolding pool_bad
  pool_whole = refl

  pub pool_part : pool_bad (bare pool []) ≡ pool_bad x
  pool_part = pool_whole ∙ ap pool_bad x_is

  attachments_whole : attachments_bad (bare pool attachments) ≡ attachments_bad whole
  unfolding attachments_bad
  attachments_whole = refl

  pub attachments_part : {l : List ℕ} → l ≡ x.attachments → attachments_bad (bare pool l) ≡ attachments_bad x
  attachments_part e = ap (λ y. attachments_bad (bare pool y)) (e ∙ ap (λ y. y.attachments) (sym x_is)) ∙ attachments_whole ∙ ap attachments_bad x_is

  starts_whole : starts_bad (terms_of pool [] starts [] [] [] []) ≡ starts_bad whole
  unfolding starts_bad
  starts_whole = refl

  pub starts_part : {l : List ℕ} → l ≡ x.starts → starts_bad (terms_of pool [] l [] [] [] []) ≡ starts_bad x
  starts_part e = ap (λ y. starts_bad (terms_of pool [] y [] [] [] [])) (e ∙ ap (λ y. y.starts) (sym x_is)) ∙ starts_whole ∙ ap starts_bad x_is

  accruals_whole : accruals_bad (terms_of pool [] [] [] [] accruals []) ≡ accruals_bad whole
  unfolding accruals_bad
  accruals_whole = refl

  pub accruals_part : {l : List ℕ} → l ≡ x.accruals → accruals_bad (terms_of pool [] [] [] [] l []) ≡ accruals_bad x
  accruals_part e = ap (λ y. accruals_bad (terms_of pool [] [] [] [] y [])) (e ∙ ap (λ y. y.accruals) (sym x_is)) ∙ accruals_whole ∙ ap accruals_bad x_is

  elapsed_whole : elapsed_bad (terms_of pool [] [] [] [] accruals elapsed) ≡ elapsed_bad whole
  unfolding elapsed_bad
  elapsed_whole = refl

  pub elapsed_part : {l e : List ℕ} → l ≡ x.accruals → e ≡ x.elapsed → elapsed_bad (terms_of pool [] [] [] [] l e) ≡ elapsed_bad x
  elapsed_part {l} {e} p q =
      let r : l ≡ accruals = p ∙ ap (λ y. y.accruals) (sym x_is) in
      let t : e ≡ elapsed = q ∙ ap (λ y. y.elapsed) (sym x_is) in
      (λ i. elapsed_bad (terms_of pool [] [] [] [] (r i) (t i))) ∙ elapsed_whole ∙ ap elapsed_bad x_is
