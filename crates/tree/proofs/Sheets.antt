-- Facts of a sheet within limits: its tree, its losses, its legs, and the ceilings that its rows keep to.
use Rattle.std.proofs.Common.{ℕ, zero, suc, ◌+◌, ◌-◌, ◌*◌, ◌≤◌, ◌<◌, zero-le, le_refl, add-zero, suc-add, add-suc, ◌≡◌, refl, sym, ◌∙◌, ap, ap₂, Bool}
use Rattle.std.proofs.Common.{true, false, cond, List, [], ◌∷◌, arith, length, get_or, drop, drop_of_length-le, ltb, lt-ltb, le-ltb}
use Rattle.cash.specs.Units.{B}
use Rattle.cash.specs.Sums.{sum_to}
use Rattle.cash.specs.Losses.{tranche_loss, tranche_outstanding, index_outstanding}
use Rattle.cash.proofs.Sums.{sum_cong}
use Rattle.cash.proofs.Losses.{pool_loss_rises, pool_loss_most, tranche_loss_rises, tranche_loss_most, losses_add}
use Rattle.cash.proofs.Recoveries.{pool_recovery_rises, outstanding_falls, outstanding_most, outstandings_add, outstanding_whole, index_outstanding_falls, index_outstanding_most}
use Rattle.tree.specs.Paths.{Fair}
use Rattle.tree.specs.Backward.{back_from, over, Agrees, leg_halves}
use Rattle.sheet.specs.Terms.{Terms, sum_of}
use Rattle.tree.specs.Legs.{mark}
use Rattle.tree.specs.Sheet.{hazard_of, discount_of, accrual_of, elapsed_of, pool_loss_of, pool_recovery_of, loss_of, width_of, outstanding_of, tree_of, default_of, premium_of, dates, elapsed_count, premium_halves, default_most, premium_most, WholePool, spanning}
use Rattle.sheet.specs.Limits.{TranchesWithin, TermsWithin}
use Rattle.sheet.proofs.Limits.{attachment_most, hazard_most, discount_most}
use Rattle.tree.proofs.Additions.{Spans}
use Rattle.tree.proofs.Legs.{default_agrees, premium_agrees, default_halves, defaults_span, premiums_span}
use Rattle.tree.proofs.Ceilings.{Earned, default_ceiling, premium_ceiling}
use Rattle.tree.proofs.Rolling.{over_add}
use Rattle.sheet.proofs.Dates.{next_sum}

-- ---- choices

choose_le : (b : Bool) {x y u v : ℕ} → x ≤ u → y ≤ v → cond b x y ≤ cond b u v
choose_le true f g = f
choose_le false f g = g

choose_most : (b : Bool) {x y m : ℕ} → x ≤ m → y ≤ m → cond b x y ≤ m
choose_most true f g = f
choose_most false f g = g

-- ---- the tree

hazard_last : (x : Terms) (s : ℕ) → hazard_of x s x.names ≡ 0
unfolding hazard_of
hazard_last x s = rw (le-ltb x.names x.names (le_refl _))

pub hazard_sure : (x : Terms) → ((i : ℕ) → get_or x.hazards i 0 ≤ B) → (s k : ℕ) → hazard_of x s k ≤ B
unfolding hazard_of
hazard_sure x most s k = choose_most (ltb k x.names) (most _) zero-le

pub fair_of : (x : Terms) → TermsWithin x → Fair (tree_of x)
unfolding tree_of discount_of
fair_of x w = record { last = hazard_last x; sure = hazard_sure x (hazard_most x w); shrinks = λ s. discount_most x w _ }

-- ---- losses and outstanding nominal, of a tranche or the index

pool_rises : (x : Terms) → TranchesWithin x → (k : ℕ) → pool_loss_of x k ≤ pool_loss_of x (suc k)
unfolding pool_loss_of
pool_rises x w k = pool_loss_rises x.names x.recovery k w.pool.names.0

pool_most : (x : Terms) (k : ℕ) → k ≤ x.names → pool_loss_of x k ≤ B - x.recovery
unfolding pool_loss_of
pool_most x k l = pool_loss_most x.names x.recovery k l

recovery_rises : (x : Terms) → TranchesWithin x → (k : ℕ) → pool_recovery_of x k ≤ pool_recovery_of x (suc k)
unfolding pool_recovery_of
recovery_rises x w k = pool_recovery_rises x.names x.recovery k w.pool.names.0

pub loss_rises : (x : Terms) → TranchesWithin x → (j k : ℕ) → loss_of x j k ≤ loss_of x j (suc k)
unfolding loss_of
loss_rises x w j k = choose_le (ltb j x.tranches) (tranche_loss_rises _ _ _ _ (pool_rises x w k)) (pool_rises x w k)

pub loss_most : (x : Terms) (j k : ℕ) → k ≤ x.names → loss_of x j k ≤ width_of x j
unfolding loss_of width_of
loss_most x j k l = choose_le (ltb j x.tranches) (tranche_loss_most _ _ _) (pool_most x k l)

pub outstanding_less : (x : Terms) → TranchesWithin x → (j k : ℕ) → outstanding_of x j (suc k) ≤ outstanding_of x j k
unfolding outstanding_of
outstanding_less x w j k =
    choose_le (ltb j x.tranches) (outstanding_falls _ _ _ _ _ _ (pool_rises x w k) (recovery_rises x w k))
    (index_outstanding_falls _ _ _ _ (pool_rises x w k) (recovery_rises x w k))

pub outstanding_within : (x : Terms) → TranchesWithin x → (j k : ℕ) → outstanding_of x j k ≤ B
unfolding outstanding_of
outstanding_within x w j k = choose_most (ltb j x.tranches) (outstanding_most _ _ _ _ (attachment_most x w (suc j))) (index_outstanding_most _ _)

-- ---- the tranches and the one that spans them

losses_span : (x : Terms) → TranchesWithin x → (k : ℕ) → sum_to x.tranches (λ j. loss_of x j k) ≡ loss_of (spanning x) 0 k
losses_span x w k =
    sum_cong x.tranches _ _ (λ j l. inside j l) ∙ losses_add x.tranches (λ j. get_or x.attachments j 0) w.attachments.rise (pool_loss_of x k) ∙ whole
  where
    inside : (j : ℕ) → j < x.tranches → loss_of x j k ≡ tranche_loss (get_or x.attachments j 0) (get_or x.attachments (suc j) 0) (pool_loss_of x k)
    inside j l = unfold loss_of in rw (lt-ltb j x.tranches l)

    whole : tranche_loss (get_or x.attachments 0 0) (get_or x.attachments x.tranches 0) (pool_loss_of x k) ≡ loss_of (spanning x) 0 k
    whole = unfold loss_of spanning pool_loss_of in refl

-- what is outstanding of all tranches is so between the first point and the last
outstandings_all : (x : Terms) → TranchesWithin x → (k : ℕ) →
    sum_to x.tranches (λ j. outstanding_of x j k) ≡ tranche_outstanding (get_or x.attachments 0 0) (get_or x.attachments x.tranches 0) (pool_loss_of x k) (pool_recovery_of x k)
outstandings_all x w k =
    sum_cong x.tranches _ _ (λ j l. inside j l)
    ∙ outstandings_add x.tranches (λ j. get_or x.attachments j 0) w.attachments.rise (attachment_most x w x.tranches) (pool_loss_of x k) (pool_recovery_of x k)
  where
    inside : (j : ℕ) → j < x.tranches → outstanding_of x j k ≡ tranche_outstanding (get_or x.attachments j 0) (get_or x.attachments (suc j) 0) (pool_loss_of x k) (pool_recovery_of x k)
    inside j l = unfold outstanding_of in rw (lt-ltb j x.tranches l)

outstandings_span : (x : Terms) → TranchesWithin x → (k : ℕ) → sum_to x.tranches (λ j. outstanding_of x j k) ≡ outstanding_of (spanning x) 0 k
outstandings_span x w k = outstandings_all x w k ∙ whole
  where
    whole : tranche_outstanding (get_or x.attachments 0 0) (get_or x.attachments x.tranches 0) (pool_loss_of x k) (pool_recovery_of x k) ≡ outstanding_of (spanning x) 0 k
    whole = unfold outstanding_of spanning pool_loss_of pool_recovery_of in refl

-- and of the whole pool as much as of the index
pub outstandings_index : (x : Terms) → TranchesWithin x → WholePool x → (k : ℕ) → sum_to x.tranches (λ j. outstanding_of x j k) ≡ outstanding_of x x.tranches k
outstandings_index x w p k =
    outstandings_all x w k
    ∙ ap₂ (λ lower upper. tranche_outstanding lower upper (pool_loss_of x k) (pool_recovery_of x k)) p.first p.last
    ∙ outstanding_whole (pool_loss_of x k) (pool_recovery_of x k)
    ∙ index
  where
    index : index_outstanding (pool_loss_of x k) (pool_recovery_of x k) ≡ outstanding_of x x.tranches k
    index = unfold outstanding_of in rw (le-ltb x.tranches x.tranches (le_refl _))

-- ---- the legs

pub default_agrees_of : (x : Terms) (j : ℕ) → Agrees (default_of x j)
unfolding default_of
default_agrees_of x j = default_agrees (loss_of x j)

pub premium_agrees_of : (x : Terms) (j : ℕ) → Agrees (premium_of x j)
unfolding premium_of
premium_agrees_of x j = premium_agrees (accrual_of x) (elapsed_of x) (outstanding_of x j)

pub default_halves_of : (x : Terms) (j h i : ℕ) → leg_halves (default_of x j) h i ≡ 2 * h
unfolding default_of
default_halves_of x j h i = default_halves (loss_of x j) h i

pub premium_halves_of : (x : Terms) (j h i : ℕ) → leg_halves (premium_of x j) h i ≡ premium_halves x h i
unfolding leg_halves premium_of premium_halves dates elapsed_count
premium_halves_of x j h i = omega (arith, over_add (λ s. mark (accrual_of x s)) (λ s. mark (elapsed_of x s)) h i)

pub defaults_spanned : (x : Terms) → TranchesWithin x → Spans x.tranches (default_of x) (default_of (spanning x) 0)
unfolding default_of
defaults_spanned x w = defaults_span x.tranches (loss_of x) (loss_of (spanning x) 0) (losses_span x w) (loss_rises x w)

pub premiums_spanned : (x : Terms) → TranchesWithin x → Spans x.tranches (premium_of x) (premium_of (spanning x) 0)
unfolding premium_of spanning accrual_of elapsed_of
premiums_spanned x w =
    premiums_span x.tranches (accrual_of x) (elapsed_of x) (outstanding_of x) (outstanding_of (spanning x) 0) (outstandings_span x w) (outstanding_less x w)

pub premiums_of_index : (x : Terms) → TranchesWithin x → WholePool x → Spans x.tranches (premium_of x) (premium_of x x.tranches)
unfolding premium_of
premiums_of_index x w p =
    premiums_span x.tranches (accrual_of x) (elapsed_of x) (outstanding_of x) (outstanding_of x x.tranches) (outstandings_index x w p) (outstanding_less x w)

-- ---- ceilings

-- the default leg of a row that stands h steps on
pub default_keeps : (x : Terms) → TermsWithin x → (j : ℕ) (q : ℕ → ℕ) → ((k : ℕ) → k ≤ x.names → q k ≤ default_most x j k) →
    (h i k : ℕ) → k ≤ x.names → back_from (tree_of x) (default_of x j).rounded q h i k ≤ default_most x j k
unfolding tree_of default_of default_most
default_keeps x w j q starts = default_ceiling (tree_of x) (fair_of x w) (loss_of x j) q (width_of x j) (loss_rises x w.tranches j) (loss_most x j) starts

sum_none : sum_of [] ≡ 0
unfolding sum_of
sum_none = refl

sum_drop : (l : List ℕ) (i : ℕ) → sum_of (drop i l) ≡ get_or l i 0 + sum_of (drop (suc i) l)
unfolding sum_of
sum_drop [] zero = refl
sum_drop [] (suc i) = refl
sum_drop (a ∷ l) zero = refl
sum_drop (a ∷ l) (suc i) = sum_drop l i

-- the accruals after step i: those of the next h steps, and those after
pub accruals_after_lem : (x : Terms) (h i : ℕ) → over (accrual_of x) h i + sum_of (drop (i + h) x.accruals) ≡ sum_of (drop i x.accruals)
unfolding over accrual_of
accruals_after_lem x zero i = rw add-zero (omega arith)
accruals_after_lem x (suc h) i =
    omega (arith, sum_drop x.accruals i, accruals_after_lem x h (suc i), ap (λ n. sum_of (drop n x.accruals)) (suc-add i h ∙ sym (add-suc i h)))

-- those of all steps that follow
accruals_to_the_end : (x : Terms) → TermsWithin x → (h i : ℕ) → i + h ≡ x.steps → over (accrual_of x) h i ≡ sum_of (drop i x.accruals)
accruals_to_the_end x w h i e =
    let past : length x.accruals ≤ i + h = omega (arith, w.curves.accruals) in
    let none : drop (i + h) x.accruals ≡ [] = drop_of_length-le x.accruals past in
    let zero : sum_of (drop (i + h) x.accruals) ≡ 0 = ap sum_of none ∙ sum_none in
    omega (arith, accruals_after_lem x h i)

-- a fraction is at most the next date's accrual, so at most all accruals from its step on
earned_of : (x : Terms) → TermsWithin x → Earned x.steps (accrual_of x) (elapsed_of x)
unfolding elapsed_of
earned_of x w h i q =
    omega (
      arith,
      w.elapsed i (omega arith),
      next_sum (drop i x.accruals),
      accruals_to_the_end x w (suc h) i q,
    )

-- the premium leg of a walk from the last step
pub premium_keeps : (x : Terms) → TermsWithin x → (j h i k : ℕ) → i + h ≡ x.steps → k ≤ x.names →
    back_from (tree_of x) (premium_of x j).rounded (λ k. 0) h i k ≤ premium_most x i k
unfolding tree_of premium_of premium_most
premium_keeps x w j h i k e l =
    omega (
      arith,
      accruals_to_the_end x w h i e,
      premium_ceiling (tree_of x) (fair_of x w) x.steps (accrual_of x) (elapsed_of x) (outstanding_of x j) (earned_of x w) (outstanding_less x w.tranches j)
          (outstanding_within x w.tranches j) h i k e l,
    )
