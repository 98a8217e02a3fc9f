-- Laws of losses, widths and what is outstanding, on a sheet.
use Rattle.std.proofs.Common.{ℕ, suc, ◌+◌, ◌-◌, ◌≤◌, ◌<◌, ◌≡◌, refl, ap, ap₂, sym, ◌∙◌, List, le_of_lt, add-one, arith, length, get_or, lt-ltb}
use Rattle.std.proofs.Common.{le-ltb}
use native.Mathlib.Decide.{dec_lt}
use Rattle.cash.specs.Units.{B}
use Rattle.cash.specs.Losses.{pool_loss, pool_recovery, tranche_loss, left_to_lose, tranche_outstanding, index_outstanding, default_payment}
use Rattle.cash.proofs.Losses.{pool_loss_most, tranche_loss_whole}
use Rattle.sheet.specs.Terms.{Terms, terms_of, bare}
use Rattle.sheet.specs.Limits.{TranchesWithin}
use Rattle.sheet.proofs.Limits.{attachment_most}
use Rattle.tree.specs.Sheet.{pool_loss_of, pool_recovery_of, loss_of, width_of, outstanding_of, default_most}
use Rattle.tree.proofs.Sheets.{outstanding_within}
use Rattle.rows.specs.Rows.{row_length, node_in, row_of}
use Rattle.rows.specs.Kernels.{pool_losses, lower_of, upper_of, payment_of}
use Rattle.sheet.specs.declared.Pool.{Pool}
use Rattle.rows.proofs.Tables.{length_tab, get_d_tab, every, node_row}

-- ---- a tranche, and the index

pub loss_tranche : (x : Terms) (j k : ℕ) → j < x.tranches → loss_of x j k ≡ tranche_loss (get_or x.attachments j 0) (get_or x.attachments (suc j) 0) (pool_loss x.names x.recovery k)
unfolding loss_of pool_loss_of
loss_tranche x j k h = rw (lt-ltb j x.tranches h)

pub loss_index : (x : Terms) (j k : ℕ) → x.tranches ≤ j → loss_of x j k ≡ pool_loss x.names x.recovery k
unfolding loss_of pool_loss_of
loss_index x j k h = rw (le-ltb j x.tranches h)

pub width_tranche : (x : Terms) (j : ℕ) → j < x.tranches → width_of x j ≡ get_or x.attachments (suc j) 0 - get_or x.attachments j 0
unfolding width_of
width_tranche x j h = rw (lt-ltb j x.tranches h)

pub width_index : (x : Terms) (j : ℕ) → x.tranches ≤ j → width_of x j ≡ B - x.recovery
unfolding width_of
width_index x j h = rw (le-ltb j x.tranches h)

pub outstanding_tranche : (x : Terms) (j k : ℕ) → j < x.tranches →
    outstanding_of x j k ≡ tranche_outstanding (get_or x.attachments j 0) (get_or x.attachments (suc j) 0) (pool_loss x.names x.recovery k) (pool_recovery x.names x.recovery k)
unfolding outstanding_of pool_loss_of pool_recovery_of
outstanding_tranche x j k h = rw (lt-ltb j x.tranches h)

pub outstanding_index : (x : Terms) (j k : ℕ) → x.tranches ≤ j →
    outstanding_of x j k ≡ index_outstanding (pool_loss x.names x.recovery k) (pool_recovery x.names x.recovery k)
unfolding outstanding_of pool_loss_of pool_recovery_of
outstanding_index x j k h = rw (le-ltb j x.tranches h)

-- ---- as the code has them, with the upper attachment at j + 1

pub loss_is : (x : Terms) (j k loss r : ℕ) → j < x.tranches → loss ≡ pool_loss x.names x.recovery k → r ≡ tranche_loss (get_or x.attachments j 0) (get_or x.attachments (j + 1) 0) loss → r ≡ loss_of x j k
loss_is x j k loss r h e q =
    q
    ∙ (λ t. tranche_loss (get_or x.attachments j 0) (get_or x.attachments (add-one j t) 0) (e t))
    ∙ sym (loss_tranche x j k h)

pub outstanding_is : (x : Terms) (j k loss recovered r : ℕ) → j < x.tranches → loss ≡ pool_loss x.names x.recovery k → recovered ≡ pool_recovery x.names x.recovery k
    → r ≡ tranche_outstanding (get_or x.attachments j 0) (get_or x.attachments (j + 1) 0) loss recovered → r ≡ outstanding_of x j k
outstanding_is x j k loss recovered r h e g q =
    q
    ∙ (λ t. tranche_outstanding (get_or x.attachments j 0) (get_or x.attachments (add-one j t) 0) (e t) (g t))
    ∙ sym (outstanding_tranche x j k h)

pub rises_here : (x : Terms) (j : ℕ) → TranchesWithin x → j < x.tranches → get_or x.attachments j 0 ≤ get_or x.attachments (j + 1) 0
rises_here x j t h = rw (add-one j) (le_of_lt (t.attachments.rise j h))

-- ---- bounds

pub width_most : (x : Terms) → TranchesWithin x → (j : ℕ) → width_of x j ≤ B
width_most x t j = go (dec_lt j x.tranches)
  where
    go : Dec (j < x.tranches) → width_of x j ≤ B
    go (yes h) = omega (arith, width_tranche x j h, attachment_most x t (suc j))
    go (no h) = omega (arith, width_index x j (omega arith))

pub outstandings_low : (x : Terms) → TranchesWithin x → (out : List ℕ) → out ≡ row_of x (outstanding_of x) → (n : ℕ) → n < row_length x → get_or out n 0 ≤ B
unfolding node_in
outstandings_low x t out o n h =
    every (λ y. y ≤ B) (suc x.tranches) (suc x.names) out (omega arith)
    (λ j k p q. rw (o, node_row x (outstanding_of x) j k (omega arith) (omega arith)) (outstanding_within x t j k)) n h

-- ---- the table of losses

pub losses_long : (names recovery : ℕ) → length (pool_losses names recovery) ≡ suc names
unfolding pool_losses
losses_long names recovery = length_tab _ _

pub losses_at : (names recovery k : ℕ) → k ≤ names → get_or (pool_losses names recovery) k 0 ≡ pool_loss names recovery k
unfolding pool_losses
losses_at names recovery k h = get_d_tab (suc names) (pool_loss names recovery) k (omega arith)

-- ---- the points of a tranche, and of the index

pub lower_tranche : (x : Terms) (j : ℕ) → j < x.tranches → lower_of x j ≡ get_or x.attachments j 0
unfolding lower_of
lower_tranche x j h = rw (lt-ltb j x.tranches h)

pub lower_index : (x : Terms) (j : ℕ) → x.tranches ≤ j → lower_of x j ≡ 0
unfolding lower_of
lower_index x j h = rw (le-ltb j x.tranches h)

pub upper_tranche : (x : Terms) (j : ℕ) → j < x.tranches → upper_of x j ≡ get_or x.attachments (suc j) 0
unfolding upper_of
upper_tranche x j h = rw (lt-ltb j x.tranches h)

pub upper_index : (x : Terms) (j : ℕ) → x.tranches ≤ j → upper_of x j ≡ B - x.recovery
unfolding upper_of
upper_index x j h = rw (le-ltb j x.tranches h)

pub points_rise : (x : Terms) → TranchesWithin x → (j : ℕ) → lower_of x j ≤ upper_of x j
points_rise x t j = go (dec_lt j x.tranches)
  where
    go : Dec (j < x.tranches) → lower_of x j ≤ upper_of x j
    go (yes h) = rw (lower_tranche x j h, upper_tranche x j h) (le_of_lt (t.attachments.rise j h))
    go (no h) = omega (arith, lower_index x j (omega arith))

pub width_between : (x : Terms) (j : ℕ) → width_of x j ≡ upper_of x j - lower_of x j
width_between x j = go (dec_lt j x.tranches)
  where
    go : Dec (j < x.tranches) → width_of x j ≡ upper_of x j - lower_of x j
    go (yes h) = rw (lower_tranche x j h, upper_tranche x j h) (width_tranche x j h)
    go (no h) = omega (arith, lower_index x j (omega arith), upper_index x j (omega arith), width_index x j (omega arith))

pub loss_between : (x : Terms) (j k : ℕ) → k ≤ x.names → tranche_loss (lower_of x j) (upper_of x j) (pool_loss x.names x.recovery k) ≡ loss_of x j k
loss_between x j k q = go (dec_lt j x.tranches)
  where
    go : Dec (j < x.tranches) → tranche_loss (lower_of x j) (upper_of x j) (pool_loss x.names x.recovery k) ≡ loss_of x j k
    go (yes h) = rw (lower_tranche x j h, upper_tranche x j h) (sym (loss_tranche x j k h))
    go (no h) =
        let low : lower_of x j ≡ 0 = lower_index x j (omega arith) in
        let high : upper_of x j ≡ B - x.recovery = upper_index x j (omega arith) in
        rw (low, high) (tranche_loss_whole (B - x.recovery) (pool_loss x.names x.recovery k) (pool_loss_most x.names x.recovery k q) ∙ sym (loss_index x j k (omega arith)))

-- as the code has it, from the table
pub loss_read : (x : Terms) (j k lower upper r : ℕ) (losses : List ℕ) → k ≤ x.names → lower ≡ lower_of x j → upper ≡ upper_of x j → losses ≡ pool_losses x.names x.recovery
    → r ≡ tranche_loss lower upper (get_or losses k 0) → r ≡ loss_of x j k
loss_read x j k lower upper r losses q a b e h =
    h
    ∙ (λ t. tranche_loss (a t) (b t) (get_or (e t) k 0))
    ∙ ap (tranche_loss (lower_of x j) (upper_of x j)) (losses_at x.names x.recovery k q)
    ∙ loss_between x j k q

pub ceiling_between : (x : Terms) (j k : ℕ) → k ≤ x.names → left_to_lose (lower_of x j) (upper_of x j) (pool_loss x.names x.recovery k) ≡ default_most x j k
unfolding left_to_lose default_most
ceiling_between x j k q = ap₂ (λ a b. a - b) (sym (width_between x j)) (loss_between x j k q)

pub ceiling_read : (x : Terms) (j k lower upper r : ℕ) (losses : List ℕ) → k ≤ x.names → lower ≡ lower_of x j → upper ≡ upper_of x j → losses ≡ pool_losses x.names x.recovery
    → r ≡ left_to_lose lower upper (get_or losses k 0) → r ≡ default_most x j k
ceiling_read x j k lower upper r losses q a b e h =
    h
    ∙ (λ t. left_to_lose (a t) (b t) (get_or (e t) k 0))
    ∙ ap (left_to_lose (lower_of x j) (upper_of x j)) (losses_at x.names x.recovery k q)
    ∙ ceiling_between x j k q

-- ---- what a default pays

pub payment_before : (x : Terms) (j k : ℕ) → k < x.names → payment_of x j k ≡ default_payment (loss_of x j k) (loss_of x j (suc k))
unfolding payment_of
payment_before x j k h = rw (lt-ltb k x.names h)

pub payment_last : (x : Terms) (j k : ℕ) → x.names ≤ k → payment_of x j k ≡ 0
unfolding payment_of
payment_last x j k h = rw (le-ltb k x.names h)

-- ---- no list but the attachments counts

module _ (pool : Pool) (attachments starts hazards discounts accruals elapsed : List ℕ) where
  pub loss_bare : loss_of (bare pool attachments) ≡ loss_of (terms_of pool attachments starts hazards discounts accruals elapsed)
  unfolding loss_of pool_loss_of
  loss_bare = refl

  pub outstanding_bare : outstanding_of (bare pool attachments) ≡ outstanding_of (terms_of pool attachments starts hazards discounts accruals elapsed)
  unfolding outstanding_of pool_loss_of pool_recovery_of
  outstanding_bare = refl

  pub payment_bare : payment_of (bare pool attachments) ≡ payment_of (terms_of pool attachments starts hazards discounts accruals elapsed)
  unfolding payment_of loss_of pool_loss_of
  payment_bare = refl

  pub ceiling_bare : default_most (bare pool attachments) ≡ default_most (terms_of pool attachments starts hazards discounts accruals elapsed)
  unfolding default_most loss_of pool_loss_of width_of
  ceiling_bare = refl
