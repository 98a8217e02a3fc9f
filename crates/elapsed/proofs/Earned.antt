-- Laws of what a default pays of the premium earned up to it.
use Rattle.std.proofs.Common.{ℕ, suc, ◌+◌, ◌-◌, ◌*◌, ◌≤◌, ◌<◌, ◌≡◌, refl, ap, sym, ◌∙◌, Bool, true, false, cond, List, zero-mul, add-one, arith}
use Rattle.std.proofs.Common.{length, get_or, ltb, lt-ltb, le-ltb}
use native.Mathlib.Decide.{dec_lt}
use Rattle.std.specs.Fork.{slice_chunk}
use Rattle.cash.specs.Units.{B, half}
use Rattle.cash.specs.Losses.{elapsed_payment}
use Rattle.rows.specs.Tables.{tab, entry, grid}
use Rattle.rows.specs.Kernels.{earned_at, earned_in, Falling, FallingRows}
use Rattle.rows.proofs.Tables.{get_d_tab, length_tab, is_tab, is_grid}
use Rattle.rows.proofs.Parts.{room}
use Rattle.rows.proofs.Chunks.{chunk_long, chunk_entry}

-- ---- by count

pub earned_before : (names fraction : ℕ) (outs : List ℕ) (k : ℕ) → k < names →
    earned_at names fraction outs k ≡ elapsed_payment fraction (get_or outs k 0) (get_or outs (k + 1) 0)
unfolding earned_at
earned_before names fraction outs k h = rw (lt-ltb k names h) (ap (λ (n : ℕ). elapsed_payment fraction (get_or outs k 0) (get_or outs n 0)) (sym (add-one k)))

pub earned_last : (names fraction : ℕ) (outs : List ℕ) → earned_at names fraction outs names ≡ 0
unfolding earned_at
earned_last names fraction outs = rw (le-ltb names names (omega arith))

-- ---- by tranche and count

pub node_before : (names fraction : ℕ) (outs : List ℕ) (j k : ℕ) → k < names →
    earned_in names fraction outs j k ≡ elapsed_payment fraction (entry (suc names) outs j k) (entry (suc names) outs j (suc k))
unfolding earned_in
node_before names fraction outs j k h = rw (lt-ltb k names h) refl

-- a fraction of 0 pays nothing, so a table of zeros is that of 0
none_paid : (names : ℕ) (outs : List ℕ) (j k : ℕ) → earned_in names 0 outs j k ≡ 0
unfolding earned_in elapsed_payment half B
none_paid names outs j k = go (ltb k names)
  where
    none : (y : ℕ) → half (0 * y) ≡ 0
    none y = rw (zero-mul y) refl

    go : (b : Bool) → cond b (half (0 * (entry (suc names) outs j k - entry (suc names) outs j (suc k)))) 0 ≡ 0
    go true = none _
    go false = refl

pub none_earned : (r names : ℕ) (table outs : List ℕ) → length table ≡ r * suc names → ((i : ℕ) → get_or table i 0 ≡ 0) → table ≡ grid r (suc names) (earned_in names 0 outs)
unfolding entry
none_earned r names table outs long zeros = is_grid table r (suc names) _ (omega arith) long (λ j k h q. zeros (j * suc names + k) ∙ sym (none_paid names outs j k))

-- tranche j, of rows of w entries
module _ {r n : ℕ} {outs : List ℕ} (falling : FallingRows r n outs) (j w : ℕ) (inside : j < r) (w_is : w ≡ suc n) where
  here : (k : ℕ) → k < suc n → get_or (slice_chunk outs w j) k 0 ≡ entry (suc n) outs j k
  here k h = ap (λ (m : ℕ). get_or (slice_chunk outs m j) k 0) w_is ∙ chunk_entry outs (suc n) j k h

  pub outs_there : j * w + w ≤ length outs
  outs_there = rw w_is (omega (arith, room j r (suc n) inside, falling.long))

  pub tranche_falls : Falling n (slice_chunk outs w j)
  tranche_falls =
      record {
        long = ap (λ (m : ℕ). length (slice_chunk outs m j)) w_is ∙ chunk_long outs r (suc n) j falling.long inside;
        most = λ k h. rw (here k (omega arith)) (falling.most j k inside h);
        falls = λ k h. rw (here k (omega arith), here (suc k) (omega arith)) (falling.falls j k inside h);
      }

  earned_here : (fraction k : ℕ) → k < suc n → earned_at n fraction (slice_chunk outs w j) k ≡ earned_in n fraction outs j k
  unfolding earned_at earned_in
  earned_here fraction k h = go (dec_lt k n)
    where
      go : Dec (k < n) → earned_at n fraction (slice_chunk outs w j) k ≡ earned_in n fraction outs j k
      go (yes q) = rw (lt-ltb k n q) (λ t. elapsed_payment fraction (here k h t) (here (suc k) (omega arith) t))
      go (no q) = rw (le-ltb k n (omega arith)) refl

  pub tranche_earned : (fraction : ℕ) → tab (suc n) (earned_at n fraction (slice_chunk outs w j)) ≡ tab (suc n) (earned_in n fraction outs j)
  tranche_earned fraction = is_tab _ (suc n) _ (length_tab _ _) (λ k h. get_d_tab _ _ k h ∙ earned_here fraction k h)
