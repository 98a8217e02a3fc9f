-- Gains and losses add to the total, and so do the figures of their sizes.
use Rattle.std.proofs.Common.{ℕ, ◌≡◌, refl, sym, ap, ◌∙◌, subst, true, false, List, [], ◌∷◌, ℤ, pos, negsuc, ◌+ℤ◌, ◌*ℤ◌}
use lib.IntN.{+ℤ_assoc, +ℤ_comm, +ℤ_idl, +ℤ_idr}
use Rattle.hedges.specs.Hedges.{with_sign}
use Rattle.amounts.specs.declared.Figure.{Figure}
use Rattle.amounts.specs.Amounts.{Shows}
use Rattle.totals.specs.Totals.{gain_of, loss_of, total_of, total, gains, losses}
use Rattle.totals.specs.Sums.{Figures}
use Rattle.totals.proofs.Partway.{no_size}

pub gain_and_loss : (z : ℤ) → gain_of z +ℤ loss_of z ≡ z
gain_and_loss (pos k) = +ℤ_idr (pos k)
gain_and_loss (negsuc k) = +ℤ_idl (negsuc k)

pub swap : (a b c d : ℤ) → (a +ℤ b) +ℤ (c +ℤ d) ≡ (a +ℤ c) +ℤ (b +ℤ d)
swap a b c d =
    +ℤ_assoc a b (c +ℤ d)
    ∙ ap (λ (z : ℤ). a +ℤ z) (sym (+ℤ_assoc b c d) ∙ ap (λ (z : ℤ). z +ℤ d) (+ℤ_comm b c) ∙ +ℤ_assoc c b d)
    ∙ sym (+ℤ_assoc a c (b +ℤ d))

pub gains_and_losses : (ns ws : List ℤ) → gains ns ws +ℤ losses ns ws ≡ total ns ws
unfolding total_of
gains_and_losses [] ws = refl
gains_and_losses (n ∷ ns) [] = refl
gains_and_losses (n ∷ ns) (w ∷ ws) =
    swap (gain_of (n *ℤ w)) (gains ns ws) (loss_of (n *ℤ w)) (losses ns ws)
    ∙ ap (λ (z : ℤ). z +ℤ (gains ns ws +ℤ losses ns ws)) (gain_and_loss (n *ℤ w))
    ∙ ap (λ (z : ℤ). n *ℤ w +ℤ z) (gains_and_losses ns ws)

-- The three figures by the sizes of gains and losses.
module _ (ns ws : List ℤ) (g l : ℕ) (gains_are : with_sign false g ≡ gains ns ws) (losses_are : with_sign true l ≡ losses ns ws) where
  shown : {y z : ℤ} {f : Figure} → y ≡ z → Shows y f → Shows z f
  shown {f = f} e h = subst (λ (x : ℤ). Shows x f) e h

  pub figures : (t u v : Figure) → Shows (with_sign false g +ℤ with_sign true l) t → Shows (with_sign false g +ℤ with_sign true 0) u →
      Shows (with_sign false 0 +ℤ with_sign true l) v → Figures ns ws (record { total = t; gains = u; losses = v })
  figures t u v x y z =
      let none : (z : ℤ) → z +ℤ with_sign true 0 ≡ z = λ z. ap (λ (o : ℤ). z +ℤ o) (sym (no_size true)) ∙ +ℤ_idr z in
      let nothing : (z : ℤ) → with_sign false 0 +ℤ z ≡ z = λ z. ap (λ (o : ℤ). o +ℤ z) (sym (no_size false)) ∙ +ℤ_idl z in
      record {
        total_is =
            shown
            (ap (λ (z : ℤ). z +ℤ with_sign true l) gains_are ∙ ap (λ (z : ℤ). gains ns ws +ℤ z) losses_are ∙ gains_and_losses ns ws) x;
        gains_is = shown (none (with_sign false g) ∙ gains_are) y;
        losses_is = shown (nothing (with_sign true l) ∙ losses_are) z;
      }
