-- Sums over the positions part way, of gains and losses alike.
use Rattle.std.proofs.Common.{ℕ, suc, ◌+◌, ◌*◌, ◌<◌, ◌≤◌, ◌≡◌, refl, ap, ◌∙◌, Bool, true, false, List, [], ◌∷◌, arith, ℤ, pos, negsuc, nat_abs, ◌+ℤ◌}
use Rattle.std.proofs.Common.{◌*ℤ◌, length, get_or, drop, drop_of_length-le, drop-cons}
use Rattle.hedges.specs.Hedges.{with_sign}
use Rattle.hedges.proofs.Signs.{plus}
use Rattle.amounts.specs.declared.Amount.{Amount}
use Rattle.amounts.specs.Amounts.{size_of}
use Rattle.totals.specs.Totals.{gain_of, loss_of, total_of, gains, losses}
use Rattle.totals.specs.Sums.{Room, Grown}

-- A part of the products by its size.
unfoldable pub sizes_of : (ℤ → ℤ) → List ℤ → List ℤ → ℕ
sizes_of part [] ws = 0
sizes_of part (n ∷ ns) [] = 0
sizes_of part (n ∷ ns) (w ∷ ws) = nat_abs (part (n *ℤ w)) + sizes_of part ns ws

pub no_size : (s : Bool) → pos 0 ≡ with_sign s 0
unfolding with_sign
no_size true = refl
no_size false = refl

-- A part of one sign has its total by the sum of the sizes.
module _ (part : ℤ → ℤ) (s : Bool) (one : (z : ℤ) → part z ≡ with_sign s (nat_abs (part z))) where
  pub total_by_sizes : (ns ws : List ℤ) → total_of part ns ws ≡ with_sign s (sizes_of part ns ws)
  unfolding total_of sizes_of
  total_by_sizes [] ws = no_size s
  total_by_sizes (n ∷ ns) [] = no_size s
  total_by_sizes (n ∷ ns) (w ∷ ws) =
      ap (λ (z : ℤ). z +ℤ total_of part ns ws) (one (n *ℤ w))
      ∙ ap (λ (z : ℤ). with_sign s (nat_abs (part (n *ℤ w))) +ℤ z) (total_by_sizes ns ws)
      ∙ plus s (nat_abs (part (n *ℤ w))) (sizes_of part ns ws)

gain_sign : (z : ℤ) → gain_of z ≡ with_sign false (nat_abs (gain_of z))
unfolding with_sign
gain_sign (pos k) = refl
gain_sign (negsuc k) = refl

loss_sign : (z : ℤ) → loss_of z ≡ with_sign true (nat_abs (loss_of z))
unfolding with_sign
loss_sign (pos k) = refl
loss_sign (negsuc k) = refl

pub gains_by_sizes : (ns ws : List ℤ) → gains ns ws ≡ with_sign false (sizes_of gain_of ns ws)
gains_by_sizes = total_by_sizes gain_of false gain_sign

pub losses_by_sizes : (ns ws : List ℤ) → losses ns ws ≡ with_sign true (sizes_of loss_of ns ws)
losses_by_sizes = total_by_sizes loss_of true loss_sign

-- ---- part way

module _ (part : ℤ → ℤ) (ns ws : List ℤ) where
  pub record Partway (a : Amount) (i : ℕ) : Type 0 where
    pub so_far : size_of a + sizes_of part (drop i ns) (drop i ws) ≡ sizes_of part ns ws
    pub billions_least : a.billions ≤ i * 200_000_000_000_000
    pub units_least : a.units ≤ i * 1_000_000_000_000_000

  pub none_yet : Partway (record { billions = 0; units = 0 }) 0
  none_yet = record { so_far = omega arith; billions_least = omega arith; units_least = omega arith }

  module _ (a : Amount) (i : ℕ) (p : Partway a i) where
    pub has_room : i ≤ 4_096 → Room a
    has_room h =
        record {
          billions_fit = omega (arith, p.billions_least, h);
          units_fit = omega (arith, p.units_least, h);
        }

    next : i < length ns → i < length ws → sizes_of part (drop i ns) (drop i ws)
        ≡ nat_abs (part (get_or ns i (pos 0) *ℤ get_or ws i (pos 0))) + sizes_of part (drop (suc i) ns) (drop (suc i) ws)
    unfolding sizes_of
    next h k =
        ap (λ (l : List ℤ). sizes_of part l (drop i ws)) (drop-cons ns i (pos 0) h)
        ∙ ap (sizes_of part (get_or ns i (pos 0) ∷ drop (suc i) ns)) (drop-cons ws i (pos 0) k)

    pub one_more : i < length ns → i < length ws → (b : Amount) → Grown a (nat_abs (part (get_or ns i (pos 0) *ℤ get_or ws i (pos 0)))) b →
        Partway b (suc i)
    one_more h k b g =
        record {
          so_far = omega (arith, g.size, next h k, p.so_far);
          billions_least = omega (arith, g.billions_grow, p.billions_least);
          units_least = omega (arith, g.units_grow, p.units_least);
        }

    pub whole : length ns ≤ i → size_of a ≡ sizes_of part ns ws
    unfolding sizes_of
    whole h =
        let rest : sizes_of part (drop i ns) (drop i ws) ≡ 0 = ap (λ (l : List ℤ). sizes_of part l (drop i ws)) (drop_of_length-le ns h) in
        omega (arith, p.so_far, rest)
