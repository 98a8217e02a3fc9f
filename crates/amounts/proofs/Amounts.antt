-- Laws of amounts and figures.
use Rattle.std.proofs.Common.{ℕ, zero, suc, ◌+◌, ◌<◌, ◌≤◌, ◌≡◌, refl, sym, ap, ◌∙◌, Bool, true, false, true≢false, ◌∷◌, ◌++◌, arith, ℤ, pos, neg_ℤ}
use Rattle.std.proofs.Common.{◌+ℤ◌, ◌≢◌, ⊎_elim, lt-ltb, le-ltb, ltb}
use Rattle.std.proofs.Common.{◌⊎◌, inl, inr, Ordering, Less, Equal, Greater}
use Rattle.std.specs.Ordering.{nat_cmp, ordering_then}
use Rattle.std.specs.Cmp.{nat_cmp_is}
use Rattle.std.proofs.lemmas.Bool.{cases_lt, cases_order}
use lib.IntN.{pos-+ℤ-pos, neg_ℤ-+ℤ, +ℤ_comm, +ℤ-neg_ℤ_cancel, neg_ℤ-neg_ℤ}
use Rattle.hedges.specs.Hedges.{with_sign}
use Rattle.lines.specs.Text.{decimal, signed}
use Rattle.amounts.specs.declared.Amount.{Amount}
use Rattle.amounts.specs.declared.Figure.{Figure}
use Rattle.amounts.specs.Amounts.{size_of, Carried, figure_of, Proper, Shows, padded}
use Rattle.amounts.proofs.Digits.{joined}

-- ---- which one is less

module _ (a b : Amount) where
  pub less_units : a.billions ≡ b.billions → ltb a.units b.units ≡ ltb (size_of a) (size_of b)
  less_units e =
      ⊎_elim (λ (h : a.units < b.units). lt-ltb a.units b.units h ∙ sym (lt-ltb (size_of a) (size_of b) (omega (arith, e, h))))
      (λ (h : b.units ≤ a.units). le-ltb a.units b.units h ∙ sym (le-ltb (size_of a) (size_of b) (omega (arith, e, h))))
      (cases_lt a.units b.units)

  pub less_billions : a.billions ≢ b.billions → Carried a → Carried b → ltb a.billions b.billions ≡ ltb (size_of a) (size_of b)
  less_billions d ca cb =
      ⊎_elim
      (λ (h : a.billions < b.billions).
      lt-ltb a.billions b.billions h ∙ sym (lt-ltb (size_of a) (size_of b) (omega (arith, ca, cb, h))))
      (λ (h : b.billions ≤ a.billions).
      le-ltb a.billions b.billions h ∙ sym (le-ltb (size_of a) (size_of b) (omega (arith, ca, cb, h, d))))
      (cases_lt a.billions b.billions)

  -- the derived order is that of numbers
  pub order_is : Carried a → Carried b → ordering_then (nat_cmp a.billions b.billions) (nat_cmp a.units b.units) ≡ nat_cmp (size_of a) (size_of b)
  order_is ca cb = go (cases_order a.billions b.billions) (cases_order a.units b.units)
    where
      by : {o p : Ordering} → o ≡ nat_cmp a.billions b.billions → p ≡ nat_cmp a.units b.units → ordering_then o p ≡ nat_cmp (size_of a) (size_of b) →
          ordering_then (nat_cmp a.billions b.billions) (nat_cmp a.units b.units) ≡ nat_cmp (size_of a) (size_of b)
      by e f h = sym (λ i. ordering_then (e i) (f i)) ∙ h

      go : (a.billions ≡ b.billions) ⊎ ((a.billions < b.billions) ⊎ (b.billions < a.billions)) → (a.units ≡ b.units) ⊎ ((a.units < b.units) ⊎ (b.units < a.units)) →
          ordering_then (nat_cmp a.billions b.billions) (nat_cmp a.units b.units) ≡ nat_cmp (size_of a) (size_of b)
      go (inr (inl h)) k = by (nat_cmp_is a.billions b.billions Less h) refl (nat_cmp_is (size_of a) (size_of b) Less (omega (arith, ca, cb, h)))
      go (inr (inr h)) k = by (nat_cmp_is a.billions b.billions Greater h) refl (nat_cmp_is (size_of a) (size_of b) Greater (omega (arith, ca, cb, h)))
      go (inl e) (inl f) = by (nat_cmp_is a.billions b.billions Equal e) (nat_cmp_is a.units b.units Equal f) (nat_cmp_is (size_of a) (size_of b) Equal (omega (arith, e, f)))
      go (inl e) (inr (inl h)) = by (nat_cmp_is a.billions b.billions Equal e) (nat_cmp_is a.units b.units Less h) (nat_cmp_is (size_of a) (size_of b) Less (omega (arith, e, h)))
      go (inl e) (inr (inr h)) = by (nat_cmp_is a.billions b.billions Equal e) (nat_cmp_is a.units b.units Greater h) (nat_cmp_is (size_of a) (size_of b) Greater (omega (arith, e, h)))

-- ---- one less the other

above_is : (a g l : ℕ) → a + l ≡ g → pos a ≡ pos g +ℤ neg_ℤ (pos l)
above_is a g l e =
    sym (ap (λ (k : ℕ). pos k +ℤ neg_ℤ (pos l)) (sym e) ∙ ap (λ (z : ℤ). z +ℤ neg_ℤ (pos l)) (sym (pos-+ℤ-pos a l)) ∙ +ℤ-neg_ℤ_cancel (pos a) (pos l))

below_is : (a g l : ℕ) → a + g ≡ l → neg_ℤ (pos a) ≡ pos g +ℤ neg_ℤ (pos l)
below_is a g l e =
    ap neg_ℤ (above_is a l g e) ∙ neg_ℤ-+ℤ (pos l) (neg_ℤ (pos g)) ∙ ap (λ (z : ℤ). neg_ℤ (pos l) +ℤ z) (neg_ℤ-neg_ℤ (pos g))
    ∙ +ℤ_comm (neg_ℤ (pos l)) (pos g)

module _ (a b r : Amount) where
  pub net_above : (size_of r + size_of b ≡ size_of a) × Carried r →
      Shows (with_sign false (size_of a) +ℤ with_sign true (size_of b)) (record { below = false; size = r })
  unfolding with_sign
  net_above (e, h) =
      record {
        number = above_is (size_of r) (size_of a) (size_of b) e;
        proper = record { carried = h; some = λ t. absurd (true≢false (sym t)) };
      }

  pub net_below : (size_of r + size_of a ≡ size_of b) × Carried r → size_of a < size_of b →
      Shows (with_sign false (size_of a) +ℤ with_sign true (size_of b)) (record { below = true; size = r })
  unfolding with_sign
  net_below (e, h) less =
      record {
        number = below_is (size_of r) (size_of a) (size_of b) e;
        proper = record { carried = h; some = λ t. omega (arith, e, less) };
      }

-- ---- how a figure is written

pub amount_small : (a : Amount) → a.billions < 1 → decimal a.units ≡ decimal (size_of a)
amount_small a h = ap decimal (omega arith)

pub amount_large : (a : Amount) → 1 ≤ a.billions → Carried a → decimal a.billions ++ padded 9 a.units ≡ decimal (size_of a)
amount_large a h small = sym (joined 9 a.billions a.units h small)

signed_below : (n : ℕ) → 1 ≤ n → signed (with_sign true n) ≡ 45 ∷ decimal n
unfolding signed with_sign
signed_below zero h = absurd (omega arith)
signed_below (suc n) h = refl

signed_above : (n : ℕ) → signed (with_sign false n) ≡ decimal n
unfolding signed with_sign
signed_above n = refl

module _ (f : Figure) (p : Proper f) where
  pub minus : f.below ≡ true → signed (figure_of f) ≡ 45 ∷ decimal (size_of f.size)
  minus e = ap (λ (t : Bool). signed (with_sign t (size_of f.size))) e ∙ signed_below (size_of f.size) (p.some e)

  pub plus : f.below ≡ false → signed (figure_of f) ≡ decimal (size_of f.size)
  plus e = ap (λ (t : Bool). signed (with_sign t (size_of f.size))) e ∙ signed_above (size_of f.size)
