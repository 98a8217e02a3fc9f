-- On the rows of a walk no default leg makes a jump negative, and with all fractions 0 no jump and no hedge ratio is.
use Rattle.std.proofs.Common.{ℕ, zero, suc, ◌+◌, ◌-◌, ◌*◌, ◌≤◌, ◌<◌, ◌≡◌, refl, ◌∙◌, ap, subst, Bool, true, false, cond, true≢false, [], ◌∷◌, le_refl}
use Rattle.std.proofs.Common.{mul-zero, arith, get_or, ltb, ℤ, pos, negsuc, neg_ℤ, nat_abs, ◌+ℤ◌, ◌*ℤ◌, le-ltb, ltb-true}
use lib.IntN.{sub_ℕ, neg_ℤ-neg_ℤ}
use Rattle.hedges.specs.declared.Node.{Node}
use Rattle.hedges.specs.Hedges.{negative, with_sign, millionths, change_of, jump_of, ratio_of}
use Rattle.cash.specs.Losses.{default_payment}
use Rattle.sheet.specs.Limits.{TermsWithin}
use Rattle.sheet.proofs.Limits.{limits_terms}
use Rattle.tree.specs.Sheet.{NoneElapsed, loss_of}
use Rattle.rows.specs.Rows.{node_in}
use Rattle.tree.proofs.Sheets.{loss_rises}
use Rattle.tree.proofs.Statements.{jumps}
use Rattle.sheet.specs.Brought.{Brought}
use Rattle.walk.specs.Answers.{accepted}
use Rattle.figures.specs.Nodes.{node_of, jump}
use Rattle.walk.specs.CallRules.{says}
use Rattle.walk.specs.Engine.{Engine}
use Rattle.walk.specs.CallLists.{Run, end}
use Rattle.walk.specs.Accuracy.{Walked}
use Rattle.walk.specs.Promise.{Rules}
use Rattle.walk.specs.Risk.{hedging, default_gain, Gains, NeverNegative}
use Rattle.walk.proofs.Acceptance.{ratio_taken}
use Rattle.walk.proofs.Accuracy.{placed, same_sheet}

-- ---- numbers of either sign

natural : (z : ℤ) → negative z ≡ false → (n : ℕ) × (z ≡ pos n)
natural (pos n) e = (n, refl)
natural (negsuc n) e = absurd (true≢false e)

plus : (a b : ℤ) → negative a ≡ false → negative b ≡ false → negative (a +ℤ b) ≡ false
plus (pos a) (pos b) e f = refl
plus (pos a) (negsuc b) e f = absurd (true≢false f)
plus (negsuc a) b e f = absurd (true≢false e)

times : (c : ℕ) (a : ℤ) → negative a ≡ false → negative (pos c *ℤ a) ≡ false
times c (pos a) e = refl
times c (negsuc a) e = absurd (true≢false e)

-- what is not above 0, times c
times_down : (c : ℕ) (a : ℤ) → negative (neg_ℤ a) ≡ false → negative (neg_ℤ (pos c *ℤ a)) ≡ false
times_down c (pos zero) e = rw (mul-zero c)
times_down c (pos (suc a)) e = absurd (true≢false e)
times_down c (negsuc a) e = rw (neg_ℤ-neg_ℤ (pos (c * suc a)))

-- a difference of naturals, and one added to n
sub_up : (a b : ℕ) → b ≤ a → negative (sub_ℕ a b) ≡ false
sub_up a b l = rw (le-ltb a b l)

sub_plus : (n a b : ℕ) → b ≤ n + a → negative (pos n +ℤ sub_ℕ a b) ≡ false
sub_plus n a b l = go (ltb a b) refl
  where
    go : (t : Bool) → ltb a b ≡ t → negative (pos n +ℤ cond t (negsuc (b - suc a)) (pos (a - b))) ≡ false
    go true e = sub_up n (suc (b - suc a)) (omega (arith, ltb-true a b e))
    go false e = refl

-- ---- changes and jumps

rises : (a b : ℕ) → a ≤ b → change_of a b ≡ pos (b - a)
unfolding change_of
rises zero b l = ap pos (omega arith)
rises (suc a) b l = rw (le-ltb b (suc a) l)

makes_up : (n a b : ℕ) → a ≤ n + b → negative (pos n +ℤ change_of a b) ≡ false
unfolding change_of
makes_up n zero b l = refl
makes_up n (suc a) b l = sub_plus n b (suc a) l

both_rise : (a b c d : ℕ) → a ≤ b → c ≤ b - a + d → negative (change_of a b +ℤ change_of c d) ≡ false
both_rise a b c d l m = rw (rises a b l) (makes_up (b - a) c d m)

falls : (a b : ℕ) → b ≤ a → negative (neg_ℤ (change_of a b)) ≡ false
unfolding change_of
falls zero b l = let e : b + 0 ≡ 0 = omega arith in rw e
falls (suc a) b l = go (ltb b (suc a))
  where
    go : (t : Bool) → negative (neg_ℤ (cond t (negsuc (suc a - suc b)) (pos (b - suc a)))) ≡ false
    go true = refl
    go false = let e : b - suc a ≡ 0 = omega arith in rw e

-- The loss rises, the default leg falls by no more than that, and the premium leg does not rise.
jump_up : (coupon : ℕ) (here next : Node) → here.loss ≤ next.loss → here.default ≤ next.loss - here.loss + next.default → next.premium ≤ here.premium →
    negative (jump_of coupon here next) ≡ false
unfolding jump_of
jump_up coupon here next l d p =
    let gain = change_of here.loss next.loss +ℤ change_of here.default next.default in
    let paid = change_of here.premium next.premium in
    plus (pos 10_000_000 *ℤ gain) (neg_ℤ (pos coupon *ℤ paid))
    (times 10_000_000 gain (both_rise here.loss next.loss here.default next.default l d))
    (times_down coupon paid (falls here.premium next.premium p))

ratio_up : (tranche index : ℤ) → negative tranche ≡ false → negative index ≡ false → ratio_of tranche index ≡ pos (millionths (nat_abs tranche) (nat_abs index))
unfolding ratio_of with_sign
ratio_up tranche index e f = rw (e, f)

-- ---- where a list ends

module _ (e : Engine) (rules : Rules e) (u : Run) (z h : ℕ) (w : Walked e u z h) where
  abbrev x : Brought
  x = u.catalogue.sheet z

  abbrev inside : TermsWithin x.sheet
  inside = limits_terms x (placed e rules u z h w).stood.limits

  -- what the default leg loses by a default is no more than the loss
  leg_kept : (j k : ℕ) → j ≤ x.sheet.tranches → k < x.sheet.names →
      node_in x.sheet (end e u).rows.defaults j k
      ≤ loss_of x.sheet j (suc k) - loss_of x.sheet j k + node_in x.sheet (end e u).rows.defaults j (suc k)
  unfolding default_payment
  leg_kept j k l m =
      let p = placed e rules u z h w in
      let k≤n : k ≤ x.sheet.names = omega arith in
      omega (arith, p.rows.default j k l k≤n, p.rows.default j (suc k) l m, (jumps x.sheet inside).default j h (x.sheet.steps - h) k m)

  gain : (j k : ℕ) → j ≤ x.sheet.tranches → k < x.sheet.names → negative (default_gain x.sheet (end e u).rows j k) ≡ false
  unfolding default_gain
  gain j k l m = both_rise _ _ _ _ (loss_rises x.sheet inside.tranches j k) (leg_kept j k l m)

  module _ (none : NoneElapsed x.sheet) where
    no_less : (j k : ℕ) → j ≤ x.sheet.tranches → k < x.sheet.names → negative (jump x (end e u).rows j k) ≡ false
    unfolding jump node_of
    no_less j k l m =
        let p = placed e rules u z h w in
        let k≤n : k ≤ x.sheet.names = omega arith in
        jump_up (get_or x.coupons j 0) _ _ (loss_rises x.sheet inside.tranches j k) (leg_kept j k l m)
        (omega (arith, p.rows.premium j k l k≤n, p.rows.premium j (suc k) l m, (jumps x.sheet inside).premium none j h (x.sheet.steps - h) k m))

    ratio : (y j k : ℕ) → accepted (hedging e u y j k).said ≡ true → (n : ℕ) × ((hedging e u y j k).said ≡ says (pos n ∷ []))
    unfolding hedging
    ratio y j k t =
        let r = rules.ratio (u.catalogue.sheet y) (end e u).register (end e u).walk (end e u).rows j k in
        let a = (ratio_taken (u.catalogue.sheet y) (end e u).register (end e u).walk (end e u).rows _ j k r).0 t in
        let b : u.catalogue.sheet y ≡ x = same_sheet e rules u z h w y a.0.walk in
        let j≤r : j ≤ x.sheet.tranches = subst (λ x. j ≤ x.sheet.tranches) b a.1 in
        let k<n : k < x.sheet.names = subst (λ x. k < x.sheet.names) b a.2 in (
          _,
          (r.does t).said ∙ ap (λ x. says (ratio_of (jump x (end e u).rows j k) (jump x (end e u).rows x.sheet.tranches k) ∷ [])) b
              ∙ ap (λ q. says (q ∷ [])) (ratio_up _ _ (no_less j k j≤r k<n) (no_less x.sheet.tranches k (le_refl _) k<n)),
        )

  gains : Gains e u x
  gains = record { default = λ j k l m. natural _ (gain j k l m); jump = λ none j k l m. natural _ (no_less none j k l m); ratio = ratio }

pub never_negative : (e : Engine) → Rules e → NeverNegative e
never_negative e rules u y h w = gains e rules u y h w
