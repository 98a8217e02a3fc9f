-- A `&κ mut [T]` that is lent again for the lifetime κ' of a call, and that comes back at the list the call left in it.
-- The count that the machine value of the slice has is a parameter n, equal to the length of the list: a slice whose list
-- has been changed to another of the same length keeps the machine value that it had.
--     Hollow       what is left of the slice while its elements are away: its borrow at κ, open, and both halves of its ghost name
--     LentAgain    what the holder has while the slice is lent again under γ₁: the hollow slice, and the lender's part at κ'
--     hollows      obs ∗ borrow ∗ [κ]_q  ⊢ ⇛ (the elements ∗ the hollow slice)
--     refills      as many elements ∗ the hollow slice  ⊢ ⇛ (the slice, at these elements ∗ [κ]_q)
--     lends_at     the slice ∗ [κ]_q  ⊢ ⇛ ∃ γ₁. the slice for κ' under γ₁ ∗ LentAgain γ₁
--     comes_at     [†κ'] ∗ LentAgain γ₁ ∗ finally γ₁ zs  ⊢ ⇛ (the slice at zs ∗ [κ]_q), where zs is as long as the list lent
--     lends_again, comes_back      the same at the length itself
-- Nothing here is of this crate. Assumes `Logic`.
use mathlib.Core.Path.{◌≡◌, refl, sym, ap, subst, ◌∙◌}
use Prim.Native.Nat.{ℕ}
use mathlib.Core.List.{List, [], ◌∷◌}
use lib.ListN.{length}
use seplogic.Ra.Ura.{Ura}
use base.Fraction.{full_share}
use mir.Syntax.{Lifetime}
use base.Logic.{SProp, ent, sep, ex}
use base.Fml.{Lft, GName, Share, Fml, fsep, flft, fdead, fobs, fauth, flent, fbor, fobor}
use types.Logic.{Logic, sem}
use types.Kit.{‵, ◌⊛◌, some, later, ◌$◌, ◌∵◌, !, qed, move, use1, use2, use3, drop, split, rewrite, pick, fsplit, fjoin}
use types.Kit.{frame, await, updating, now as at_once, show, done}
use types.SemTy.{cells, Arr}
use denote.RattleType.{RattleType}
use denote.Shadow.{pure_l, pure_i}
use denote.Memory.{mem}
use denote.Ref.{MutBor}
use denote.Slice.{slice_val, MutSlice, heres, Room, finally, mut_slice_at, coded_holeys}
use denote.Lend.{Held, lends_slice, slice_back}
use denote.Index.{row, whole_out, whole_in, opens_slice, closes_slice}

module _ (R : RattleType) (κ κ' : Lft) (q : Share) (γ : GName) (b o : ℕ) where
  abbrev Elems : Type 0
  Elems = List R.Denot

  -- the slice's value under a name; the two halves of that name; the borrow
  abbrev the_slice : GName → Elems → MutBor Elems
  the_slice δ ys = record { ref_ptr = (b, o); ghost_name = δ; now = ys }

  abbrev seen : Elems → Fml
  seen ys = fobs γ ((coded_holeys R).code (heres R ys))

  abbrev kept : Elems → Fml
  kept ys = fauth γ ((coded_holeys R).code (heres R ys))

  abbrev held : Elems → GName → Fml
  held ys δ = Held R (length ys) b o δ

  -- what the slice owns for a lifetime ϰ, written ℓ in the code, with the machine's count n
  abbrev Owns : Lifetime → Lft → GName → Elems → ℕ → Fml
  Owns ℓ ϰ δ ys n = (MutSlice ℓ ϰ R).own_val (the_slice δ ys) (slice_val (b, o) n ∷ [])

  abbrev Hollow : Elems → Fml
  Hollow ys = fsep (seen ys) (fsep (kept ys) (fobor κ q (held ys γ)))

  abbrev pub LentAgain : GName → Elems → Fml
  LentAgain γ₁ ys = fsep (Hollow ys) (flent κ' (held ys γ₁))

  module _ {M : Type 1} {𝓤 : Ura M} (𝓛 : Logic 𝓤) (ℓ ℓ' : Lifetime) (ys : Elems) where
    open 𝓛 use {H, A}

    abbrev ⟦◌⟧ : Fml → SProp 𝓤
    ⟦ P ⟧ = sem 𝓛 P

    hollows : ent 𝓤 (sep 𝓤 ⟦ fsep (seen ys) (fbor κ (held ys γ)) ⟧ (A.lft κ q)) (H.⇛ (sep 𝓤 ⟦ cells (mem R) ys b o ⟧ ⟦ Hollow ys ⟧))
    hollows =
        qed 𝓛 (‵ (fsep (seen ys) (fbor κ (held ys γ))) ∷ ‵ (flft κ q) ∷ []) ∵ updating ! $ fsplit ! $ opens_slice ! tt R ys b o $ at_once ! $
        use1 𝓛 (‵ (cells (mem R) ys b o)) (whole_in 𝓛 R ys b o) $ frame ! $
        -- [the open borrow; obs; auth]
        move ! (2 ∷ 0 ∷ []) $ fjoin ! $ move ! (1 ∷ 0 ∷ []) $ fjoin ! $ done !

    refills : (n : ℕ) → n ≡ length ys → (zs : Elems) → Room R (length ys) → length zs ≡ length ys
        → ent 𝓤 (sep 𝓤 ⟦ row R full_share zs b o ⟧ ⟦ Hollow ys ⟧) (H.⇛ (sep 𝓤 ⟦ Owns ℓ κ γ zs n ⟧ (A.lft κ q)))
    refills n is zs room as_long =
        qed 𝓛 (‵ (row R full_share zs b o) ∷ ‵ (Hollow ys) ∷ []) ∵ updating ! $ move ! (1 ∷ []) $ fsplit ! $ move ! (1 ∷ []) $ fsplit ! $
        -- [auth; the open borrow; obs; the elements]
        move ! (3 ∷ 1 ∷ 2 ∷ 0 ∷ []) $ closes_slice ! tt R ys zs as_long b o $ at_once ! $ fjoin ! $
        pure_i ! (mut_slice_at R (the_slice γ zs) (slice_val (b, o) n ∷ [])) (tt, (tt, tt))
        (ap (λ (m : ℕ). slice_val (b, o) m ∷ []) (is ∙ sym as_long), subst (Room R) (sym as_long) room) $ fjoin ! $ done !

    module _ (n : ℕ) (is : n ≡ length ys) where
      abbrev Lends : GName → SProp 𝓤
      Lends δ = sep 𝓤 ⟦ Owns ℓ' κ' δ ys n ⟧ ⟦ LentAgain δ ys ⟧

      pub lends_at : ent 𝓤 (sep 𝓤 ⟦ Owns ℓ κ γ ys n ⟧ (A.lft κ q)) (H.⇛ (ex 𝓤 Lends))
      lends_at =
          qed 𝓛 (‵ (Owns ℓ κ γ ys n) ∷ ‵ (flft κ q) ∷ []) ∵ updating ! $ fsplit ! $
          pure_l ! (mut_slice_at R (the_slice γ ys) (slice_val (b, o) n ∷ [])) (λ at.
          use2 𝓛 (later (‵ (cells (mem R) ys b o) ⊛ ‵ (Hollow ys))) hollows $ await ! tt $ split ! $
          use1 𝓛 (later (some (λ (δ : GName). ‵ (Owns ℓ' κ' δ ys (length ys)) ⊛ ‵ (flent κ' (held ys δ)))))
          (lends_slice 𝓛 R ℓ' κ' ys b o at.1) $ await ! tt $ pick ! (λ γ₁. split ! $
          -- [the new slice; the lender's part; the hollow slice]
          rewrite ! 0 (λ (m : ℕ). ‵ (Owns ℓ' κ' γ₁ ys m)) (sym is) refl $
          at_once ! $ show ! Lends γ₁ $ frame ! $ move ! (1 ∷ 0 ∷ []) $ fjoin ! $ done !))

      pub comes_at : (γ₁ : GName) (zs : Elems) → Room R (length ys) → length zs ≡ length ys
          → ent 𝓤 (sep 𝓤 (A.dead κ') (sep 𝓤 ⟦ LentAgain γ₁ ys ⟧ ⟦ finally R γ₁ zs ⟧)) (H.⇛ (sep 𝓤 ⟦ Owns ℓ κ γ zs n ⟧ (A.lft κ q)))
      comes_at γ₁ zs room as_long =
          qed 𝓛 (‵ (fdead κ') ∷ ‵ (LentAgain γ₁ ys) ∷ ‵ (finally R γ₁ zs) ∷ []) ∵ updating ! $ move ! (1 ∷ []) $ fsplit ! $
          -- [the hollow slice; the lender's part; κ' is dead; the last list]
          move ! (2 ∷ 1 ∷ 3 ∷ []) $ use3 𝓛 (later (‵ ((Arr (mem R) (length ys)).own_at zs b o))) (slice_back 𝓛 R κ' γ₁ zs (length ys) b o) $
          await ! tt $ fsplit ! $ drop ! $ use1 𝓛 (‵ (row R full_share zs b o)) (whole_out 𝓛 R zs b o) $
          use2 𝓛 (later (‵ (Owns ℓ κ γ zs n) ⊛ ‵ (flft κ q))) (refills n is zs room as_long) $ await ! tt $ split ! $ at_once ! $ frame ! $ done !

    pub lends_again : ent 𝓤 (sep 𝓤 ⟦ Owns ℓ κ γ ys (length ys) ⟧ (A.lft κ q)) (H.⇛ (ex 𝓤 (Lends (length ys) refl)))
    lends_again = lends_at (length ys) refl

    pub comes_back : (γ₁ : GName) (zs : Elems) → Room R (length ys) → length zs ≡ length ys
        → ent 𝓤 (sep 𝓤 (A.dead κ') (sep 𝓤 ⟦ LentAgain γ₁ ys ⟧ ⟦ finally R γ₁ zs ⟧)) (H.⇛ (sep 𝓤 ⟦ Owns ℓ κ γ zs (length ys) ⟧ (A.lft κ q)))
    comes_back = comes_at (length ys) refl
