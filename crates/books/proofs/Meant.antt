-- What the promise comes to.
use Rattle.std.proofs.Common.{ℕ, suc, ◌≡◌, refl, ap, List, [], ◌∷◌, ◌++◌, arith, ℤ, length, drop}
use Rattle.book.specs.Promise.{Reporter, refuses, Position, SamePositions, Keeps}
use Rattle.book.proofs.Answers.{Says, wrong, bad, good, says}
use Rattle.totals.specs.Totals.{total, gains, losses}
use Rattle.books.specs.Meant.{LineAdds, Sides, Meant}

both_sides : (ns ws : List ℤ) → length ns ≡ length ws → Sides ns ws
both_sides [] [] h = record { positions = []; nominals_are = refl; values_are = refl }
both_sides [] (w ∷ ws) h = absurd (omega (arith, h))
both_sides (n ∷ ns) [] h = absurd (omega (arith, h))
both_sides (n ∷ ns) (w ∷ ws) h =
    let s = both_sides ns ws (omega (arith, h)) in
    record {
      positions = (n, w) ∷ s.positions;
      nominals_are = ap (λ (l : List ℤ). n ∷ l) s.nominals_are;
      values_are = ap (λ (l : List ℤ). w ∷ l) s.values_are;
    }

next_to : (a b : List Position) (p q : Position) → SamePositions (a ++ (p ∷ (q ∷ b))) (a ++ (q ∷ (p ∷ b)))
next_to [] b p q z = omega arith
next_to (x ∷ a) b p q z = omega (arith, next_to a b p q z)

module _ (f : Reporter) (k : Keeps f) where
  reads : (ns ws : List ℤ) (lent : List ℕ) → (f ns ws lent).number ≡ 0 → LineAdds (f ns ws lent)
  reads ns ws lent e = go (says ns ws lent)
    where
      refused : {n : ℕ} → f ns ws lent ≡ refuses (suc n) lent → LineAdds (f ns ws lent)
      refused r = absurd (omega (arith, ap (λ o. o.number) r, e))

      go : Says ns ws lent → LineAdds (f ns ws lent)
      go (wrong h) = refused ((k.rule ns ws lent).wrong_length h)
      go (bad h t) = refused ((k.rule ns ws lent).not_taken h t)
      go (good h t) =
          let r = (k.rule ns ws lent).accepted h t in
          let rest = drop (length r.text) lent in
          let stands = ap (λ o. o.left) r.is in
          record {
            whole = total ns ws;
            gained = gains ns ws;
            lost = losses ns ws;
            text = r.text;
            rest = rest;
            line = r.line;
            stands = stands;
            adds = k.adds ns ws lent e (total ns ws) (gains ns ws) (losses ns ws) r.text rest r.line stands;
          }

  pub meant : Meant f
  meant =
      record {
        line_adds = reads;
        sides = both_sides;
        neighbours = next_to;
        exchanged = λ a b p q lent. k.any_order (a ++ (p ∷ (q ∷ b))) (a ++ (q ∷ (p ∷ b))) lent (next_to a b p q);
      }
