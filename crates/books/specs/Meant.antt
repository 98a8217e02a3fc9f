-- What the promise of a book comes to, of any function that keeps it. Proved in proofs/Meant.antt from all that `Keeps` says.
use Rattle.std.specs.Prelude.{◌≡◌, List, ◌∷◌, ◌++◌, ℕ, ℤ, length}
use Rattle.book.specs.Lines.{IsLine}
use Rattle.book.specs.Promise.{Result, Reporter, Adds, Position, nominals_of, values_of, SamePositions}

-- A line of three numbers stands at the start of what is left, and adds.
pub record LineAdds (o : Result) : Type 0 where
  pub whole : ℤ
  pub gained : ℤ
  pub lost : ℤ
  pub text : List ℕ
  pub rest : List ℕ
  pub line : IsLine whole gained lost text
  pub stands : o.left ≡ text ++ rest
  pub adds : Adds o text whole gained lost

-- Positions that have these nominals and values.
pub record Sides (nominals values : List ℤ) : Type 0 where
  pub positions : List Position
  pub nominals_are : nominals_of positions ≡ nominals
  pub values_are : values_of positions ≡ values

pub record Meant (f : Reporter) : Type 0 where
  -- Every accepted call leaves such a line.
  pub line_adds : (nominals values : List ℤ) (lent : List ℕ) → (f nominals values lent).number ≡ 0 → LineAdds (f nominals values lent)
  -- Lists of like length are always those of positions; two of these that are neighbours may be exchanged, wherever they stand.
  pub sides : (nominals values : List ℤ) → length nominals ≡ length values → Sides nominals values
  pub neighbours : (front back : List Position) (p q : Position) → SamePositions (front ++ (p ∷ (q ∷ back))) (front ++ (q ∷ (p ∷ back)))
  pub exchanged : (front back : List Position) (p q : Position) (lent : List ℕ) →
      f (nominals_of (front ++ (p ∷ (q ∷ back)))) (values_of (front ++ (p ∷ (q ∷ back)))) lent
      ≡ f (nominals_of (front ++ (q ∷ (p ∷ back)))) (values_of (front ++ (q ∷ (p ∷ back)))) lent
