-- A span that states more numbers than there are is refused with 2, by any engine that keeps to the rules of its calls.
use Rattle.std.specs.Prelude.{ℕ, ◌≡◌, List, []}
use Rattle.sheet.specs.declared.Sheet as Declared
use Rattle.sheet.specs.Limits.{PoolInside}
use Rattle.sheet.specs.Spans.{brought_in, terms_in, SpansWithin}
use Rattle.rows.specs.Rows.{Rows}
use Rattle.walk.specs.declared.Walk.{Walk}
use Rattle.walk.specs.Answers.{Said}
use Rattle.walk.specs.Engine.{Engine}
use Rattle.walk.specs.Promise.{Rules}

abbrev pub length_said : Said
length_said = record { number = 2; values = [] }

-- Each call that brings such a sheet.
pub record LengthRefused (e : Engine) (x : Declared.Sheet) (numbers : List ℕ) : Type 0 where
  pub opening : (register : List ℕ) (walk : Walk) (rows : Rows) → (e.opening (brought_in x numbers) register walk rows).said ≡ length_said
  pub back : (register : List ℕ) (walk : Walk) (rows : Rows) (c : ℕ) → (e.back (brought_in x numbers) register walk rows c).said ≡ length_said
  pub value : (register : List ℕ) (walk : Walk) (rows : Rows) (j k : ℕ) → (e.value (brought_in x numbers) register walk rows j k).said ≡ length_said
  pub ratio : (register : List ℕ) (walk : Walk) (rows : Rows) (j k : ℕ) → (e.ratio (brought_in x numbers) register walk rows j k).said ≡ length_said
  pub forward : (register row : List ℕ) (i : ℕ) → (e.forward (brought_in x numbers) register row i).said ≡ length_said

-- A pool outside its limits is refused before, with 1.
abbrev pub PastRefused : Type 0
PastRefused =
    (e : Engine) → Rules e → (x : Declared.Sheet) (numbers : List ℕ) → PoolInside (terms_in x numbers) → ¬ (SpansWithin x numbers) →
    LengthRefused e x numbers
