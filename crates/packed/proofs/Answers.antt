-- What reading and writing answer, case by case.
use Rattle.std.proofs.Common.{Result, Ok, Err, ℕ, ◌≤◌, ◌<◌, ◌≡◌, refl, ap, ◌≢◌, ◌⊎◌, inl, inr, true, false, List, arith, eq-eqb, ne_eqb, lt-ltb, le-ltb, length}
use Rattle.std.specs.Prelude.{⊤}
use Rattle.std.proofs.lemmas.Bool.{cases_lt}
use native.Mathlib.Decide.{ℕ_discrete}
use Rattle.images.specs.Images.{packed_value, digits_bad}
use Rattle.packed.specs.declared.ImageRefusal.{ImageRefusal}
use Rattle.packed.specs.Answers.{writing_number, read_answer, write_answer, left_by}

-- ---- reading

module _ (l : List ℕ) where
  pub read_length : length l ≢ 4 → read_answer l ≡ Err ImageRefusal.Length
  read_length h = simp (ne_eqb (length l) 4 h)

  pub read_digit : length l ≡ 4 → digits_bad l ≡ true → read_answer l ≡ Err ImageRefusal.Digit
  read_digit h b = simp (eq-eqb (length l) 4 h, b)

  pub read_limit : length l ≡ 4 → digits_bad l ≡ false → 10_000_000 < packed_value l → read_answer l ≡ Err ImageRefusal.OverLimit
  read_limit h b o = simp (eq-eqb (length l) 4 h, b, lt-ltb 10_000_000 (packed_value l) o)

  pub read_value : length l ≡ 4 → digits_bad l ≡ false → packed_value l ≤ 10_000_000 → read_answer l ≡ Ok (packed_value l)
  read_value h b o = simp (eq-eqb (length l) 4 h, b, le-ltb 10_000_000 (packed_value l) o)

-- ---- writing

module _ (l : List ℕ) (v : ℕ) where
  pub write_length : length l ≢ 4 → write_answer l v ≡ Err ImageRefusal.Length
  write_length h = simp (ne_eqb (length l) 4 h)

  pub write_limit : length l ≡ 4 → 10_000_000 < v → write_answer l v ≡ Err ImageRefusal.OverLimit
  write_limit h o = simp (eq-eqb (length l) 4 h, lt-ltb 10_000_000 v o)

  pub write_value : length l ≡ 4 → v ≤ 10_000_000 → write_answer l v ≡ Ok tt
  write_value h o = simp (eq-eqb (length l) 4 h, le-ltb 10_000_000 v o)

  -- What is answered by 0 is of four bytes and within the limit.
  pub written_within : writing_number (write_answer l v) ≡ 0 → (length l ≡ 4) × (v ≤ 10_000_000)
  written_within e = go (ℕ_discrete (length l) 4) (cases_lt 10_000_000 v)
    where
      go : Dec (length l ≡ 4) → (10_000_000 < v) ⊎ (v ≤ 10_000_000) → (length l ≡ 4) × (v ≤ 10_000_000)
      go (no h) d = absurd (omega (arith, e, ap writing_number (write_length h)))
      go (yes h) (inl o) = absurd (omega (arith, e, ap writing_number (write_limit h o)))
      go (yes h) (inr o) = (h, o)

  -- An answer other than Ok leaves what was lent.
  pub kept : (a : Result ⊤ ImageRefusal) → (a ≡ Ok tt → ⊥) → l ≡ left_by a l v
  kept (Ok tt) t = absurd (t refl)
  kept (Err refusal) t = refl
