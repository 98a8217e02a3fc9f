-- What the call answers, case by case.
use Rattle.std.proofs.Common.{Ok, Err, ℕ, ◌≡◌, refl, sym, ◌∙◌, ◌≢◌, Bool, true, false, true≢false, List, eq-eqb, ne_eqb, ℤ, length}
use native.Mathlib.Decide.{ℕ_discrete}
use Rattle.totals.specs.Totals.{Taken, taken}
use Rattle.totals.proofs.Taken.{taken_told, taken_tests}
use Rattle.book.specs.declared.BookRefusal.{BookRefusal}
use Rattle.book.specs.Lines.{book_line}
use Rattle.book.specs.Answers.{report_answer}

module _ (ns ws : List ℤ) (lent : List ℕ) where
  pub answer_length : length lent ≢ 96 → report_answer ns ws lent ≡ Err BookRefusal.Length
  answer_length h = simp (ne_eqb (length lent) 96 h)

  pub answer_book : length lent ≡ 96 → taken ns ws ≡ false → report_answer ns ws lent ≡ Err BookRefusal.Book
  answer_book h t = simp (eq-eqb (length lent) 96 h, t)

  pub answer_written : length lent ≡ 96 → taken ns ws ≡ true → report_answer ns ws lent ≡ Ok (length (book_line ns ws))
  answer_written h t = simp (eq-eqb (length lent) 96 h, t)

-- What the lists and the bytes lent are: one of three things.
pub data Says (ns ws : List ℤ) (lent : List ℕ) : Type 0 where
  wrong : length lent ≢ 96 → Says ns ws lent
  bad : length lent ≡ 96 → ¬ (Taken ns ws) → Says ns ws lent
  good : length lent ≡ 96 → Taken ns ws → Says ns ws lent

module _ (ns ws : List ℤ) where
  pub not_taken : ¬ (Taken ns ws) → taken ns ws ≡ false
  not_taken h = go (taken ns ws) refl
    where
      go : (t : Bool) → taken ns ws ≡ t → taken ns ws ≡ false
      go true e = absurd (h (taken_told ns ws e))
      go false e = e

  pub says : (lent : List ℕ) → Says ns ws lent
  says lent = go (ℕ_discrete (length lent) 96) (taken ns ws) refl
    where
      go : Dec (length lent ≡ 96) → (t : Bool) → taken ns ws ≡ t → Says ns ws lent
      go (no h) t e = wrong h
      go (yes h) true e = good h (taken_told ns ws e)
      go (yes h) false e = bad h (λ t. true≢false (sym (taken_tests ns ws t) ∙ e))
