-- Our call keeps the promise, and no other does.
use Rattle.std.proofs.Common.{Ok, Err, ℕ, zero, suc, ◌+◌, ◌≤◌, ◌≡◌, refl, sym, ap, ◌∙◌, subst, ◌≢◌, Bool, true, false, cond, true≢false, eqb, List, [], ◌∷◌, ◌++◌, arith, ℤ, pos, negsuc, nat_abs, ◌+ℤ◌, length, length-append, length-drop, drop}
use lib.Seq.{sets-eq}
use Rattle.lines.specs.Text.{Wrote}
use Rattle.hedges.specs.Hedges.{negative, with_sign}
use Rattle.totals.specs.Totals.{total, gains, losses, Taken, taken, gain_of, loss_of}
use Rattle.totals.proofs.Taken.{taken_tests}
use Rattle.totals.proofs.Laws.{gains_and_losses}
use Rattle.totals.proofs.Partway.{sizes_of, gains_by_sizes, losses_by_sizes}
use Rattle.book.specs.declared.BookRefusal.{BookRefusal}
use Rattle.book.specs.Lines.{IsLine, line_of, book_line}
use Rattle.book.specs.Answers.{Answer, report_answer, starting_with, left_by}
use Rattle.book.specs.Promise.{Result, Reporter, refuses, Reports, BookRule, Adds}
use Rattle.book.specs.Promise.{Position, nominals_of, values_of, SamePositions, Keeps, reported_by, ours}
use Rattle.book.proofs.Lines.{one_line, one_reading, line_fits}
use Rattle.book.proofs.Orders.{Reordered, reordered, same_total, same_taken}
use Rattle.book.proofs.Answers.{answer_length, answer_book, answer_written, Says, wrong, bad, good, not_taken, says}

-- ---- the rule

module _ (ns ws : List ℤ) (lent : List ℕ) where
  gives : {a : Answer} → report_answer ns ws lent ≡ a → ours ns ws lent ≡ reported_by a (left_by a ns ws lent)
  gives e = ap (λ a. reported_by a (left_by a ns ws lent)) e

  pub our_line : length lent ≡ 96 → Taken ns ws →
      ours ns ws lent ≡ record { number = 0; values = length (book_line ns ws) ∷ []; left = starting_with (book_line ns ws) lent }
  our_line h t = gives (answer_written ns ws lent h (taken_tests ns ws t))

  our_rule : BookRule ns ws lent (ours ns ws lent)
  our_rule =
      record {
        wrong_length = λ h. gives (answer_length ns ws lent h);
        not_taken = λ h t. gives (answer_book ns ws lent h (not_taken ns ws t));
        accepted = λ h t. record { text = book_line ns ws; line = (one_line (total ns ws) (gains ns ws) (losses ns ws)).line; is = our_line h t };
      }

-- What gives back as ours keeps the rule.
pub book_rule : (ns ws : List ℤ) (lent : List ℕ) (o : Result) → o ≡ ours ns ws lent → BookRule ns ws lent o
book_rule ns ws lent o e = subst (BookRule ns ws lent) (sym e) (our_rule ns ws lent)

-- Text that was written from the start on is there, and behind it what was lent; its end is as far as it is long.
pub line_written : (ns ws : List ℤ) (lent after : List ℕ) (end : ℕ) → length lent ≡ 96 → Taken ns ws →
    Wrote lent 0 (book_line ns ws) after end → (end ≡ length (book_line ns ws)) × (after ≡ starting_with (book_line ns ws) lent)
line_written ns ws lent after end h t w =
    let room : 0 + length (book_line ns ws) ≤ length lent = omega (arith, line_fits ns ws t, h) in
    let behind : 0 + length (book_line ns ws) ≡ length (book_line ns ws) = omega arith in (
      omega (arith, w.stop),
      w.bytes ∙ sets-eq (book_line ns ws) lent 0 room ∙ ap (λ k. book_line ns ws ++ drop k lent) behind,
    )

-- ---- no other keeps it

-- Two reports of the same book are one.
one_report : (ns ws : List ℤ) (lent : List ℕ) (o : Result) → Reports ns ws lent o →
    o ≡ record { number = 0; values = length (book_line ns ws) ∷ []; left = starting_with (book_line ns ws) lent }
one_report ns ws lent o r =
    r.is ∙ ap (λ t. record { number = 0; values = length t ∷ []; left = starting_with t lent })
    ((one_line (total ns ws) (gains ns ws) (losses ns ws)).alone r.text r.line)

rule_once : (ns ws : List ℤ) (lent : List ℕ) (o : Result) → BookRule ns ws lent o → o ≡ ours ns ws lent
rule_once ns ws lent o r = go (says ns ws lent)
  where
    go : Says ns ws lent → o ≡ ours ns ws lent
    go (wrong h) = r.wrong_length h ∙ sym ((our_rule ns ws lent).wrong_length h)
    go (bad h t) = r.not_taken h t ∙ sym ((our_rule ns ws lent).not_taken h t)
    go (good h t) = one_report ns ws lent o (r.accepted h t) ∙ sym (our_line ns ws lent h t)

pub ours_alone : (f : Reporter) → Keeps f → f ≡ ours
ours_alone f k = λ i. λ ns ws lent. rule_once ns ws lent (f ns ws lent) (k.rule ns ws lent) i

-- ---- ours keeps it

-- A number by its size is on one side of 0.
not_below : (k n : ℕ) → with_sign false k ≢ negsuc n
unfolding with_sign
not_below k n e = true≢false (ap negative (sym e))

not_above : (k n : ℕ) → with_sign true k ≢ pos (suc n)
unfolding with_sign
not_above zero n e = omega (arith, ap nat_abs e)
not_above (suc k) n e = true≢false (ap negative e)

module _ (ns ws : List ℤ) (lent : List ℕ) where
  our_length : length (ours ns ws lent).left ≡ length lent
  our_length = go (says ns ws lent)
    where
      go : Says ns ws lent → length (ours ns ws lent).left ≡ length lent
      go (wrong h) = ap (λ o. length o.left) ((our_rule ns ws lent).wrong_length h)
      go (bad h t) = ap (λ o. length o.left) ((our_rule ns ws lent).not_taken h t)
      go (good h t) =
          ap (λ o. length o.left) (our_line ns ws lent h t) ∙ length-append (book_line ns ws) (drop (length (book_line ns ws)) lent)
          ∙ omega (arith, length-drop (length (book_line ns ws)) lent, line_fits ns ws t, h)

  -- Whatever is read there is what was written.
  our_sum : (ours ns ws lent).number ≡ 0 → (x y z : ℤ) (text rest : List ℕ) → IsLine x y z text → (ours ns ws lent).left ≡ text ++ rest →
      Adds (ours ns ws lent) text x y z
  our_sum e x y z text rest l q = go (says ns ws lent)
    where
      refused : {n : ℕ} → ours ns ws lent ≡ refuses (suc n) lent → Adds (ours ns ws lent) text x y z
      refused r = absurd (omega (arith, ap (λ o. o.number) r, e))

      go : Says ns ws lent → Adds (ours ns ws lent) text x y z
      go (wrong h) = refused ((our_rule ns ws lent).wrong_length h)
      go (bad h t) = refused ((our_rule ns ws lent).not_taken h t)
      go (good h t) =
          let ours_is = our_line ns ws lent h t in
          let same =
          one_reading x y z (total ns ws) (gains ns ws) (losses ns ws) text (book_line ns ws) rest (drop (length (book_line ns ws)) lent) l
          (one_line (total ns ws) (gains ns ws) (losses ns ws)).line (sym q ∙ ap (λ o. o.left) ours_is) in
          record {
            told = ap (λ o. o.values) ours_is ∙ ap (λ s. length s ∷ []) (sym same.text_same);
            adds =
                ap (λ u. u +ℤ z) same.second_same ∙ ap (λ u. gains ns ws +ℤ u) same.third_same ∙ gains_and_losses ns ws
                ∙ sym same.first_same;
            never_below = λ n h. not_below (sizes_of gain_of ns ws) n (sym (same.second_same ∙ gains_by_sizes ns ws) ∙ h);
            never_above = λ n h. not_above (sizes_of loss_of ns ws) n (sym (same.third_same ∙ losses_by_sizes ns ws) ∙ h);
          }

-- What is told and left depends on the bytes lent, the test and the line alone.
abbrev told : List ℕ → Bool → List ℕ → Result
told lent t text =
    cond (eqb (length lent) 96)
    (cond t (record { number = 0; values = length text ∷ []; left = starting_with text lent }) (refuses 28 lent)) (refuses 2 lent)

pub our_told : (ns ws : List ℤ) (lent : List ℕ) → ours ns ws lent ≡ told lent (taken ns ws) (book_line ns ws)
our_told ns ws lent = go (eqb (length lent) 96) (taken ns ws)
  where
    answered : Bool → Bool → Answer
    answered s t = cond s (cond t (Ok (length (book_line ns ws))) (Err BookRefusal.Book)) (Err BookRefusal.Length)

    go : (s t : Bool) → reported_by (answered s t) (left_by (answered s t) ns ws lent)
        ≡ cond s
        (cond t (record { number = 0; values = length (book_line ns ws) ∷ []; left = starting_with (book_line ns ws) lent }) (refuses 28 lent))
        (refuses 2 lent)
    go true true = refl
    go true false = refl
    go false t = refl

our_orders : (a b : List Position) (lent : List ℕ) → SamePositions a b →
    ours (nominals_of a) (values_of a) lent ≡ ours (nominals_of b) (values_of b) lent
our_orders a b lent h =
    let r = reordered a b h in
    our_told (nominals_of a) (values_of a) lent ∙ ap (λ t. told lent t (book_line (nominals_of a) (values_of a))) (same_taken r)
    ∙ ap (told lent (taken (nominals_of b) (values_of b))) (same_line r) ∙ sym (our_told (nominals_of b) (values_of b) lent)
  where
    same_line : Reordered a b → book_line (nominals_of a) (values_of a) ≡ book_line (nominals_of b) (values_of b)
    same_line r =
        ap (λ x. line_of x (gains (nominals_of a) (values_of a)) (losses (nominals_of a) (values_of a))) (same_total (λ z. z) r)
        ∙ ap (λ x. line_of (total (nominals_of b) (values_of b)) x (losses (nominals_of a) (values_of a))) (same_total gain_of r)
        ∙ ap (line_of (total (nominals_of b) (values_of b)) (gains (nominals_of b) (values_of b))) (same_total loss_of r)

pub ours_keeps : Keeps ours
ours_keeps = record { rule = our_rule; same_length = our_length; adds = our_sum; any_order = our_orders }
