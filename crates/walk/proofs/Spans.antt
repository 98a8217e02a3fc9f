-- A sheet of which a span reaches past the numbers has a list of another length than it should, so 2 is the first rule that is broken.
use Rattle.std.proofs.Common.{◌≡◌, ◌∷◌, inl, inr}
use Rattle.sheet.specs.Limits.{ListsFit}
use Rattle.sheet.specs.Spans.{brought_in, SpansWithin}
use Rattle.sheet.proofs.Spans.{spans_judged}
use Rattle.walk.specs.Answers.{Said}
use Rattle.walk.specs.RefusalOrders.{RefusalOrder, Judges}
use Rattle.walk.specs.Spans.{length_said, PastRefused}

-- the second rule is the first that is broken
second : (P L : Type 0) (rest : RefusalOrder) (said : Said) → P → ¬ L → Judges ((P, 1) ∷ (L, 2) ∷ rest) said → said ≡ length_said
unfolding Judges
second P L rest said p n (inl broken) = absurd (broken.0 p)
second P L rest said p n (inr (kept, inl broken)) = broken.1
second P L rest said p n (inr (kept, inr more)) = absurd (n more.0)

pub past_refused : PastRefused
past_refused e rules x numbers pool past =
    record {
      opening = λ register walk rows. second _ _ _ _ pool (λ l. past (judged l.lists)) (rules.opening _ register walk rows).judged;
      back = λ register walk rows c. second _ _ _ _ pool (λ l. past (judged l.lists)) (rules.back _ register walk rows c).judged;
      value = λ register walk rows j k. second _ _ _ _ pool (λ l. past (judged l.lists)) (rules.value _ register walk rows j k).judged;
      ratio = λ register walk rows j k. second _ _ _ _ pool (λ l. past (judged l.lists)) (rules.ratio _ register walk rows j k).judged;
      forward = λ register row i. second _ _ _ _ pool (λ l. past (judged l.lists)) (rules.forward _ register row i).judged;
    }
  where
    judged : ListsFit (brought_in x numbers) → SpansWithin x numbers
    judged = spans_judged.judged x numbers pool
