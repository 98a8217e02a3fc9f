-- By computation.
use Rattle.std.proofs.Common.{refl, arith}
use Rattle.sheet.specs.Spans.{list_in}
use Rattle.sheet.specs.Placement.{ListsInPlace, SpansEnd, EachSpanCounts}

pub lists_in_place : ListsInPlace
unfolding list_in
lists_in_place = refl

pub spans_end : SpansEnd
unfolding list_in
spans_end = record { last_two = refl; one_past = refl; all = refl; one_more_than_all = refl; from_the_end = refl }

pub each_span_counts : EachSpanCounts
each_span_counts =
    record {
      attachments = λ w. omega (arith, w.attachments);
      starts = λ w. omega (arith, w.starts);
      hazards = λ w. omega (arith, w.hazards);
      discounts = λ w. omega (arith, w.discounts);
      accruals = λ w. omega (arith, w.accruals);
      elapsed = λ w. omega (arith, w.elapsed);
      coupons = λ w. omega (arith, w.coupons);
      all = omega arith;
    }
