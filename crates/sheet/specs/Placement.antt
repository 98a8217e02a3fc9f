-- Where each list of a sheet stands among its numbers, and where they end, on one sheet with no number twice. Proved in proofs/Placement.antt.
use Rattle.std.specs.Prelude.{ℕ, ◌≡◌, List, [], ◌∷◌}
use Rattle.sheet.specs.declared.Span.{Span}
use Rattle.sheet.specs.declared.Sheet as Declared
use Rattle.sheet.specs.Spans.{list_in, brought_in, SpansWithin}

-- Its lists overlap nowhere, and the numbers hold one before them and one after.
abbrev pub distinct_sheet : Declared.Sheet
distinct_sheet =
    record {
      pool = record { names = 2; steps = 1; tranches = 3; recovery = 4; number = 5 };
      attachments = record { at = 1; length = 4 };
      starts = record { at = 5; length = 1 };
      hazards = record { at = 6; length = 2 };
      discounts = record { at = 8; length = 1 };
      accruals = record { at = 9; length = 1 };
      elapsed = record { at = 10; length = 1 };
      coupons = record { at = 11; length = 4 };
    }

abbrev pub distinct_numbers : List ℕ
distinct_numbers = 10 ∷ 11 ∷ 12 ∷ 13 ∷ 14 ∷ 15 ∷ 16 ∷ 17 ∷ 18 ∷ 19 ∷ 20 ∷ 21 ∷ 22 ∷ 23 ∷ 24 ∷ 25 ∷ []

-- Each figure and list is brought where it belongs.
abbrev pub ListsInPlace : Type 0
ListsInPlace =
    brought_in distinct_sheet distinct_numbers
    ≡ record {
      sheet =
          record {
            names = 2;
            steps = 1;
            tranches = 3;
            recovery = 4;
            attachments = 11 ∷ 12 ∷ 13 ∷ 14 ∷ [];
            starts = 15 ∷ [];
            hazards = 16 ∷ 17 ∷ [];
            discounts = 18 ∷ [];
            accruals = 19 ∷ [];
            elapsed = 20 ∷ [];
          };
      number = 5;
      coupons = 21 ∷ 22 ∷ 23 ∷ 24 ∷ [];
    }

-- A span may end with the numbers. One that states more is no shorter list: it has none.
pub record SpansEnd : Type 0 where
  pub last_two : list_in (record { at = 14; length = 2 }) distinct_numbers ≡ 24 ∷ 25 ∷ []
  pub one_past : list_in (record { at = 14; length = 3 }) distinct_numbers ≡ []
  pub all : list_in (record { at = 0; length = 16 }) distinct_numbers ≡ distinct_numbers
  pub one_more_than_all : list_in (record { at = 0; length = 17 }) distinct_numbers ≡ []
  pub from_the_end : list_in (record { at = 16; length = 1 }) distinct_numbers ≡ []

-- A sheet of these spans.
abbrev pub spanned : Span → Span → Span → Span → Span → Span → Span → Declared.Sheet
spanned attachments starts hazards discounts accruals elapsed coupons =
    record {
      pool = distinct_sheet.pool;
      attachments = attachments;
      starts = starts;
      hazards = hazards;
      discounts = discounts;
      accruals = accruals;
      elapsed = elapsed;
      coupons = coupons;
    }

abbrev pub whole : Span
whole = record { at = 0; length = 16 }

abbrev pub past : Span
past = record { at = 0; length = 17 }

-- Each of the seven counts.
pub record EachSpanCounts : Type 0 where
  pub attachments : ¬ (SpansWithin (spanned past whole whole whole whole whole whole) distinct_numbers)
  pub starts : ¬ (SpansWithin (spanned whole past whole whole whole whole whole) distinct_numbers)
  pub hazards : ¬ (SpansWithin (spanned whole whole past whole whole whole whole) distinct_numbers)
  pub discounts : ¬ (SpansWithin (spanned whole whole whole past whole whole whole) distinct_numbers)
  pub accruals : ¬ (SpansWithin (spanned whole whole whole whole past whole whole) distinct_numbers)
  pub elapsed : ¬ (SpansWithin (spanned whole whole whole whole whole past whole) distinct_numbers)
  pub coupons : ¬ (SpansWithin (spanned whole whole whole whole whole whole past) distinct_numbers)
  pub all : SpansWithin (spanned whole whole whole whole whole whole whole) distinct_numbers
