-- The books as they are computed.
use Rattle.std.proofs.Common.{refl}
use Rattle.lines.specs.Text.{decimal, signed, field}
use Rattle.totals.specs.Totals.{total_of, all_within}
use Rattle.book.specs.Lines.{line_of}
use Rattle.books.specs.Examples.{Books}

pub books : Books
unfolding decimal signed field total_of all_within line_of
books =
    record {
      nothing = refl;
      one_gain = refl;
      one_loss = refl;
      short_gains = refl;
      short_loses = refl;
      both = refl;
      order_free = refl;
      a_billion = refl;
      units_behind_billions = refl;
      below_a_billion = refl;
      billions_of_billions = refl;
      beyond_64_bits = refl;
      nets_to_nothing = refl;
      least_value_taken = refl;
      many = refl;
      rest_kept = refl;
      value_missing = refl;
      nominal_missing = refl;
      nominal_over = refl;
      nominal_under = refl;
      value_over = refl;
      value_under = refl;
      least_nominal = refl;
      least_value = refl;
      too_many = refl;
      short_room = refl;
      length_before_book = refl;
    }
