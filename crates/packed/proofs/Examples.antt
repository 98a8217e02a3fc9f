-- The images of specs/Examples.antt, by computation.
use Rattle.std.proofs.Common.{refl}
use Rattle.images.specs.Images.{two_digits, packed_value, above_nine, digits_bad, digit_pair, image_of}
use Rattle.packed.specs.Examples.{Images}

pub images : Images
unfolding two_digits packed_value digit_pair image_of above_nine digits_bad
images =
    record {
      nothing = refl;
      percent = refl;
      each_place = refl;
      nines = refl;
      most = refl;
      one_more = refl;
      highest = refl;
      ten_low = refl;
      ten_high = refl;
      digit_before_limit = refl;
      three_bytes = refl;
      length_before_digit = refl;
      nothing_written = refl;
      each_place_written = refl;
      most_written = refl;
      one_more_written = refl;
      length_before_limit = refl;
    }
