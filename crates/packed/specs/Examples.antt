-- Images written out, with what is read and written. Proved in proofs/Examples.antt, by computation.
use Rattle.std.specs.Prelude.{ℕ, ◌≡◌, [], ◌∷◌}
use Rattle.packed.specs.Promise.{ReadResult, WriteResult, accepts, refuses, ours}

abbrev pub four_read : ℕ → ℕ → ℕ → ℕ → ReadResult
four_read a b c d = ours.read (a ∷ b ∷ c ∷ d ∷ [])

-- Over four bytes FF.
abbrev pub written_over : ℕ → WriteResult
written_over coupon = ours.write (0xFF ∷ 0xFF ∷ 0xFF ∷ 0xFF ∷ []) coupon

abbrev pub leaves : ℕ → ℕ → ℕ → ℕ → WriteResult
leaves a b c d = record { number = 0; left = a ∷ b ∷ c ∷ d ∷ [] }

pub record Images : Type 0 where
  pub nothing : four_read 0x00 0x00 0x00 0x00 ≡ accepts 0
  pub percent : four_read 0x00 0x10 0x00 0x00 ≡ accepts 100_000
  pub each_place : four_read 0x01 0x23 0x45 0x67 ≡ accepts 1_234_567
  pub nines : four_read 0x09 0x99 0x99 0x99 ≡ accepts 9_999_999
  pub most : four_read 0x10 0x00 0x00 0x00 ≡ accepts 10_000_000
  pub one_more : four_read 0x10 0x00 0x00 0x01 ≡ refuses 8
  pub highest : four_read 0x99 0x99 0x99 0x99 ≡ refuses 8
  pub ten_low : four_read 0x00 0x00 0x00 0x0A ≡ refuses 30
  pub ten_high : four_read 0xA0 0x00 0x00 0x00 ≡ refuses 30
  pub digit_before_limit : four_read 0x99 0x99 0x99 0x9A ≡ refuses 30
  pub three_bytes : ours.read (0x01 ∷ 0x00 ∷ 0x00 ∷ []) ≡ refuses 2
  pub length_before_digit : ours.read (0xFF ∷ 0xFF ∷ 0xFF ∷ 0xFF ∷ 0xFF ∷ []) ≡ refuses 2
  pub nothing_written : written_over 0 ≡ leaves 0x00 0x00 0x00 0x00
  pub each_place_written : written_over 1_234_567 ≡ leaves 0x01 0x23 0x45 0x67
  pub most_written : written_over 10_000_000 ≡ leaves 0x10 0x00 0x00 0x00
  pub one_more_written : written_over 10_000_001 ≡ record { number = 8; left = 0xFF ∷ 0xFF ∷ 0xFF ∷ 0xFF ∷ [] }
  pub length_before_limit : ours.write (0xFF ∷ []) 10_000_001 ≡ record { number = 2; left = 0xFF ∷ [] }
