-- Decks at the limits, and what they print, byte by byte.
use Rattle.std.specs.Prelude.{ℕ, zero, suc, ◌+◌, List, [], ◌∷◌, ◌++◌}

-- ---- The limits of a sheet, on one name, one step and one slice

-- Numbers of four bytes, low byte first.
abbrev pub none : List ℕ
none = 0x00 ∷ 0x00 ∷ 0x00 ∷ 0x00 ∷ []  -- 0

abbrev pub one : List ℕ
one = 0x01 ∷ 0x00 ∷ 0x00 ∷ 0x00 ∷ []  -- 1

abbrev pub two : List ℕ
two = 0x02 ∷ 0x00 ∷ 0x00 ∷ 0x00 ∷ []  -- 2

abbrev pub below_million : List ℕ
below_million = 0x3F ∷ 0x42 ∷ 0x0F ∷ 0x00 ∷ []  -- 999999

abbrev pub million : List ℕ
million = 0x40 ∷ 0x42 ∷ 0x0F ∷ 0x00 ∷ []  -- 1000000

abbrev pub ten_million : List ℕ
ten_million = 0x80 ∷ 0x96 ∷ 0x98 ∷ 0x00 ∷ []  -- 10000000

abbrev pub over_ten_million : List ℕ
over_ten_million = 0x81 ∷ 0x96 ∷ 0x98 ∷ 0x00 ∷ []  -- 10000001

abbrev pub half_billion : List ℕ
half_billion = 0x00 ∷ 0x65 ∷ 0xCD ∷ 0x1D ∷ []  -- 500000000

abbrev pub below_billion : List ℕ
below_billion = 0xFF ∷ 0xC9 ∷ 0x9A ∷ 0x3B ∷ []  -- 999999999

abbrev pub billion : List ℕ
billion = 0x00 ∷ 0xCA ∷ 0x9A ∷ 0x3B ∷ []  -- 1000000000

abbrev pub over_billion : List ℕ
over_billion = 0x01 ∷ 0xCA ∷ 0x9A ∷ 0x3B ∷ []  -- 1000000001

-- pool 1, 1, 1, recovery, 255; cut 0; cut; hazard; step discount, accrual
abbrev pub single : List ℕ → List ℕ → List ℕ → List ℕ → List ℕ → List ℕ
single recovery cut hazard discount accrual =
    (0x01 ∷ 0x01 ∷ 0x01 ∷ 0x00 ∷ 0x01 ∷ recovery)
    ++ ((0xFF ∷ 0x02 ∷ none) ++ ((0x02 ∷ cut) ++ ((0x03 ∷ hazard) ++ ((0x04 ∷ discount) ++ accrual))))

abbrev pub coupon : List ℕ → List ℕ
coupon x = 0x05 ∷ x

abbrev pub issue_open : List ℕ
issue_open =
    0x06 ∷ 0xFF  -- issue 255
    ∷ 0x08 ∷ []  -- open

abbrev pub opening : List ℕ → List ℕ → List ℕ → List ℕ → List ℕ → List ℕ → List ℕ → List ℕ
opening recovery cut hazard discount accrual x y = single recovery cut hazard discount accrual ++ (coupon x ++ (coupon y ++ issue_open))

-- The digit that open prints.
abbrev pub opens : ℕ → List ℕ
opens digit =
    105 ∷ 115 ∷ 115 ∷ 117 ∷ 101 ∷ 32 ∷ 48 ∷ 10  -- issue 0
    ∷ 111 ∷ 112 ∷ 101 ∷ 110 ∷ 32 ∷ (48 + digit) ∷ 10 ∷ []  -- open and the digit

-- ---- The limit of an elapsed fraction (T-01)

abbrev pub elapsed : List ℕ → List ℕ
elapsed x = 0x0D ∷ x

-- One step: its accrual and its fraction, and the coupons of slice and index.
abbrev pub earning : List ℕ → List ℕ → List ℕ → List ℕ → List ℕ
earning accrual e x y = single none one none one accrual ++ (coupon x ++ (coupon y ++ (elapsed e ++ issue_open)))

-- Two steps: their accruals and their fractions.
-- pool 1, 2, 1, 0, 255; cut 0; cut 1; hazard 0; step 1, accrual; step 1, accrual; coupon 0; coupon 0; elapsed; elapsed
abbrev pub earning_twice : List ℕ → List ℕ → List ℕ → List ℕ → List ℕ
earning_twice a b e f =
    (0x01 ∷ 0x01 ∷ 0x02 ∷ 0x00 ∷ 0x01 ∷ none)
    ++ ((0xFF ∷ 0x02 ∷ none) ++ ((0x02 ∷ one) ++ ((0x03 ∷ none) ++ ((0x04 ∷ one) ++ (a ++ ((0x04 ∷ one) ++ (b ++ (coupon none ++ (coupon none
    ++ (elapsed e ++ (elapsed f ++ issue_open)))))))))))

abbrev pub opens_elapsed : List ℕ
opens_elapsed =
    105 ∷ 115 ∷ 115 ∷ 117 ∷ 101 ∷ 32 ∷ 48 ∷ 10  -- issue 0
    ∷ 111 ∷ 112 ∷ 101 ∷ 110 ∷ 32 ∷ 50 ∷ 49 ∷ 10 ∷ []  -- open 21

-- ---- Ratios: a hazard of B less 1 leaves a default leg of the whole loss, and a premium leg of 1 unit more than after the default

abbrev pub ratio_calls : List ℕ
ratio_calls =
    0x06 ∷ 0xFF  -- issue 255
    ∷ 0x08  -- open
    ∷ 0x09 ∷ 0x01 ∷ 0x00  -- back 1
    ∷ 0x0B ∷ 0x00 ∷ 0x00  -- delta 0 0
    ∷ 0x0B ∷ 0x01 ∷ 0x00 ∷ []  -- delta 1 0

-- Two coupons, of the slice and of the index.
abbrev pub ratios : List ℕ → List ℕ → List ℕ
ratios x y = single half_billion half_billion below_billion billion billion ++ (coupon x ++ (coupon y ++ ratio_calls))

abbrev pub largest_ratio : List ℕ
largest_ratio =
    105 ∷ 115 ∷ 115 ∷ 117 ∷ 101 ∷ 32 ∷ 48 ∷ 10  -- issue 0
    ∷ 111 ∷ 112 ∷ 101 ∷ 110 ∷ 32 ∷ 48 ∷ 10  -- open 0
    ∷ 98 ∷ 97 ∷ 99 ∷ 107 ∷ 32 ∷ 48 ∷ 32 ∷ 48 ∷ 10  -- back 0 0
    ∷ 100 ∷ 101 ∷ 108 ∷ 116 ∷ 97 ∷ 32 ∷ 48 ∷ 32 ∷ 57 ∷ 57 ∷ 57 ∷ 57 ∷ 57 ∷ 57 ∷ 48 ∷ 48 ∷ 48 ∷ 48 ∷ 48 ∷ 48 ∷ 10  -- delta 0 999999000000
    ∷ 100 ∷ 101 ∷ 108 ∷ 116 ∷ 97 ∷ 32 ∷ 48 ∷ 32 ∷ 49 ∷ 48 ∷ 48 ∷ 48 ∷ 48 ∷ 48 ∷ 48 ∷ 10 ∷ []  -- delta 0 1000000

abbrev pub off_scale : List ℕ
off_scale =
    105 ∷ 115 ∷ 115 ∷ 117 ∷ 101 ∷ 32 ∷ 48 ∷ 10  -- issue 0
    ∷ 111 ∷ 112 ∷ 101 ∷ 110 ∷ 32 ∷ 48 ∷ 10  -- open 0
    ∷ 98 ∷ 97 ∷ 99 ∷ 107 ∷ 32 ∷ 48 ∷ 32 ∷ 48 ∷ 10  -- back 0 0
    ∷ 100 ∷ 101 ∷ 108 ∷ 116 ∷ 97 ∷ 32 ∷ 49 ∷ 54 ∷ 10  -- delta 16
    ∷ 100 ∷ 101 ∷ 108 ∷ 116 ∷ 97 ∷ 32 ∷ 48 ∷ 32 ∷ 49 ∷ 48 ∷ 48 ∷ 48 ∷ 48 ∷ 48 ∷ 48 ∷ 10 ∷ []  -- delta 0 1000000

abbrev pub flat_hedge : List ℕ
flat_hedge =
    105 ∷ 115 ∷ 115 ∷ 117 ∷ 101 ∷ 32 ∷ 48 ∷ 10  -- issue 0
    ∷ 111 ∷ 112 ∷ 101 ∷ 110 ∷ 32 ∷ 48 ∷ 10  -- open 0
    ∷ 98 ∷ 97 ∷ 99 ∷ 107 ∷ 32 ∷ 48 ∷ 32 ∷ 48 ∷ 10  -- back 0 0
    ∷ 100 ∷ 101 ∷ 108 ∷ 116 ∷ 97 ∷ 32 ∷ 49 ∷ 53 ∷ 10  -- delta 15
    ∷ 100 ∷ 101 ∷ 108 ∷ 116 ∷ 97 ∷ 32 ∷ 49 ∷ 53 ∷ 10 ∷ []  -- delta 15

-- ---- The limits of 20

abbrev pub eight_slices : List ℕ
eight_slices =
    0x01 ∷ 0x01 ∷ 0x01 ∷ 0x00 ∷ 0x08 ∷ 0x00 ∷ 0x00 ∷ 0x00 ∷ 0x00 ∷ 0x01 ∷ []  -- pool 1 1 8 0 1

abbrev pub second_pool : List ℕ
second_pool =
    100 ∷ 101 ∷ 99 ∷ 107 ∷ 32 ∷ 50 ∷ 48 ∷ 32 ∷ 49 ∷ 48 ∷ 10 ∷ []  -- deck 20 10

abbrev pub pool_cut_short : List ℕ
pool_cut_short =
    0x01 ∷ []  -- a second pool, cut short

abbrev pub second_pool_cut_short : List ℕ
second_pool_cut_short =
    100 ∷ 101 ∷ 99 ∷ 107 ∷ 32 ∷ 49 ∷ 57 ∷ 32 ∷ 49 ∷ 48 ∷ 10 ∷ []  -- deck 19 10

abbrev pub nine_cuts : List ℕ
nine_cuts =
    0x02 ∷ 0x00 ∷ 0x00 ∷ 0x00 ∷ 0x00  -- cut 0
    ∷ 0x02 ∷ 0x00 ∷ 0x00 ∷ 0x00 ∷ 0x01  -- cut 16777216
    ∷ 0x02 ∷ 0x00 ∷ 0x00 ∷ 0x00 ∷ 0x02  -- cut 33554432
    ∷ 0x02 ∷ 0x00 ∷ 0x00 ∷ 0x00 ∷ 0x03  -- cut 50331648
    ∷ 0x02 ∷ 0x00 ∷ 0x00 ∷ 0x00 ∷ 0x04  -- cut 67108864
    ∷ 0x02 ∷ 0x00 ∷ 0x00 ∷ 0x00 ∷ 0x05  -- cut 83886080
    ∷ 0x02 ∷ 0x00 ∷ 0x00 ∷ 0x00 ∷ 0x06  -- cut 100663296
    ∷ 0x02 ∷ 0x00 ∷ 0x00 ∷ 0x00 ∷ 0x07  -- cut 117440512
    ∷ 0x02 ∷ 0x00 ∷ 0x00 ∷ 0x00 ∷ 0x08 ∷ []  -- cut 134217728

abbrev pub tenth_cut : List ℕ
tenth_cut =
    0x02 ∷ 0x00 ∷ 0x00 ∷ 0x00 ∷ 0x09 ∷ []  -- cut 150994944

abbrev pub too_many_cuts : List ℕ
too_many_cuts =
    100 ∷ 101 ∷ 99 ∷ 107 ∷ 32 ∷ 50 ∷ 48 ∷ 32 ∷ 53 ∷ 53 ∷ 10 ∷ []  -- deck 20 55

abbrev pub hazard_and_step : List ℕ
hazard_and_step =
    0x03 ∷ 0x00 ∷ 0x65 ∷ 0xCD ∷ 0x1D  -- hazard 500000000
    ∷ 0x04 ∷ 0x00 ∷ 0xCA ∷ 0x9A ∷ 0x3B ∷ 0x00 ∷ 0xCA ∷ 0x9A ∷ 0x3B ∷ []  -- step 1000000000 1000000000

abbrev pub nine_coupons : List ℕ
nine_coupons =
    0x05 ∷ 0x00 ∷ 0x00 ∷ 0x00 ∷ 0x00  -- coupon 0
    ∷ 0x05 ∷ 0x01 ∷ 0x00 ∷ 0x00 ∷ 0x00  -- coupon 1
    ∷ 0x05 ∷ 0x02 ∷ 0x00 ∷ 0x00 ∷ 0x00  -- coupon 2
    ∷ 0x05 ∷ 0x03 ∷ 0x00 ∷ 0x00 ∷ 0x00  -- coupon 3
    ∷ 0x05 ∷ 0x04 ∷ 0x00 ∷ 0x00 ∷ 0x00  -- coupon 4
    ∷ 0x05 ∷ 0x05 ∷ 0x00 ∷ 0x00 ∷ 0x00  -- coupon 5
    ∷ 0x05 ∷ 0x06 ∷ 0x00 ∷ 0x00 ∷ 0x00  -- coupon 6
    ∷ 0x05 ∷ 0x07 ∷ 0x00 ∷ 0x00 ∷ 0x00  -- coupon 7
    ∷ 0x05 ∷ 0x08 ∷ 0x00 ∷ 0x00 ∷ 0x00 ∷ []  -- coupon 8

abbrev pub tenth_coupon : List ℕ
tenth_coupon =
    0x05 ∷ 0x09 ∷ 0x00 ∷ 0x00 ∷ 0x00 ∷ []  -- coupon 9

abbrev pub too_many_coupons : List ℕ
too_many_coupons =
    100 ∷ 101 ∷ 99 ∷ 107 ∷ 32 ∷ 50 ∷ 48 ∷ 32 ∷ 49 ∷ 49 ∷ 52 ∷ 10 ∷ []  -- deck 20 114

abbrev pub slice_calls : List ℕ
slice_calls =
    0x06 ∷ 0x01  -- issue 1
    ∷ 0x08  -- open
    ∷ 0x09 ∷ 0x01 ∷ 0x00  -- back 1
    ∷ 0x0A ∷ 0x07 ∷ 0x00  -- value 7 0
    ∷ 0x0A ∷ 0x08 ∷ 0x00  -- value 8 0
    ∷ 0x0A ∷ 0x09 ∷ 0x00 ∷ []  -- value 9 0

abbrev pub slice_listing : List ℕ
slice_listing =
    105 ∷ 115 ∷ 115 ∷ 117 ∷ 101 ∷ 32 ∷ 48 ∷ 10  -- issue 0
    ∷ 111 ∷ 112 ∷ 101 ∷ 110 ∷ 32 ∷ 48 ∷ 10  -- open 0
    ∷ 98 ∷ 97 ∷ 99 ∷ 107 ∷ 32 ∷ 48 ∷ 32 ∷ 48 ∷ 10  -- back 0 0
    ∷ 118 ∷ 97 ∷ 108 ∷ 117 ∷ 101 ∷ 32 ∷ 48  -- value 0
    ∷ 32 ∷ 56 ∷ 51 ∷ 56 ∷ 56 ∷ 54 ∷ 48 ∷ 56  -- 8388608
    ∷ 32 ∷ 56 ∷ 51 ∷ 56 ∷ 56 ∷ 54 ∷ 48 ∷ 56  -- 8388608
    ∷ 32 ∷ 56 ∷ 51 ∷ 56 ∷ 56 ∷ 54 ∷ 48 ∷ 50 ∷ 49 ∷ 50 ∷ 55 ∷ 57 ∷ 55 ∷ 52 ∷ 52 ∷ 10  -- 83886021279744
    ∷ 118 ∷ 97 ∷ 108 ∷ 117 ∷ 101 ∷ 32 ∷ 48  -- value 0
    ∷ 32 ∷ 53 ∷ 48 ∷ 48 ∷ 48 ∷ 48 ∷ 48 ∷ 48 ∷ 48 ∷ 48  -- 500000000
    ∷ 32 ∷ 53 ∷ 48 ∷ 48 ∷ 48 ∷ 48 ∷ 48 ∷ 48 ∷ 48 ∷ 48  -- 500000000
    ∷ 32 ∷ 52 ∷ 57 ∷ 57 ∷ 57 ∷ 57 ∷ 57 ∷ 54 ∷ 48 ∷ 48 ∷ 48 ∷ 48 ∷ 48 ∷ 48 ∷ 48 ∷ 48 ∷ 48 ∷ 10  -- 4999996000000000
    ∷ 118 ∷ 97 ∷ 108 ∷ 117 ∷ 101 ∷ 32 ∷ 49 ∷ 52 ∷ 10 ∷ []  -- value 14

-- A command so many times.
unfoldable pub times : ℕ → List ℕ → List ℕ
times zero c = []
times (suc n) c = c ++ times n c

abbrev pub many_names : List ℕ
many_names =
    0x01 ∷ 0x7D ∷ 0x01 ∷ 0x00 ∷ 0x01 ∷ 0x00 ∷ 0x00 ∷ 0x00 ∷ 0x00 ∷ 0x01  -- pool 125 1 1 0 1
    ∷ 0x02 ∷ 0x00 ∷ 0x00 ∷ 0x00 ∷ 0x00  -- cut 0
    ∷ 0x02 ∷ 0x00 ∷ 0xCA ∷ 0x9A ∷ 0x3B ∷ []  -- cut 1000000000

abbrev pub hazard : List ℕ
hazard =
    0x03 ∷ 0x00 ∷ 0x65 ∷ 0xCD ∷ 0x1D ∷ []  -- hazard 500000000

abbrev pub name_calls : List ℕ
name_calls =
    0x04 ∷ 0x00 ∷ 0xCA ∷ 0x9A ∷ 0x3B ∷ 0x00 ∷ 0xCA ∷ 0x9A ∷ 0x3B  -- step 1000000000 1000000000
    ∷ 0x05 ∷ 0x00 ∷ 0x00 ∷ 0x00 ∷ 0x00  -- coupon 0
    ∷ 0x05 ∷ 0x00 ∷ 0x00 ∷ 0x00 ∷ 0x00  -- coupon 0
    ∷ 0x06 ∷ 0x01  -- issue 1
    ∷ 0x08  -- open
    ∷ 0x09 ∷ 0x01 ∷ 0x00  -- back 1
    ∷ 0x0A ∷ 0x01 ∷ 0x00  -- value 1 0
    ∷ 0x0A ∷ 0x01 ∷ 0x7C  -- value 1 124
    ∷ 0x0A ∷ 0x01 ∷ 0x7D  -- value 1 125
    ∷ 0x0A ∷ 0x01 ∷ 0x7E ∷ []  -- value 1 126

abbrev pub name_listing : List ℕ
name_listing =
    105 ∷ 115 ∷ 115 ∷ 117 ∷ 101 ∷ 32 ∷ 48 ∷ 10  -- issue 0
    ∷ 111 ∷ 112 ∷ 101 ∷ 110 ∷ 32 ∷ 48 ∷ 10  -- open 0
    ∷ 98 ∷ 97 ∷ 99 ∷ 107 ∷ 32 ∷ 48 ∷ 32 ∷ 48 ∷ 10  -- back 0 0
    ∷ 118 ∷ 97 ∷ 108 ∷ 117 ∷ 101 ∷ 32 ∷ 48  -- value 0
    ∷ 32 ∷ 52 ∷ 48 ∷ 48 ∷ 48 ∷ 48 ∷ 48 ∷ 48  -- 4000000
    ∷ 32 ∷ 57 ∷ 57 ∷ 54 ∷ 48 ∷ 48 ∷ 48 ∷ 48 ∷ 48 ∷ 48  -- 996000000
    ∷ 32 ∷ 52 ∷ 48 ∷ 48 ∷ 48 ∷ 48 ∷ 48 ∷ 48 ∷ 48 ∷ 48 ∷ 48 ∷ 48 ∷ 48 ∷ 48 ∷ 48 ∷ 10  -- 40000000000000
    ∷ 118 ∷ 97 ∷ 108 ∷ 117 ∷ 101 ∷ 32 ∷ 48  -- value 0
    ∷ 32 ∷ 52 ∷ 48 ∷ 48 ∷ 48 ∷ 48 ∷ 48 ∷ 48  -- 4000000
    ∷ 32 ∷ 52 ∷ 48 ∷ 48 ∷ 48 ∷ 48 ∷ 48 ∷ 48  -- 4000000
    ∷ 32 ∷ 52 ∷ 48 ∷ 48 ∷ 48 ∷ 48 ∷ 48 ∷ 48 ∷ 48 ∷ 48 ∷ 48 ∷ 48 ∷ 48 ∷ 48 ∷ 48 ∷ 10  -- 40000000000000
    ∷ 118 ∷ 97 ∷ 108 ∷ 117 ∷ 101 ∷ 32 ∷ 48  -- value 0
    ∷ 32 ∷ 48  -- 0
    ∷ 32 ∷ 48  -- 0
    ∷ 32 ∷ 48 ∷ 10  -- 0
    ∷ 118 ∷ 97 ∷ 108 ∷ 117 ∷ 101 ∷ 32 ∷ 49 ∷ 52 ∷ 10 ∷ []  -- value 14

abbrev pub too_many_hazards : List ℕ
too_many_hazards =
    100 ∷ 101 ∷ 99 ∷ 107 ∷ 32 ∷ 50 ∷ 48 ∷ 32 ∷ 54 ∷ 52 ∷ 53 ∷ 10 ∷ []  -- deck 20 645

abbrev pub step : List ℕ
step =
    0x04 ∷ 0x00 ∷ 0xCA ∷ 0x9A ∷ 0x3B ∷ 0x01 ∷ 0x00 ∷ 0x00 ∷ 0x00 ∷ []  -- step 1000000000 1

abbrev pub issue_seven : List ℕ
issue_seven =
    0x06 ∷ 0x07 ∷ []  -- issue 7

abbrev pub issue_line : List ℕ
issue_line =
    105 ∷ 115 ∷ 115 ∷ 117 ∷ 101 ∷ 32 ∷ 48 ∷ 10 ∷ []  -- issue 0

abbrev pub too_many_steps : List ℕ
too_many_steps =
    100 ∷ 101 ∷ 99 ∷ 107 ∷ 32 ∷ 50 ∷ 48 ∷ 32 ∷ 51 ∷ 50 ∷ 56 ∷ 53 ∷ 48 ∷ 10 ∷ []  -- deck 20 32850

abbrev pub fraction : List ℕ
fraction =
    0x0D ∷ 0x01 ∷ 0x00 ∷ 0x00 ∷ 0x00 ∷ []  -- elapsed 1

abbrev pub too_many_fractions : List ℕ
too_many_fractions =
    100 ∷ 101 ∷ 99 ∷ 107 ∷ 32 ∷ 50 ∷ 48 ∷ 32 ∷ 49 ∷ 56 ∷ 50 ∷ 53 ∷ 48 ∷ 10 ∷ []  -- deck 20 18250

abbrev pub unknown_first : List ℕ
unknown_first =
    100 ∷ 101 ∷ 99 ∷ 107 ∷ 32 ∷ 49 ∷ 56 ∷ 32 ∷ 48 ∷ 10 ∷ []  -- deck 18 0

abbrev pub oversized : List ℕ
oversized =
    100 ∷ 101 ∷ 99 ∷ 107 ∷ 32 ∷ 50 ∷ 48 ∷ 32 ∷ 54 ∷ 53 ∷ 53 ∷ 51 ∷ 54 ∷ 10 ∷ []  -- deck 20 65536

-- ---- The largest rows: 125 names in eight slices, each default certain

abbrev pub largest_pool : List ℕ
largest_pool =
    0x01 ∷ 0x7D ∷ 0x01 ∷ 0x00 ∷ 0x08 ∷ 0x00 ∷ 0x00 ∷ 0x00 ∷ 0x00 ∷ 0x01 ∷ []  -- pool 125 1 8 0 1

abbrev pub certain : List ℕ
certain =
    0x03 ∷ 0x00 ∷ 0xCA ∷ 0x9A ∷ 0x3B ∷ []  -- hazard 1000000000

abbrev pub last_step : List ℕ
last_step =
    0x04 ∷ 0x00 ∷ 0xCA ∷ 0x9A ∷ 0x3B ∷ 0x00 ∷ 0xCA ∷ 0x9A ∷ 0x3B ∷ []  -- step 1000000000 1000000000

abbrev pub largest_calls : List ℕ
largest_calls =
    0x06 ∷ 0x01  -- issue 1
    ∷ 0x08  -- open
    ∷ 0x0C ∷ 0x01 ∷ 0x00 ∷ 0x01  -- forward 1 1
    ∷ 0x0C ∷ 0x01 ∷ 0x00 ∷ 0x7D  -- forward 1 125
    ∷ 0x0C ∷ 0x01 ∷ 0x00 ∷ 0x7E  -- forward 1 126
    ∷ 0x0C ∷ 0x02 ∷ 0x00 ∷ 0x7E ∷ []  -- forward 2 126

abbrev pub largest_listing : List ℕ
largest_listing =
    105 ∷ 115 ∷ 115 ∷ 117 ∷ 101 ∷ 32 ∷ 48 ∷ 10  -- issue 0
    ∷ 111 ∷ 112 ∷ 101 ∷ 110 ∷ 32 ∷ 48 ∷ 10  -- open 0
    ∷ 102 ∷ 111 ∷ 114 ∷ 119 ∷ 97 ∷ 114 ∷ 100 ∷ 32 ∷ 48 ∷ 32 ∷ 49 ∷ 48 ∷ 48 ∷ 48 ∷ 48 ∷ 48 ∷ 48 ∷ 48 ∷ 48 ∷ 48 ∷ 10  -- forward 0 1000000000
    ∷ 102 ∷ 111 ∷ 114 ∷ 119 ∷ 97 ∷ 114 ∷ 100 ∷ 32 ∷ 48 ∷ 32 ∷ 48 ∷ 10  -- forward 0 0
    ∷ 102 ∷ 111 ∷ 114 ∷ 119 ∷ 97 ∷ 114 ∷ 100 ∷ 32 ∷ 49 ∷ 52 ∷ 10  -- forward 14
    ∷ 102 ∷ 111 ∷ 114 ∷ 119 ∷ 97 ∷ 114 ∷ 100 ∷ 32 ∷ 49 ∷ 51 ∷ 10 ∷ []  -- forward 13

-- ---- The limits of a pool: names, the two bytes of the steps, slices

-- pool n m r 0 255
abbrev pub pool : ℕ → ℕ → ℕ → ℕ → List ℕ
pool n low high r = 0x01 ∷ n ∷ low ∷ high ∷ r ∷ 0x00 ∷ 0x00 ∷ 0x00 ∷ 0x00 ∷ 0xFF ∷ []
