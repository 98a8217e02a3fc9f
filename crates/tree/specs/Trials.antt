-- Trial entries as facts of the definitions: the starred ones of document 01, and figures beside them. Proved in proofs/Acceptance.antt.
use Rattle.std.specs.Prelude.{ℕ, ◌*◌, ◌^◌, ◌≡◌, [], ◌∷◌}
use Rattle.cash.specs.Units.{B, half}
use Rattle.cash.specs.Near.{Near}
use Rattle.sheet.specs.Terms.{Terms}
use Rattle.tree.specs.Sheet.{hazard_of, tree_of, pool_loss_of, outstanding_of, premium_of, D, A, exact_d, exact_a, premium_halves, premium_most}
use Rattle.tree.specs.Backward.{back_from}
use Rattle.tree.specs.Forward.{distribution, probability}
use Rattle.tree.specs.Statements.{DefaultsAdd, PremiumsAdd, IndexPremiumsAdd, ErrorsWithin}

-- The pool of 125 with two tranches. What is outstanding rests on no hazard, discount or accrual.
abbrev pub wide : Terms
wide =
    record {
      names = 125;
      steps = 0;
      tranches = 2;
      recovery = 400_000_000;
      attachments = 0 ∷ 30_000_000 ∷ 60_000_000 ∷ [];
      starts = 1 ∷ [];
      hazards = [];
      discounts = [];
      accruals = [];
      elapsed = [];
    }

-- The deck of document 01.
abbrev pub worked : Terms
worked =
    record {
      names = 2;
      steps = 2;
      tranches = 1;
      recovery = 400_000_000;
      attachments = 0 ∷ 300_000_000 ∷ [];
      starts = 1 ∷ [];
      hazards = 100_000_000 ∷ 200_000_000 ∷ [];
      discounts = 1_000_000_000 ∷ 900_000_000 ∷ [];
      accruals = 0 ∷ 1_000_000_000 ∷ [];
      elapsed = 0 ∷ 0 ∷ [];
    }

-- A pool of three, in which little divides.
abbrev pub uneven_pool : Terms
uneven_pool =
    record {
      names = 3;
      steps = 2;
      tranches = 1;
      recovery = 350_000_000;
      attachments = 0 ∷ 300_000_000 ∷ [];
      starts = 1 ∷ [];
      hazards = 123_456_789 ∷ 234_567_891 ∷ 345_678_912 ∷ [];
      discounts = 987_654_321 ∷ 976_543_210 ∷ [];
      accruals = 250_000_000 ∷ 253_000_000 ∷ [];
      elapsed = 0 ∷ 0 ∷ [];
    }

-- Eight tranches of one unit, each leg of each worth half a unit or less and rounded up to 1.
abbrev pub units : Terms
units =
    record {
      names = 1;
      steps = 1;
      tranches = 8;
      recovery = 999_999_992;
      attachments = 0 ∷ 1 ∷ 2 ∷ 3 ∷ 4 ∷ 5 ∷ 6 ∷ 7 ∷ 8 ∷ [];
      starts = 1 ∷ [];
      hazards = 500_000_000 ∷ [];
      discounts = 1_000_000_000 ∷ [];
      accruals = 500_000_000 ∷ [];
      elapsed = 0 ∷ [];
    }

-- Two names whose distribution gathers more than a unit of errors a step.
abbrev pub drifting : Terms
drifting =
    record {
      names = 2;
      steps = 3;
      tranches = 1;
      recovery = 400_000_000;
      attachments = 0 ∷ 300_000_000 ∷ [];
      starts = 1 ∷ [];
      hazards = 300_000_009 ∷ 48 ∷ [];
      discounts = 1_000_000_000 ∷ 1_000_000_000 ∷ 1_000_000_000 ∷ [];
      accruals = 0 ∷ 0 ∷ 1_000_000_000 ∷ [];
      elapsed = 0 ∷ 0 ∷ 0 ∷ [];
    }

-- Three names that default for sure, in two tranches from 0 to B that meet at a point: a step shows what is outstanding after it, unit for unit.
abbrev pub topped_pool : ℕ → ℕ → Terms
topped_pool recovery middle =
    record {
      names = 3;
      steps = 1;
      tranches = 2;
      recovery = recovery;
      attachments = 0 ∷ middle ∷ 1_000_000_000 ∷ [];
      starts = 1 ∷ [];
      hazards = 1_000_000_000 ∷ 1_000_000_000 ∷ 1_000_000_000 ∷ [];
      discounts = 1_000_000_000 ∷ [];
      accruals = 1_000_000_000 ∷ [];
      elapsed = 0 ∷ [];
    }

-- Eight tranches of the whole pool, of which seven are of a few units, with premiums of half a year.
abbrev pub slivers : Terms
slivers =
    record {
      names = 1;
      steps = 1;
      tranches = 8;
      recovery = 500_000_000;
      attachments = 0 ∷ 5 ∷ 6 ∷ 8 ∷ 11 ∷ 12 ∷ 13 ∷ 14 ∷ 1_000_000_000 ∷ [];
      starts = 1 ∷ [];
      hazards = 500_000_000 ∷ [];
      discounts = 1_000_000_000 ∷ [];
      accruals = 500_000_000 ∷ [];
      elapsed = 0 ∷ [];
    }

-- Two names over three steps, of which the last is a period of its own.
abbrev pub two_periods : Terms
two_periods =
    record {
      names = 2;
      steps = 3;
      tranches = 1;
      recovery = 0;
      attachments = 0 ∷ 1_000_000_000 ∷ [];
      starts = 1 ∷ 3 ∷ [];
      hazards = 100_000_000 ∷ 200_000_000 ∷ 300_000_000 ∷ 400_000_000 ∷ [];
      discounts = 1_000_000_000 ∷ 1_000_000_000 ∷ 1_000_000_000 ∷ [];
      accruals = 0 ∷ 0 ∷ 1_000_000_000 ∷ [];
      elapsed = 0 ∷ 0 ∷ 0 ∷ [];
    }

-- The uneven pool, and the deck of document 01, with premium earned up to a default. (T-01)
abbrev pub uneven_earning : Terms
uneven_earning =
    record {
      names = 3;
      steps = 2;
      tranches = 1;
      recovery = 350_000_000;
      attachments = 0 ∷ 300_000_000 ∷ [];
      starts = 1 ∷ [];
      hazards = 123_456_789 ∷ 234_567_891 ∷ 345_678_912 ∷ [];
      discounts = 987_654_321 ∷ 976_543_210 ∷ [];
      accruals = 250_000_000 ∷ 253_000_000 ∷ [];
      elapsed = 123_456_789 ∷ 98_765_432 ∷ [];
    }

abbrev pub worked_earning : Terms
worked_earning =
    record {
      names = 2;
      steps = 2;
      tranches = 1;
      recovery = 400_000_000;
      attachments = 0 ∷ 300_000_000 ∷ [];
      starts = 1 ∷ [];
      hazards = 100_000_000 ∷ 200_000_000 ∷ [];
      discounts = 1_000_000_000 ∷ 900_000_000 ∷ [];
      accruals = 0 ∷ 1_000_000_000 ∷ [];
      elapsed = 500_000_000 ∷ 750_000_000 ∷ [];
    }

-- A step whose four roundings each add nearly half a unit: the premium of its date, that of a default, the chance and the discount.
abbrev pub four_halves : Terms
four_halves =
    record {
      names = 2;
      steps = 1;
      tranches = 1;
      recovery = 0;
      attachments = 0 ∷ 1_000_000_000 ∷ [];
      starts = 1 ∷ [];
      hazards = 999_999_998 ∷ 0 ∷ [];
      discounts = 999_999_998 ∷ [];
      accruals = 999_999_999 ∷ [];
      elapsed = 499_999_997 ∷ [];
    }

-- A name that defaults for sure and pays a year's premium as it does.
abbrev pub sure_default : Terms
sure_default =
    record {
      names = 1;
      steps = 2;
      tranches = 1;
      recovery = 0;
      attachments = 0 ∷ 1_000_000_000 ∷ [];
      starts = 1 ∷ [];
      hazards = 1_000_000_000 ∷ [];
      discounts = 1_000_000_000 ∷ 1_000_000_000 ∷ [];
      accruals = 0 ∷ 1_000_000_000 ∷ [];
      elapsed = 1_000_000_000 ∷ 0 ∷ [];
    }

-- The starred entries. The deck's figures stand at its root; tranche 1 of it is the index.
pub record Starred : Type 0 where
  pub first_at_6 : outstanding_of wide 0 6 ≡ 1_200_000
  pub first_at_7 : outstanding_of wide 0 7 ≡ 0
  pub second_at_6 : outstanding_of wide 1 6 ≡ 30_000_000
  pub second_at_7 : outstanding_of wide 1 7 ≡ 26_400_000
  pub second_at_12 : outstanding_of wide 1 12 ≡ 2_400_000
  pub second_at_13 : outstanding_of wide 1 13 ≡ 0
  pub half_down_to_0 : half 499_999_999 ≡ 0
  pub half_up_to_1 : half 500_000_000 ≡ 1
  pub half_down_to_1 : half 1_499_999_999 ≡ 1
  pub half_up_to_2 : half 1_500_000_000 ≡ 2
  pub tranche_default : D worked 0 2 0 0 ≡ 54_300_000
  pub tranche_premium : A worked 0 2 0 0 ≡ 218_700_000
  pub index_default : D worked 1 2 0 0 ≡ 59_700_000
  pub index_premium : A worked 1 2 0 0 ≡ 805_500_000
  pub row_at_0 : distribution (tree_of worked) 2 0 ≡ 810_000_000
  pub row_at_1 : distribution (tree_of worked) 2 1 ≡ 170_000_000
  pub row_at_2 : distribution (tree_of worked) 2 2 ≡ 20_000_000

-- The exact values of the deck, over B ^ 5, and its exact probabilities, over B ^ 2: all are whole units.
-- Beside them the uneven pool's index, whose are not.
pub record Exactly : Type 0 where
  pub tranche_default : exact_d worked 0 2 0 0 ≡ 54_300_000 * B ^ 5
  pub tranche_premium : exact_a worked 0 2 0 0 ≡ 218_700_000 * B ^ 5
  pub index_default : exact_d worked 1 2 0 0 ≡ 59_700_000 * B ^ 5
  pub index_premium : exact_a worked 1 2 0 0 ≡ 805_500_000 * B ^ 5
  pub chance_of_0 : probability (tree_of worked) 2 0 ≡ 810_000_000 * B
  pub chance_of_1 : probability (tree_of worked) 2 1 ≡ 170_000_000 * B
  pub chance_of_2 : probability (tree_of worked) 2 2 ≡ 20_000_000 * B
  pub uneven_default : exact_d uneven_pool 1 2 0 0 ≡ 55_084_334_121_420_493_856_152_191_186_177_138_024_252_270_000_000_000
  pub uneven_premium : exact_a uneven_pool 1 2 0 0 ≡ 459_568_457_408_739_658_030_138_522_708_965_747_413_728_351_380_000_000

-- The uneven pool: loss and recovery are rounded down, so what is outstanding may be nearly two units high.
-- One rounding in place of two would end the four node values in 4, 2, 2 and 2.
pub record Roundings : Type 0 where
  pub loss_at_1 : pool_loss_of uneven_pool 1 ≡ 216_666_666
  pub loss_at_2 : pool_loss_of uneven_pool 2 ≡ 433_333_333
  pub index_at_1 : outstanding_of uneven_pool 1 1 ≡ 666_666_668
  pub index_at_2 : outstanding_of uneven_pool 1 2 ≡ 333_333_334
  pub premium_after_1 : A uneven_pool 0 1 1 0 ≡ 67_510_883
  pub premium_after_2 : A uneven_pool 0 2 0 0 ≡ 127_836_600
  pub default_after_1 : D uneven_pool 1 1 1 2 ≡ 73_140_253
  pub default_after_2 : D uneven_pool 1 2 0 2 ≡ 121_238_823
  pub index_premium : A uneven_pool 1 2 0 0 ≡ 459_568_458
  pub row_at_0 : distribution (tree_of uneven_pool) 2 0 ≡ 768_328_001
  pub row_at_1 : distribution (tree_of uneven_pool) 2 1 ≡ 202_713_000
  pub row_at_2 : distribution (tree_of uneven_pool) 2 2 ≡ 28_958_999

-- Recoveries off the top, of a pool of three by the count: tranche 0, tranche 1 and the index, in which the tranches add.
-- At a recovery of B a default costs nothing, and takes the whole name off the top: where the tranches meet in the middle, the second default
-- reaches into the one below.
pub record Recoveries : Type 0 where
  pub first_at_1 : outstanding_of (topped_pool 350_000_000 300_000_000) 0 1 ≡ 83_333_334
  pub second_at_1 : outstanding_of (topped_pool 350_000_000 300_000_000) 1 1 ≡ 583_333_334
  pub index_at_1 : outstanding_of (topped_pool 350_000_000 300_000_000) 2 1 ≡ 666_666_668
  pub first_at_2 : outstanding_of (topped_pool 350_000_000 300_000_000) 0 2 ≡ 0
  pub second_at_2 : outstanding_of (topped_pool 350_000_000 300_000_000) 1 2 ≡ 333_333_334
  pub index_at_2 : outstanding_of (topped_pool 350_000_000 300_000_000) 2 2 ≡ 333_333_334
  pub second_at_3 : outstanding_of (topped_pool 350_000_000 300_000_000) 1 3 ≡ 0
  pub index_at_3 : outstanding_of (topped_pool 350_000_000 300_000_000) 2 3 ≡ 0
  pub premium : A (topped_pool 350_000_000 300_000_000) 1 1 0 0 ≡ 583_333_334
  pub none_first_at_1 : outstanding_of (topped_pool 0 300_000_000) 0 1 ≡ 0
  pub none_second_at_1 : outstanding_of (topped_pool 0 300_000_000) 1 1 ≡ 666_666_667
  pub none_index_at_1 : outstanding_of (topped_pool 0 300_000_000) 2 1 ≡ 666_666_667
  pub all_first_at_2 : outstanding_of (topped_pool 1_000_000_000 300_000_000) 0 2 ≡ 300_000_000
  pub all_second_at_2 : outstanding_of (topped_pool 1_000_000_000 300_000_000) 1 2 ≡ 33_333_334
  pub all_index_at_2 : outstanding_of (topped_pool 1_000_000_000 300_000_000) 2 2 ≡ 333_333_334
  pub all_first_at_3 : outstanding_of (topped_pool 1_000_000_000 300_000_000) 0 3 ≡ 0
  pub below_the_top : outstanding_of (topped_pool 1_000_000_000 500_000_000) 0 2 ≡ 333_333_334
  pub all_default : D (topped_pool 1_000_000_000 300_000_000) 2 1 0 0 ≡ 0

-- What is owed between tranches, and of a distribution, where less would be false: the D of the eight units add to 8 and their A to 8,
-- beside 4 and 2 of the one that spans them; the A of the slivers add to 5 more than the index's; an A lies nearly 2 units from its exact value after
-- one step; and the errors of three steps total 3.3 units.
pub record Bounds : Type 0 where
  pub defaults_add : DefaultsAdd units 1 0 0
  pub premiums_add : PremiumsAdd units 1 0 0
  pub index_premiums_add : IndexPremiumsAdd slivers 1 0 0
  pub premium_distance : Near (premium_halves four_halves 1 0 * B ^ 3) (2 * (A four_halves 1 1 0 0 * B ^ 3)) (2 * exact_a four_halves 1 1 0 0)
  pub errors : ErrorsWithin drifting 3

-- Hazards on both sides of the step at which the second period starts, and what comes of them. From the last count no default comes, though the
-- second period's entry stands next in the list.
pub record PeriodsCrossed : Type 0 where
  pub before_start : hazard_of two_periods 2 0 ≡ 100_000_000
  pub at_start : hazard_of two_periods 3 0 ≡ 300_000_000
  pub second_at_start : hazard_of two_periods 3 1 ≡ 400_000_000
  pub last_count : hazard_of two_periods 2 2 ≡ 0
  pub default_at_2 : D two_periods 1 1 2 0 ≡ 150_000_000
  pub default_at_1 : D two_periods 1 2 1 0 ≡ 205_000_000
  pub default_at_0 : D two_periods 1 3 0 0 ≡ 260_500_000
  pub premium_at_0 : A two_periods 1 3 0 0 ≡ 739_500_000
  pub row_after_2 : distribution (tree_of two_periods) 2 1 ≡ 170_000_000
  pub row_after_3 : distribution (tree_of two_periods) 3 1 ≡ 345_000_000
  pub chance_after_3 : probability (tree_of two_periods) 3 1 ≡ 345_000_000 * B * B
  pub exact_default : exact_d two_periods 1 3 0 0 ≡ 260_500_000 * B ^ 7

-- Premium earned up to a default, at nodes one and two steps before the end; tranche 1 is the index. The deck's are whole units, so exact.
-- Rounded together with the premium of its date, the last would end in 8.
pub record ElapsedPaid : Type 0 where
  pub tranche_after_1 : A uneven_earning 0 1 1 0 ≡ 70_090_787
  pub tranche_after_2 : A uneven_earning 0 2 0 0 ≡ 133_561_534
  pub index_after_1 : A uneven_earning 1 1 1 2 ≡ 65_000_137
  pub index_after_2 : A uneven_earning 1 2 0 0 ≡ 468_941_908
  pub exact_index : exact_a uneven_earning 1 2 0 0 ≡ 468_941_907_423_345_222_438_654_436_675_303_971_402_401_819_227_061_280
  pub worked_tranche : A worked_earning 0 2 0 0 ≡ 251_925_000
  pub worked_index : A worked_earning 1 2 0 0 ≡ 867_625_000
  pub exact_worked : exact_a worked_earning 0 2 0 0 ≡ 251_925_000 * B ^ 5
  pub rounded_apart : A four_halves 1 1 0 0 ≡ 749_999_999

-- The ceiling of the premium leg holds on every walk, but a step back from other rows may leave it: here from B + 2 at every count of step 1, where
-- the ceilings are B + 3 and B + 2, to 2 × B + 2, over B + 5.
pub record CeilingLeft : Type 0 where
  pub first : premium_most sure_default 1 0 ≡ 1_000_000_003
  pub second : premium_most sure_default 1 1 ≡ 1_000_000_002
  pub walked : back_from (tree_of sure_default) (premium_of sure_default 1).rounded (λ k. 1_000_000_002) 1 0 0 ≡ 2_000_000_002
  pub left : premium_most sure_default 0 0 ≡ 1_000_000_005

-- The half units of distances: two for each step, one for each premium date and one for each fraction that is not 0.
pub record Distances : Type 0 where
  pub none : premium_halves worked 2 0 ≡ 5
  pub both : premium_halves worked_earning 2 0 ≡ 7
  pub date_and_fraction : premium_halves worked_earning 1 1 ≡ 4
  pub fraction_alone : premium_halves sure_default 1 0 ≡ 3
  pub date_alone : premium_halves sure_default 1 1 ≡ 3
  pub apart : premium_halves sure_default 2 0 ≡ 6
