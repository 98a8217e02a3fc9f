-- Worked figures of the definitions, by computation: the net values and the ratio of document 01's deck, and edges of the ratio.
use Rattle.std.proofs.Common.{◌≡◌, refl, pos, negsuc}
use Rattle.hedges.specs.declared.Node.{Node}
use Rattle.std.specs.declared.result.Result.TheVariants.{Ok, Err}
use Rattle.hedges.specs.declared.NoRatio.TheVariants.{Flat, OffScale}
use Rattle.hedges.specs.Hedges.{with_sign, millionths, net_value, change_of, jump_of, ratio_of, hedge_of}

-- the deck's tranche and index at the root, with no default and with one
tranche_0 : Node
tranche_0 = record { loss = 0; default = 54_300_000; premium = 218_700_000 }

tranche_1 : Node
tranche_1 = record { loss = 300_000_000; default = 0; premium = 0 }

index_0 : Node
index_0 = record { loss = 0; default = 59_700_000; premium = 805_500_000 }

index_1 : Node
index_1 = record { loss = 300_000_000; default = 103_200_000; premium = 288_000_000 }

record Deck : Type 0 where
  tranche : net_value 54_300_000 1_000_000 218_700_000 ≡ pos 324_300_000_000_000
  index : net_value 59_700_000 500_000 805_500_000 ≡ pos 194_250_000_000_000
  delta : hedge_of (jump_of 1_000_000 tranche_0 tranche_1) (jump_of 500_000 index_0 index_1) ≡ Ok (pos 724_386)

deck : Deck
unfolding net_value jump_of change_of tranche_0 tranche_1 index_0 index_1 hedge_of ratio_of with_sign millionths
deck = record { tranche = refl; index = refl; delta = refl }

record Ratios : Type 0 where
  half_up : hedge_of (pos 1) (pos 2_000_000) ≡ Ok (pos 1)
  half_away : hedge_of (negsuc 0) (pos 2_000_000) ≡ Ok (negsuc 0)
  under_half : hedge_of (negsuc 0) (pos 2_000_001) ≡ Ok (pos 0)
  both_negative : hedge_of (negsuc 1) (negsuc 2) ≡ Ok (pos 666_667)
  on_scale : hedge_of (pos 999_999) (pos 1) ≡ Ok (pos 999_999_000_000)
  off_scale : hedge_of (negsuc 999_999) (pos 1) ≡ Err OffScale
  flat : hedge_of (pos 1) (pos 0) ≡ Err Flat

ratios : Ratios
unfolding hedge_of ratio_of with_sign millionths
ratios =
    record {
      half_up = refl;
      half_away = refl;
      under_half = refl;
      both_negative = refl;
      on_scale = refl;
      off_scale = refl;
      flat = refl;
    }
