-- Net value, jump and hedge ratio, whole numbers of either sign (document 01, 'Walking back' and 'Hedge ratio').
use Rattle.std.specs.Prelude.{Bool, true, false, not, cond, ◌≡◌, ℕ, ◌+◌, ◌*◌, ◌/◌, ◌≤◌, ◌<◌, eqb, leb, ℤ, pos, negsuc, neg_ℤ, nat_abs, ◌+ℤ◌, ◌-ℤ◌, ◌*ℤ◌}
use Rattle.std.specs.declared.result.Result.{Result}
use Rattle.std.specs.declared.result.Result.TheVariants.{Ok, Err}
use Rattle.cash.specs.Units.{B}
use Rattle.hedges.specs.declared.Node.{Node}
use Rattle.hedges.specs.declared.NoRatio.{NoRatio}
use Rattle.hedges.specs.declared.NoRatio.TheVariants.{Flat, OffScale}

-- The net value W of a default leg D and a premium leg A.
unfoldable pub net_value : ℕ → ℕ → ℕ → ℤ
net_value d coupon a = pos (10_000_000 * d) -ℤ pos (coupon * a)

-- How far a figure goes up, or down.
unfoldable pub change_of : ℕ → ℕ → ℤ
change_of before after = pos after -ℤ pos before

-- The jump J of the net value by a default, from the node here to the node with one default more.
unfoldable pub jump_of : ℕ → Node → Node → ℤ
jump_of coupon here next =
    pos 10_000_000 *ℤ (change_of here.loss next.loss +ℤ change_of here.default next.default)
    -ℤ pos coupon *ℤ change_of here.premium next.premium

-- The figures that a jump takes. Premium legs keep to a ceiling of 10 × B + 7,425, and may grow to 18 × B within 64 bits.
pub record Figures (x : Node) : Type 0 where
  pub loss : x.loss ≤ B
  pub default : x.default ≤ B
  pub premium : x.premium ≤ 18 * B

abbrev pub negative : ℤ → Bool
negative (pos n) = false
negative (negsuc n) = true

-- Whether just one of two holds.
abbrev pub unlike : Bool → Bool → Bool
unlike true b = not b
unlike false b = b

-- n, or -n where the sign is true
unfoldable pub with_sign : Bool → ℕ → ℤ
with_sign true n = neg_ℤ (pos n)
with_sign false n = pos n

-- s / d in millionths, to the nearest, a half upwards
unfoldable pub millionths : ℕ → ℕ → ℕ
millionths s d = (2 * (s * 1_000_000) + d) / (2 * d)

-- The ratio of two jumps in millionths: its size by `millionths`, so that a half goes away from zero, and its sign.
unfoldable pub ratio_of : ℤ → ℤ → ℤ
ratio_of tranche index = with_sign (unlike (negative tranche) (negative index)) (millionths (nat_abs tranche) (nat_abs index))

-- A hedge ratio in millionths, or why there is none.
abbrev pub Hedge : Type 0
Hedge = Result ℤ NoRatio

-- The hedge ratio: refused where the index does not jump, or the tranche jumps at least 1,000,000 times as far.
unfoldable pub hedge_of : ℤ → ℤ → Hedge
hedge_of tranche index =
    cond (eqb (nat_abs index) 0) (Err Flat)
    (cond (leb (1_000_000 * nat_abs index) (nat_abs tranche)) (Err OffScale)
    (Ok (ratio_of tranche index)))

-- Document 01's number of each answer: 0 for a ratio, 15 flat hedge, 16 off scale.
abbrev pub hedge_number : Hedge → ℕ
hedge_number (Ok z) = 0
hedge_number (Err Flat) = 15
hedge_number (Err OffScale) = 16

-- What document 01 says of an answer, as plain propositions.
pub record Hedges (tranche index : ℤ) (answer : Hedge) : Type 0 where
  pub flat : nat_abs index ≡ 0 → hedge_number answer ≡ 15
  pub off_scale : 0 < nat_abs index → 1_000_000 * nat_abs index ≤ nat_abs tranche → hedge_number answer ≡ 16
  pub on_scale : 0 < nat_abs index → nat_abs tranche < 1_000_000 * nat_abs index → answer ≡ Ok (ratio_of tranche index)
