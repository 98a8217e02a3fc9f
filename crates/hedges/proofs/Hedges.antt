-- The hedge ratio is answered as document 01's table says, and its millionths are the nearest.
use Rattle.std.proofs.Common.{ap, ℕ, ◌+◌, ◌*◌, ◌<◌, div-add-mod', mod-lt, le-div_iff_mul-le, arith, ℤ}
use Rattle.cash.specs.Near.{Near}
use Rattle.hedges.specs.Hedges.{Hedges, hedge_of, hedge_number, millionths}
use Rattle.hedges.proofs.Long.{flat, off_scale, answered}

pub hedges : (tranche index : ℤ) → Hedges tranche index (hedge_of tranche index)
hedges tranche index =
    record {
      flat = λ e. ap hedge_number (flat tranche index e);
      off_scale = λ p h. ap hedge_number (off_scale tranche index p ((le-div_iff_mul-le p).1 (omega arith)));
      on_scale = λ p h. answered tranche index p h;
    }

-- within half a millionth, doubled so that it is whole
pub millionths_near : (s d : ℕ) → 0 < d → Near d (2 * (millionths s d * d)) (2 * (s * 1_000_000))
unfolding millionths
millionths_near s d p =
    let n : ℕ = 2 * (s * 1_000_000) + d in
    omega (arith, div-add-mod' n (2 * d), mod-lt n {m = 2 * d} (omega arith))
