-- What the contracts of `totals` cite: sums part way, in billions and units.
use Rattle.std.specs.Prelude.{ℕ, ◌+◌, ◌≤◌, ◌≡◌, true, false, List, ℤ, nat_abs, ◌*ℤ◌}
use Rattle.hedges.specs.Hedges.{with_sign}
use Rattle.amounts.specs.declared.Amount.{Amount}
use Rattle.amounts.specs.Amounts.{size_of, Shows}
use Rattle.totals.specs.declared.Sums.{Sums}
use Rattle.totals.specs.declared.Totals.{Totals}
use Rattle.totals.specs.Totals.{gain_of, loss_of, total, gains, losses}

-- Room for one product more.
pub record Room (a : Amount) : Type 0 where
  pub billions_fit : a.billions ≤ 1_000_000_000_000_000_000
  pub units_fit : a.units ≤ 5_000_000_000_000_000_000

-- A product more, of a nominal and a value within their ranges.
pub record Grown (a : Amount) (product : ℕ) (r : Amount) : Type 0 where
  pub size : size_of r ≡ size_of a + product
  pub billions_grow : r.billions ≤ a.billions + 200_000_000_000_000
  pub units_grow : r.units ≤ a.units + 1_000_000_000_000_000

-- A position more: its gain, or its loss by its size.
pub record Added (s : Sums) (nominal value : ℤ) (r : Sums) : Type 0 where
  pub gains_grown : Grown s.gains (nat_abs (gain_of (nominal *ℤ value))) r.gains
  pub losses_grown : Grown s.losses (nat_abs (loss_of (nominal *ℤ value))) r.losses

-- The gains and the losses, by their sizes, of all positions.
pub record Summed (nominals values : List ℤ) (r : Sums) : Type 0 where
  pub gains_are : with_sign false (size_of r.gains) ≡ gains nominals values
  pub losses_are : with_sign true (size_of r.losses) ≡ losses nominals values
  pub gains_fit : Room r.gains
  pub losses_fit : Room r.losses

-- The three figures.
pub record Figures (nominals values : List ℤ) (r : Totals) : Type 0 where
  pub total_is : Shows (total nominals values) r.total
  pub gains_is : Shows (gains nominals values) r.gains
  pub losses_is : Shows (losses nominals values) r.losses
