-- How far two figures may lie apart.
use Rattle.std.specs.Prelude.{ℕ, ◌+◌, ◌≤◌}

-- x and y lie at most d apart.
pub record Near (d x y : ℕ) : Type 0 where
  pub below : x ≤ y + d
  pub above : y ≤ x + d
