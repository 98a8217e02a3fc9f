-- A deck has one period, so none prints another listing than it did before T-06, nor leaves another register.
use Rattle.std.specs.Prelude.{ℕ, ◌≡◌, List}
use Rattle.commands.specs.Commands.{command_at}
use Rattle.walk.specs.OnePeriod.{steady_manner}
use Rattle.listings.specs.Listing.{listing_on, register_after}
use Rattle.listings.specs.Manners.{manner_listing, manner_register}

-- Of any deck, on any register.
pub record DecksSteady : Type 0 where
  pub listing : (register deck : List ℕ) → listing_on register deck ≡ manner_listing command_at steady_manner register deck
  pub register_left : (register deck : List ℕ) → register_after register deck ≡ manner_register command_at steady_manner register deck
