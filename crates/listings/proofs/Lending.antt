-- The rooms of a run keep the lengths that they start with.
use Rattle.std.proofs.Common.{ℕ, zero, suc, List, length}
use Rattle.commands.specs.Commands.{command_at}
use Rattle.machine.specs.Machine.{Machine, machine_on}
use Rattle.machine.proofs.Lending.{RoomsLong, lent_full, first_long, kept}
use Rattle.listings.specs.Lending.{LendsFrom, RowsLent}
use Rattle.listings.proofs.Manners.{goes_on}

lends : (commands : ℕ) (deck : List ℕ) (at : ℕ) (m : Machine) → RoomsLong m → LendsFrom commands deck at m
unfolding LendsFrom
lends zero deck at m l = tt
lends (suc commands) deck at m l = (
  lent_full m l,
  λ text next t q. lends commands deck next t (goes_on (λ next t. RoomsLong t) at m (command_at deck at) text next t q (λ o e. kept o m l) (λ e c r. l)),
)

pub rows_lent_lem : RowsLent
rows_lent_lem register deck = lends (length deck) deck 0 (machine_on register) (first_long register)
