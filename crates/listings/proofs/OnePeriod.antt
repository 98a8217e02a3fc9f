-- A deck has one period throughout, so each of its orders does what it did.
use Rattle.std.proofs.Common.{ℕ, ◌≡◌, refl, ap, ◌∙◌, List, [], ◌∷◌}
use Rattle.commands.specs.declared.Entry.{Entry}
use Rattle.commands.specs.declared.Order.{Order}
use Rattle.commands.specs.Commands.{command_at}
use Rattle.entries.specs.Draft.{Draft, added}
use Rattle.entries.proofs.OnePeriod.{one_period}
use Rattle.walk.specs.OnePeriod.{steady_manner}
use Rattle.walk.proofs.OnePeriod.{calls_steady}
use Rattle.machine.specs.Machine.{Machine}
use Rattle.machine.specs.Transitions.{transition_of}
use Rattle.listings.specs.Effects.{with_draft}
use Rattle.listings.specs.OnePeriod.{DecksSteady}
use Rattle.listings.proofs.Manners.{ordered, Along, listed, registered, entered_kept, goes_on}

abbrev pub One : Machine → Type 0
One m = m.draft.brought.sheet.starts ≡ 1 ∷ []

pub one_after : (o : Order) (m : Machine) → One m → One (transition_of o m).next
one_after o m one = ap (λ (g : Draft). g.brought.sheet.starts) (entered_kept o m) ∙ one

pub one_entered : (e : Entry) (m : Machine) → One m → One (with_draft m (added e m.draft))
one_entered e m one = one_period.kept e m.draft ∙ one

along : (deck : List ℕ) → Along command_at steady_manner deck (λ commands at m. One m)
along deck =
    record {
      reads = λ commands at m b one. refl;
      same = λ commands at m o b e one. ordered steady_manner o m _ (calls_steady m.draft.brought one) tt;
      on = λ commands at m text next t b q one.
          goes_on (λ next t. One t) at m (command_at deck at) text next t q (λ o e. one_after o m one) (λ y e r. one_entered y m one);
    }

pub decks_steady : DecksSteady
decks_steady =
    record {
      listing = λ register deck. listed command_at steady_manner deck _ (along deck) register one_period.first;
      register_left = λ register deck. registered command_at steady_manner deck _ (along deck) register one_period.first;
    }
