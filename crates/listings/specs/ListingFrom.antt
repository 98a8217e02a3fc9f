-- What the commands of a deck print (document 01, 'Deck and printing program').
use Rattle.std.specs.Prelude.{ℕ, zero, suc, true, false, List, [], ◌++◌, ltb, length}
use Rattle.commands.specs.Commands.{command_at}
use Rattle.machine.specs.Machine.{Machine}
use Rattle.listings.specs.Effects.{stop, go_on, effect_of}

-- What is printed from an offset on, by so many commands at most.
unfoldable pub listing_from : ℕ → List ℕ → ℕ → Machine → List ℕ
listing_from zero deck at m = []
listing_from (suc commands) deck at m =
    elim (ltb at (length deck)) [
      | true ↦ elim (effect_of (command_at deck at) at m) [ stop text ↦ text | go_on text next t ↦ text ++ listing_from commands deck next t ]
      | false ↦ []
    ]
