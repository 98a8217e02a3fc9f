-- The register that the commands of a deck leave, beside what they print.
use Rattle.std.specs.Prelude.{ℕ, zero, suc, true, false, List, ltb, length}
use Rattle.commands.specs.Commands.{command_at}
use Rattle.machine.specs.Machine.{Machine}
use Rattle.listings.specs.Effects.{stop, go_on, effect_of}

-- What is left from an offset on, by so many commands at most. A command that stops the run leaves the register as it stands.
unfoldable pub register_from : ℕ → List ℕ → ℕ → Machine → List ℕ
register_from zero deck at m = m.register
register_from (suc commands) deck at m =
    elim (ltb at (length deck)) [
      | true ↦ elim (effect_of (command_at deck at) at m) [ stop text ↦ m.register | go_on text next t ↦ register_from commands deck next t ]
      | false ↦ m.register
    ]
