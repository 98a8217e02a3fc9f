-- What the code does for a command, as its own contracts say it.
use Rattle.std.specs.Prelude.{ℕ, ◌+◌, ◌*◌, ◌≤◌, ◌≡◌, Result, MatchResult, List}
use Rattle.commands.specs.declared.Stop.{Stop}
use Rattle.commands.specs.Kinds.{refusal_of}
use Rattle.walk.specs.Answers.{fresh}
use Rattle.lines.specs.Text.{Wrote}
use Rattle.entries.specs.Layouts.{empty_layout}
use Rattle.machine.specs.Machine.{Machine, machine_in}
use Rattle.render.specs.Lines.{deck_line}
use Rattle.execution.specs.declared.Progress.{Progress}
use Rattle.execution.specs.declared.Stopped.{Stopped}
use Rattle.listings.specs.Effects.{Effect, stop, go_on}

-- A run starts with an empty layout and a fresh walk, at the first byte, and has printed nothing.
abbrev pub start_progress : Progress
start_progress = record { layout = empty_layout; walk = fresh; at = 0; end = 0 }

-- The machine that the code's figures and arrays stand for.
abbrev pub machine_at : Progress → List ℕ → List ℕ → List ℕ → List ℕ → List ℕ → Machine
machine_at p numbers register defaults premiums row = machine_in p.layout p.walk numbers register defaults premiums row

-- An effect's text was written behind what was printed, and the run goes on at the next offset, with the machine m.
pub record GoesOn (effect : Effect) (from : Progress) (before after : List ℕ) (to : Progress) (m : Machine) : Type 0 where
  pub text : List ℕ
  pub wrote : Wrote before from.end text after to.end
  pub effect_is : effect ≡ go_on text to.at m
  pub room : to.end ≤ from.end + 96
  pub onward : from.at + 1 ≤ to.at
  pub short : to.end + 32 * from.at ≤ from.end + 32 * to.at

-- The run ends with a refusal, whose line is still to be written.
pub record Ends (effect : Effect) (from : Progress) (before after : List ℕ) (s : Stop) : Type 0 where
  pub effect_is : effect ≡ stop (deck_line (refusal_of s) from.at)
  pub unwritten : after ≡ before

-- The one or the other. Where the run goes on, `machine` tells what the code's figures and arrays then stand for.
abbrev pub Execution : Effect → Progress → List ℕ → List ℕ → Result Progress Stop → (Progress → Machine) → Type 0
Execution effect from before after r machine =
    MatchResult r (λ to. GoesOn effect from before after to (machine to)) (λ s. Ends effect from before after s)

-- The run has ended with a refusal, whose line was written behind what was printed.
pub record Ended (effect : Effect) (from : Progress) (before after : List ℕ) (s : Stopped) : Type 0 where
  pub effect_is : effect ≡ stop (deck_line (refusal_of s.stop) from.at)
  pub wrote : Wrote before from.end (deck_line (refusal_of s.stop) from.at) after s.end
  pub room : s.end ≤ from.end + 96

-- An effect's text was written behind what was printed, be it that of a refusal or not.
abbrev pub PrintedExecution : Effect → Progress → List ℕ → List ℕ → Result Progress Stopped → (Progress → Machine) → Type 0
PrintedExecution effect from before after r machine =
    MatchResult r (λ to. GoesOn effect from before after to (machine to)) (λ s. Ended effect from before after s)
