-- The kinds of commands by their bytes, and the refusals that end a run at one.
use Rattle.std.specs.Prelude.{ℕ, ◌≡◌, false, Result, MatchResult}
use Rattle.commands.specs.declared.Kind.{Kind}
use Rattle.commands.specs.declared.Kind.TheVariants.{Pool, Attachment, Hazard, Step, Coupon, Issue, Withdraw, Open, Back, Value, Delta, Forward, Elapsed}
use Rattle.commands.specs.declared.Stop.{Stop}
use Rattle.commands.specs.declared.Stop.TheVariants.{Unknown, CutShort, TooMany}
use Rattle.commands.specs.Commands.{is_command}

-- the command byte
abbrev pub code_of : Kind → ℕ
code_of Pool = 1
code_of Attachment = 2
code_of Hazard = 3
code_of Step = 4
code_of Coupon = 5
code_of Issue = 6
code_of Withdraw = 7
code_of Open = 8
code_of Back = 9
code_of Value = 10
code_of Delta = 11
code_of Forward = 12
code_of Elapsed = 13

-- the kind with this command byte, or that the byte is no command
abbrev pub IsKindOf : ℕ → Result Kind Stop → Type 0
IsKindOf code r = MatchResult r (λ kind. code_of kind ≡ code) (λ stop. (is_command code ≡ false) × (stop ≡ Unknown))

-- the number of the refusal
abbrev pub refusal_of : Stop → ℕ
refusal_of Unknown = 18
refusal_of CutShort = 19
refusal_of TooMany = 20
