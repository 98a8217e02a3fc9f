-- Commands as the definitions read them; the pool is that of document 01's worked deck.
use Rattle.std.proofs.Common.{◌≡◌, refl, [], ◌∷◌, Ok, Err}
use Rattle.commands.specs.Commands.{low_first, operands, commands, command_at}
use Rattle.commands.specs.declared.Command.TheVariants.{Enter, Act}
use Rattle.commands.specs.declared.Stop.TheVariants.{Unknown, CutShort}
use Rattle.commands.specs.declared.Entry.TheVariants.{Pool, Elapsed}
use Rattle.commands.specs.declared.Order.TheVariants.{Open, Forward}

pool : command_at (1 ∷ 2 ∷ 2 ∷ 0 ∷ 1 ∷ 0 ∷ 132 ∷ 215 ∷ 23 ∷ 7 ∷ []) 0 ≡ Ok (Enter (Pool 2 2 1 400000000 7))
unfolding low_first operands commands command_at
pool = refl

-- 0C forward, from offset 1 on: step 258, count 3
forward : command_at (8 ∷ 12 ∷ 2 ∷ 1 ∷ 3 ∷ []) 1 ≡ Ok (Act (Forward 258 3))
unfolding low_first operands commands command_at
forward = refl

last_byte : command_at (8 ∷ []) 0 ≡ Ok (Act Open)
unfolding low_first operands commands command_at
last_byte = refl

-- an operand byte is missing
short : command_at (9 ∷ 2 ∷ []) 0 ≡ Err CutShort
unfolding low_first operands commands command_at
short = refl

-- 0D elapsed, low byte first
elapsed : command_at (13 ∷ 1 ∷ 2 ∷ 0 ∷ 0 ∷ []) 0 ≡ Ok (Enter (Elapsed 513))
unfolding low_first operands commands command_at
elapsed = refl

-- 00 and 0E at the end of a deck are unknown and not cut short
unknown : (command_at (0 ∷ []) 0 ≡ Err Unknown) × (command_at (14 ∷ []) 0 ≡ Err Unknown)
unfolding low_first operands commands command_at
unknown = (refl, refl)
