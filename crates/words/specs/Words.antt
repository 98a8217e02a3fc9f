-- The words of a listing (document 01, 'Deck and printing program').
use Rattle.std.specs.Prelude.{ℕ, List, [], ◌∷◌}
use Rattle.commands.specs.declared.Order.{Order}
use Rattle.commands.specs.declared.Order.TheVariants.{Issue, Withdraw, Open, Back, Value, Delta, Forward}

-- The word of an order, in ASCII, with its space (32): issue, withdraw, open, back, value, delta, forward.
unfoldable pub word : Order → List ℕ
word (Issue y) = 105 ∷ 115 ∷ 115 ∷ 117 ∷ 101 ∷ 32 ∷ []
word (Withdraw y) = 119 ∷ 105 ∷ 116 ∷ 104 ∷ 100 ∷ 114 ∷ 97 ∷ 119 ∷ 32 ∷ []
word Open = 111 ∷ 112 ∷ 101 ∷ 110 ∷ 32 ∷ []
word (Back c) = 98 ∷ 97 ∷ 99 ∷ 107 ∷ 32 ∷ []
word (Value j k) = 118 ∷ 97 ∷ 108 ∷ 117 ∷ 101 ∷ 32 ∷ []
word (Delta j k) = 100 ∷ 101 ∷ 108 ∷ 116 ∷ 97 ∷ 32 ∷ []
word (Forward i k) = 102 ∷ 111 ∷ 114 ∷ 119 ∷ 97 ∷ 114 ∷ 100 ∷ 32 ∷ []
