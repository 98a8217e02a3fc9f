-- The default leg and the premium leg (document 01, 'Arithmetic and cash' and 'Walking back').
use Rattle.std.specs.Prelude.{ℕ, zero, suc, ◌+◌, ◌-◌, ◌*◌}
use Rattle.cash.specs.Units.{B}
use Rattle.cash.specs.Losses.{default_payment, premium_payment, elapsed_payment}
use Rattle.tree.specs.Paths.{survive, default, count_after, Cash}
use Rattle.tree.specs.Backward.{Leg}

-- A default from the count k pays what it takes from a tranche that has lost M k after k defaults. ('Arithmetic and cash')
unfoldable pub default_cash : (ℕ → ℕ) → Cash
default_cash M s k default = default_payment (M k) (M (suc k))
default_cash M s k survive = 0

-- Step s pays the accrual a s on what is outstanding at the count after the step. ('Arithmetic and cash')
unfoldable pub premium_cash : (ℕ → ℕ) → (ℕ → ℕ) → Cash
premium_cash a O s k m = premium_payment (a s) (O (count_after k m))

-- The same unrounded, over B. ('Walking back', on the exact value)
unfoldable pub premium_exact : (ℕ → ℕ) → (ℕ → ℕ) → Cash
premium_exact a O s k m = a s * O (count_after k m)

-- A default into step s pays the elapsed fraction e s on what it takes off the outstanding nominal, beside the premium of the step. (T-01)
unfoldable pub elapsed_cash : (ℕ → ℕ) → (ℕ → ℕ) → Cash
elapsed_cash e O s k default = elapsed_payment (e s) (O k) (O (suc k))
elapsed_cash e O s k survive = 0

-- The same unrounded, over B.
unfoldable pub elapsed_exact : (ℕ → ℕ) → (ℕ → ℕ) → Cash
elapsed_exact e O s k default = e s * (O k - O (suc k))
elapsed_exact e O s k survive = 0

-- 1 where an accrual marks a premium date or a fraction is paid, and else 0. ('Sheet and units', and T-01)
unfoldable pub mark : ℕ → ℕ
mark zero = 0
mark (suc a) = 1

-- The legs, by their exact and their rounded cash. ('Walking back')
abbrev pub default_leg : (ℕ → ℕ) → Leg
default_leg M = record { exactly = λ s k m. B * default_cash M s k m; rounded = default_cash M; halves = λ s. 0 }

-- What premium dates pay, and what a default pays of the premium earned up to it.
abbrev pub date_leg : (ℕ → ℕ) → (ℕ → ℕ) → Leg
date_leg a O = record { exactly = premium_exact a O; rounded = premium_cash a O; halves = λ s. mark (a s) }

abbrev pub elapsed_leg : (ℕ → ℕ) → (ℕ → ℕ) → Leg
elapsed_leg e O = record { exactly = elapsed_exact e O; rounded = elapsed_cash e O; halves = λ s. mark (e s) }

-- Two legs as one: each rounds its own cash.
abbrev pub together : Leg → Leg → Leg
together g f =
    record {
      exactly = λ s k m. g.exactly s k m + f.exactly s k m;
      rounded = λ s k m. g.rounded s k m + f.rounded s k m;
      halves = λ s. g.halves s + f.halves s;
    }

-- The premium leg has both. (T-01)
abbrev pub premium_leg : (ℕ → ℕ) → (ℕ → ℕ) → (ℕ → ℕ) → Leg
premium_leg a e O = together (date_leg a O) (elapsed_leg e O)
