-- Laws of the default leg and the premium leg: their rounding, and legs side by side.
use Rattle.std.proofs.Common.{ℕ, zero, suc, ◌+◌, ◌-◌, ◌*◌, ◌≤◌, zero-mul, ◌≡◌, refl, ◌∙◌, ap, ap₂, arith}
use Rattle.cash.specs.Units.{B, half}
use Rattle.cash.specs.Near.{Near}
use Rattle.cash.specs.Sums.{sum_to}
use Rattle.cash.specs.Losses.{default_payment, premium_payment, elapsed_payment}
use Rattle.cash.proofs.Nearness.{near_as, near_add}
use Rattle.cash.proofs.Rounding.{half_near}
use Rattle.cash.proofs.Sums.{sum_add, sum_times, sum_sub, sum_const}
use Rattle.tree.specs.Paths.{survive, default, count_after}
use Rattle.tree.specs.Backward.{Leg, Agrees, leg_halves}
use Rattle.tree.specs.Legs.{default_cash, premium_cash, premium_exact, elapsed_cash, elapsed_exact, mark, default_leg, date_leg, elapsed_leg, together, premium_leg}
use Rattle.tree.proofs.Rolling.{over_zero}
use Rattle.tree.proofs.Additions.{Spans}

pub default_agrees : (M : ℕ → ℕ) → Agrees (default_leg M)
default_agrees M s k m = omega arith

-- a product that is rounded where its first factor is not 0
marked : (a y : ℕ) → Near (mark a * B) (2 * (half (a * y) * B)) (2 * (a * y))
marked zero y = rw zero-mul (unfold half B mark in omega arith)
marked (suc a) y = near_as (half_near (suc a * y)) (unfold mark in omega arith) refl refl

date_agrees : (a O : ℕ → ℕ) → Agrees (date_leg a O)
unfolding premium_cash premium_payment premium_exact
date_agrees a O s k m = marked (a s) (O (count_after k m))

elapsed_agrees : (e O : ℕ → ℕ) → Agrees (elapsed_leg e O)
unfolding elapsed_cash elapsed_payment elapsed_exact
elapsed_agrees e O s k default = marked (e s) (O k - O (suc k))
elapsed_agrees e O s k survive = omega arith

together_agrees : (g f : Leg) → Agrees g → Agrees f → Agrees (together g f)
together_agrees g f p q s k m = near_as (near_add (p s k m) (q s k m)) (omega arith) (omega arith) (omega arith)

pub premium_agrees : (a e O : ℕ → ℕ) → Agrees (premium_leg a e O)
premium_agrees a e O = together_agrees (date_leg a O) (elapsed_leg e O) (date_agrees a O) (elapsed_agrees e O)

pub default_halves : (M : ℕ → ℕ) (h i : ℕ) → leg_halves (default_leg M) h i ≡ 2 * h
unfolding leg_halves
default_halves M h i = rw over_zero (omega arith)

-- ---- legs side by side: of any figures that add

pub defaults_span : (r : ℕ) (M : ℕ → ℕ → ℕ) (N : ℕ → ℕ) → ((k : ℕ) → sum_to r (λ j. M j k) ≡ N k) → ((j k : ℕ) → M j k ≤ M j (suc k)) →
    Spans r (λ j. default_leg (M j)) (default_leg N)
unfolding default_cash default_payment
defaults_span r M N adds rises s k default =
    sum_times B r _
    ∙ ap (λ x. B * x) (sum_sub r (λ j. M j (suc k)) (λ j. M j k) (λ j l. rises j k) ∙ ap₂ (λ x y. x - y) (adds (suc k)) (adds k))
defaults_span r M N adds rises s k survive = sum_const (B * 0) r ∙ omega arith

dates_span : (r : ℕ) (a : ℕ → ℕ) (O : ℕ → ℕ → ℕ) (P : ℕ → ℕ) → ((k : ℕ) → sum_to r (λ j. O j k) ≡ P k) →
    Spans r (λ j. date_leg a (O j)) (date_leg a P)
unfolding premium_exact
dates_span r a O P adds s k m = sum_times (a s) r _ ∙ ap (λ x. a s * x) (adds (count_after k m))

-- what a default takes off the tranches it takes off all
pub taken_off : (r e : ℕ) (O : ℕ → ℕ → ℕ) (P : ℕ → ℕ) (k : ℕ) → ((k : ℕ) → sum_to r (λ j. O j k) ≡ P k) → ((j k : ℕ) → O j (suc k) ≤ O j k) →
    sum_to r (λ j. e * (O j k - O j (suc k))) ≡ e * (P k - P (suc k))
taken_off r e O P k adds falls =
    sum_times e r (λ j. O j k - O j (suc k))
    ∙ ap (λ x. e * x) (sum_sub r (λ j. O j k) (λ j. O j (suc k)) (λ j l. falls j k) ∙ ap₂ (λ x y. x - y) (adds k) (adds (suc k)))

elapsed_span_lem : (r : ℕ) (e : ℕ → ℕ) (O : ℕ → ℕ → ℕ) (P : ℕ → ℕ) → ((k : ℕ) → sum_to r (λ j. O j k) ≡ P k) → ((j k : ℕ) → O j (suc k) ≤ O j k) →
    Spans r (λ j. elapsed_leg e (O j)) (elapsed_leg e P)
unfolding elapsed_exact
elapsed_span_lem r e O P adds falls s k default = taken_off r (e s) O P k adds falls
elapsed_span_lem r e O P adds falls s k survive = sum_const 0 r ∙ omega arith

pub premiums_span : (r : ℕ) (a e : ℕ → ℕ) (O : ℕ → ℕ → ℕ) (P : ℕ → ℕ) → ((k : ℕ) → sum_to r (λ j. O j k) ≡ P k) → ((j k : ℕ) → O j (suc k) ≤ O j k) →
    Spans r (λ j. premium_leg a e (O j)) (premium_leg a e P)
premiums_span r a e O P adds falls s k m =
    sum_add r (λ j. premium_exact a (O j) s k m) (λ j. elapsed_exact e (O j) s k m)
    ∙ ap₂ (λ x y. x + y) (dates_span r a O P adds s k m) (elapsed_span_lem r e O P adds falls s k m)
