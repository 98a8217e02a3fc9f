-- The rules of issue and withdraw rule out calls that look right: each breaks a rule at a number of a register that is computed here.
use Rattle.std.proofs.Common.{cond, ◌≡◌, refl, ap, List, [], ℕ, arith, eqb, get_or, set}
use Rattle.register.specs.Register.{status_in, number_of, withdraw, by_status, issue_answer, issue_leaves, withdraw_answer, withdraw_leaves}
use Rattle.register.specs.Rules.{Unissued, Live, Withdrawn, IssueEffect, WithdrawEffect}
use Rattle.register.specs.Events.{blank_register}

unissued_7 : Unissued blank_register 7
unissued_7 = record { size = refl; byte = refl }

live_7 : Live (set blank_register 7 0xA5) 7
live_7 = record { size = refl; byte = refl }

withdrawn_7 : Withdrawn (set blank_register 7 0x00) 7
withdrawn_7 = record { size = refl; not_unissued = λ e. omega arith; not_live = λ e. omega arith }

-- An issue that always answers live.
pub always_live_lem : ((register : List ℕ) (x : ℕ) → IssueEffect register x 17 register) → ⊥
always_live_lem r = omega (arith, ((r blank_register 7).unissued unissued_7).0)

-- An issue that writes over a withdrawn byte.
pub issued_again_lem : ((register : List ℕ) (x : ℕ) → IssueEffect register x 0 (set register x 0xA5)) → ⊥
issued_again_lem r = omega (arith, ((r (set blank_register 7 0x00) 7).withdrawn withdrawn_7).0)

-- A withdraw that answers as it should and writes nothing.
pub not_written_lem : ((register : List ℕ) (x : ℕ) → WithdrawEffect register x (number_of (withdraw_answer register x)) register) → ⊥
not_written_lem r = let e : ◌≡◌ {A = ℕ} 0xA5 0x00 = ap (λ (l : List ℕ). get_or l 7 0) ((r (set blank_register 7 0xA5) 7).live live_7).1 in omega arith

-- An issue that takes refusals 9 and 17 for one another.
abbrev exchanged : ℕ → ℕ
exchanged n = cond (eqb n 9) 17 (cond (eqb n 17) 9 n)

pub two_exchanged : ((register : List ℕ) (x : ℕ) → IssueEffect register x (exchanged (number_of (issue_answer register x))) (issue_leaves register x)) → ⊥
two_exchanged r = omega (arith, ((r (set blank_register 7 0xA5) 7).live live_7).0)

-- A withdraw that looks at the byte before the length.
pub length_last : ((register : List ℕ) (x : ℕ) → WithdrawEffect register x (number_of (by_status withdraw (status_in register x))) (withdraw_leaves register x)) → ⊥
length_last r = omega (arith, ((r [] 7).wrong_length (λ e. omega arith)).0)
