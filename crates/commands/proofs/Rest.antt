-- What the tests of `command_at` say.
use borrow.Author.Tests.{lt-leb}
use Rattle.commands.specs.Commands.{operands, decoded, is_command, command_at}
use Rattle.commands.specs.declared.Stop.TheVariants.{Unknown, CutShort}
use Rattle.commands.specs.declared.Kind.{Kind}
use Rattle.commands.specs.declared.Kind.TheVariants.{Pool, Attachment, Hazard, Step, Coupon, Issue, Withdraw, Open, Back, Value, Delta, Forward, Elapsed}
use Rattle.commands.specs.Kinds.{code_of}
use Rattle.std.proofs.Common.{ℕ, ◌+◌, ◌-◌, ◌≤◌, ◌<◌, ◌≡◌, refl, ap, subst, true, false, List, arith, le-leb, length, get_or, Err}

-- the byte of a kind is a command
known : (kind : Kind) → is_command (code_of kind) ≡ true
known Pool = refl
known Attachment = refl
known Hazard = refl
known Step = refl
known Coupon = refl
known Issue = refl
known Withdraw = refl
known Open = refl
known Back = refl
known Value = refl
known Delta = refl
known Forward = refl
known Elapsed = refl

module _ (s : List ℕ) (at : ℕ) where
  pub unknown : is_command (get_or s at 0) ≡ false → Err Unknown ≡ command_at s at
  unfolding command_at
  unknown h = rw h

  -- at the byte of a kind
  module _ (kind : Kind) (e : code_of kind ≡ get_or s at 0) where
    read : is_command (get_or s at 0) ≡ true
    read = subst (λ (code : ℕ). is_command code ≡ true) e (known kind)

    pub cut_short : length s - at - 1 < operands (code_of kind) → Err CutShort ≡ command_at s at
    unfolding command_at
    cut_short h =
        let g : length s - (at + 1) < operands (get_or s at 0) = omega (arith, ap operands e) in
        rw (read, lt-leb _ _ g)

    pub whole : operands (code_of kind) ≤ length s - at - 1 → decoded (code_of kind) s (at + 1) ≡ command_at s at
    unfolding command_at
    whole h =
        let g : operands (get_or s at 0) ≤ length s - (at + 1) = omega (arith, ap operands e) in
        rw (read, le-leb _ _ g) (ap (λ (code : ℕ). decoded code s (at + 1)) e)
