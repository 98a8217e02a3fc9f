-- Once a withdraw of x was accepted and returned, x is withdrawn at every later place of the list, wherever the power fails.
use Rattle.std.proofs.Common.{◌≡◌, refl, sym, ◌∙◌, ap, subst, Bool, true, false, ◌||◌, cond, List, [], ◌∷◌, ℕ, zero, suc, eqb-true, eqb, length}
use Rattle.std.proofs.Common.{get_or, set, take, length-set, get_or-set_other}
use mathlib.Core.Bool.{false≢true}
use lib.ListN.{length-replicate}
use Rattle.register.specs.declared.answers.Status.TheVariants as Status
use Rattle.register.specs.declared.answers.WriteRefusal.{WriteRefusal}
use Rattle.std.specs.declared.result.Result.TheVariants.{Err}
use Rattle.register.specs.Register.{number_of, Write, issue, withdraw, byte_of, by_status, answer_of, is_accepted}
use Rattle.register.specs.Events.{RegisterEvent, returned, cut, reads, blank_register, after_event, after_events, CanBe, AllCanBe, answer_given, withdraws, withdrawn_in, Gone, WithdrawalLasts}
use Rattle.std.proofs.lemmas.Bool.{and_parts}
use Rattle.register.proofs.Rules.{left, of_status}

-- All that the rest of Gone follows from.
pub record Zero (register : List ℕ) (x : ℕ) : Type 0 where
  pub size : length register ≡ 256
  pub byte : get_or register x 0 ≡ 0x00

by_withdrawn : (w : Write) → by_status w Status.Withdrawn ≡ Err WriteRefusal.Withdrawn
by_withdrawn issue = refl
by_withdrawn withdraw = refl

refused : {register : List ℕ} {x : ℕ} → Zero register x → (w : Write) → answer_of w register x ≡ Err WriteRefusal.Withdrawn
refused {register} {x} z w = of_status w register x z.size (rw z.byte) ∙ by_withdrawn w

never_accepted : {register : List ℕ} {x : ℕ} → Zero register x → (w : Write) → is_accepted (answer_of w register x) ≡ true → ⊥
never_accepted z w t = false≢true (sym (ap is_accepted (refused z w)) ∙ t)

pub gone : {register : List ℕ} {x : ℕ} → Zero register x → Gone register x
gone {register} {x} z =
    record {
      size = z.size;
      byte = z.byte;
      status = rw z.byte;
      refused = λ w. ap number_of (refused z w);
      unwritten = λ w. ap (left w register x) (refused z w);
      uncut = λ w found c. never_accepted z w c.accepted;
    }

-- ---- after the withdrawal

-- A call that is accepted writes another number's byte.
beside : {register : List ℕ} {x : ℕ} → Zero register x → (w : Write) (y b : ℕ) → is_accepted (answer_of w register y) ≡ true → Zero (set register y b) x
beside {register} {x} z w y b t =
    record {
      size = length-set register y b ∙ z.size;
      byte = get_or-set_other register y x b 0 (λ e. never_accepted z w (rw e t)) ∙ z.byte;
    }

pub keeps : {register : List ℕ} {x : ℕ} → Zero register x → (e : RegisterEvent) → CanBe register e → Zero (after_event register e) x
keeps {register} {x} z (returned w y) h = go (is_accepted (answer_of w register y)) refl
  where
    go : (t : Bool) → is_accepted (answer_of w register y) ≡ t → Zero (cond t (set register y (byte_of w)) register) x
    go true e = beside z w y (byte_of w) e
    go false e = z
keeps z (cut w y found) h = beside z w y found h.accepted
keeps z reads h = z

pub keeps_all : {register : List ℕ} {x : ℕ} → Zero register x → (es : List RegisterEvent) → AllCanBe register es → Zero (after_events register es) x
keeps_all z [] h = z
keeps_all {register = register} z (e ∷ es) h = keeps_all {register = after_event register e} (keeps z e h.0) es h.1

-- ---- up to the withdrawal

pub size_after : (register : List ℕ) (e : RegisterEvent) → length (after_event register e) ≡ length register
size_after register (returned w y) = go (is_accepted (answer_of w register y))
  where
    go : (t : Bool) → length (cond t (set register y (byte_of w)) register) ≡ length register
    go true = length-set register y (byte_of w)
    go false = refl
size_after register (cut w y found) = length-set register y found
size_after register reads = refl

pub set_zero : (register : List ℕ) (x : ℕ) → get_or (set register x 0) x 0 ≡ 0
set_zero [] x = refl
set_zero (a ∷ register) zero = refl
set_zero (a ∷ register) (suc x) = set_zero register x

-- The withdrawal itself.
pub starts : (register : List ℕ) → length register ≡ 256 → (e : RegisterEvent) (x : ℕ) → withdraws e (answer_given register e) x ≡ true → Zero (after_event register e) x
starts register s (returned issue y) x t = absurd (false≢true t)
starts register s (returned withdraw y) x t =
    let p = and_parts (eqb y x) (is_accepted (answer_of withdraw register y)) t in
    subst (λ (t : Bool). Zero (cond t (set register y 0x00) register) x) (sym p.1)
    (record { size = length-set register y 0x00 ∙ s; byte = subst (λ (k : ℕ). get_or (set register y 0x00) k 0 ≡ 0x00) (eqb-true y x p.0) (set_zero register y) })
starts register s (cut w y found) x t = absurd (false≢true t)
starts register s reads x t = absurd (false≢true t)

from : (register : List ℕ) → length register ≡ 256 → (es : List RegisterEvent) → AllCanBe register es → (x : ℕ) → withdrawn_in register es x ≡ true → Zero (after_events register es) x
from register s [] h x t = absurd (false≢true t)
from register s (e ∷ es) h x t = go (λ u. from (after_event register e) (size_after register e ∙ s) es h.1 x u) (withdraws e (answer_given register e) x) refl t
  where
    go : (withdrawn_in (after_event register e) es x ≡ true → Zero (after_events (after_event register e) es) x) → (b : Bool) → withdraws e (answer_given register e) x ≡ b →
        (b || withdrawn_in (after_event register e) es x) ≡ true → Zero (after_events (after_event register e) es) x
    go later true w u = keeps_all (starts register s e x w) es h.1
    go later false w u = later u

part : (register : List ℕ) (es : List RegisterEvent) → AllCanBe register es → (i : ℕ) → AllCanBe register (take i es)
part register es h zero = tt
part register [] h (suc i) = tt
part register (e ∷ es) h (suc i) = (h.0, part (after_event register e) es h.1 i)

-- From any register of 256 bytes, and so from a blank one.
pub forever : (start : List ℕ) → length start ≡ 256 → WithdrawalLasts start
forever start s es h x i t = gone (from start s (take i es) (part start es h i) x t)

pub blank_forever : WithdrawalLasts blank_register
blank_forever = forever blank_register (length-replicate {A = ℕ} 256 0xFF)
