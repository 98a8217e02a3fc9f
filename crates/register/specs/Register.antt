-- Document 01, 'Register' and 'Refusals in order': what a byte says, and what issue and withdraw answer and leave.
use Rattle.std.specs.Prelude.{Bool, cond, List, ℕ, eqb, length, get_or, set, ⊤}
use Rattle.std.specs.declared.result.Result.{Result}
use Rattle.std.specs.declared.result.Result.TheVariants.{Ok, Err}
use Rattle.register.specs.declared.answers.Status.{Status}
use Rattle.register.specs.declared.answers.WriteRefusal.{WriteRefusal}

-- 'Register': FF is unissued, A5 live, all else withdrawn.
abbrev pub status_of : ℕ → Status
status_of byte = cond (eqb byte 0xFF) Status.Unissued (cond (eqb byte 0xA5) Status.Live Status.Withdrawn)

-- 'Register': one byte a sheet number. A number past the end reads 00.
abbrev pub status_in : List ℕ → ℕ → Status
status_in register x = status_of (get_or register x 0)

-- What a call that writes the register answers.
abbrev pub WriteAnswer : Type 0
WriteAnswer = Result ⊤ WriteRefusal

-- 'Refusals in order': the number of each answer; an accepted call has 0, as the listing prints. Neither call answers a figure besides.
abbrev pub number_of : WriteAnswer → ℕ
number_of (Ok done) = 0
number_of (Err WriteRefusal.Length) = 2
number_of (Err WriteRefusal.Withdrawn) = 9
number_of (Err WriteRefusal.Unissued) = 10
number_of (Err WriteRefusal.Live) = 17

-- The two calls that write the register.
pub data Write : Type 0 where
  issue withdraw : Write

-- 'Refusals in order': what they answer a number of each status.
abbrev pub by_status : Write → Status → WriteAnswer
by_status issue Status.Withdrawn = Err WriteRefusal.Withdrawn
by_status issue Status.Unissued = Ok tt
by_status issue Status.Live = Err WriteRefusal.Live
by_status withdraw Status.Withdrawn = Err WriteRefusal.Withdrawn
by_status withdraw Status.Unissued = Err WriteRefusal.Unissued
by_status withdraw Status.Live = Ok tt

-- 'Register': issue writes A5, withdraw 00.
abbrev pub byte_of : Write → ℕ
byte_of issue = 0xA5
byte_of withdraw = 0x00

-- 'Refusals in order': 2, and then by the status.
abbrev pub answer_of : Write → List ℕ → ℕ → WriteAnswer
answer_of w register x = cond (eqb (length register) 256) (by_status w (status_in register x)) (Err WriteRefusal.Length)

abbrev pub is_accepted : WriteAnswer → Bool
is_accepted a = eqb (number_of a) 0

-- 'Refusals in order': a refusal changes nothing lent. An accepted call writes the one byte.
abbrev pub leaves_of : Write → List ℕ → ℕ → List ℕ
leaves_of w register x = cond (is_accepted (answer_of w register x)) (set register x (byte_of w)) register

abbrev pub issue_answer : List ℕ → ℕ → WriteAnswer
issue_answer = answer_of issue

abbrev pub issue_leaves : List ℕ → ℕ → List ℕ
issue_leaves = leaves_of issue

abbrev pub withdraw_answer : List ℕ → ℕ → WriteAnswer
withdraw_answer = answer_of withdraw

abbrev pub withdraw_leaves : List ℕ → ℕ → List ℕ
withdraw_leaves = leaves_of withdraw
