-- Lists of events on one register, and the promise of every such list: a number withdrawn in it stays withdrawn, wherever the power fails.
-- No proof stands here.
use Rattle.std.specs.Prelude.{◌≡◌, ◌≢◌, Bool, true, false, ◌&&◌, ◌||◌, List, [], ◌∷◌, ℕ, ◌<◌, eqb, length, get_or, set, take, replicate}
use Rattle.std.proofs.Math.Option.{Option, none, some}
use Rattle.register.specs.declared.answers.Status.TheVariants as Status
use Rattle.register.specs.Register.{status_in, WriteAnswer, number_of, Write, issue, withdraw, byte_of, answer_of, is_accepted, leaves_of}
use Rattle.register.specs.Cut.{may_be_left, is_one_of, cut_bytes}

-- An issue or a withdraw of a number that returned, accepted or refused; one in whose write the power failed, with the byte then found;
-- and all that leaves the register as it is: a call of the walk, returned or cut, and a power failure outside a write.
pub data RegisterEvent : Type 0 where
  returned : Write → ℕ → RegisterEvent
  cut : Write → ℕ → ℕ → RegisterEvent
  reads : RegisterEvent

-- 'Register': every byte FF.
abbrev pub blank_register : List ℕ
blank_register = replicate 256 0xFF

-- 'Register': what an event leaves. Bytes other than a cut write's own keep.
abbrev pub after_event : List ℕ → RegisterEvent → List ℕ
after_event register (returned w x) = leaves_of w register x
after_event register (cut w x found) = set register x found
after_event register reads = register

abbrev pub after_events : List ℕ → List RegisterEvent → List ℕ
after_events register [] = register
after_events register (e ∷ es) = after_events (after_event register e) es

-- 'Register': power cuts a write only in a call that would have been accepted, and leaves a byte that the masks allow.
pub record CanCut (register : List ℕ) (w : Write) (x found : ℕ) : Type 0 where
  pub accepted : is_accepted (answer_of w register x) ≡ true
  pub byte : found < 256
  pub left : may_be_left (get_or register x 0) (byte_of w) found ≡ true

-- 'Register': what a cut write leaves at its number and beside it. A cut withdrawal is never found unissued.
pub record CutLeaves (register : List ℕ) (w : Write) (x found : ℕ) : Type 0 where
  pub size : length (after_event register (cut w x found)) ≡ 256
  pub byte : get_or (after_event register (cut w x found)) x 0 ≡ found
  pub others : (y : ℕ) → y ≢ x → get_or (after_event register (cut w x found)) y 0 ≡ get_or register y 0
  pub one_of : is_one_of found (cut_bytes w) ≡ true
  pub never_unissued : w ≡ withdraw → status_in (after_event register (cut w x found)) x ≢ Status.Unissued

-- 'A write only clears bits': the power may fail as the write begins, and as it ends, which leaves what the call writes.
pub record CutBounds (register : List ℕ) (w : Write) (x : ℕ) : Type 0 where
  pub begins : CanCut register w x (get_or register x 0)
  pub ends : CanCut register w x (byte_of w)

-- An event that can be after the events before it.
abbrev pub CanBe : List ℕ → RegisterEvent → Type 0
CanBe register (returned w x) = Unit {0}
CanBe register (cut w x found) = CanCut register w x found
CanBe register reads = Unit {0}

abbrev pub AllCanBe : List ℕ → List RegisterEvent → Type 0
AllCanBe register [] = Unit {0}
AllCanBe register (e ∷ es) = CanBe register e × AllCanBe (after_event register e) es

-- What the caller was told: a call that was cut returned nothing.
abbrev pub answer_given : List ℕ → RegisterEvent → Option WriteAnswer
answer_given register (returned w x) = some (answer_of w register x)
answer_given register (cut w x found) = none
answer_given register reads = none

-- Whether an event, by what was told of it, is an accepted withdraw of x that returned. No register is looked at.
abbrev pub withdraws : RegisterEvent → Option WriteAnswer → ℕ → Bool
withdraws (returned withdraw y) (some a) x = eqb y x && is_accepted a
withdraws (returned withdraw y) none x = false
withdraws (returned issue y) a x = false
withdraws (cut w y found) a x = false
withdraws reads a x = false

-- One event of the list is.
abbrev pub withdrawn_in : List ℕ → List RegisterEvent → ℕ → Bool
withdrawn_in register [] x = false
withdrawn_in register (e ∷ es) x = withdraws e (answer_given register e) x || withdrawn_in (after_event register e) es x

-- x is withdrawn: its byte is 00, every issue and withdraw of it is refused with 9 and leaves the register, and none has a write to be cut.
pub record Gone (register : List ℕ) (x : ℕ) : Type 0 where
  pub size : length register ≡ 256
  pub byte : get_or register x 0 ≡ 0x00
  pub status : status_in register x ≡ Status.Withdrawn
  pub refused : (w : Write) → number_of (answer_of w register x) ≡ 9
  pub unwritten : (w : Write) → leaves_of w register x ≡ register
  pub uncut : (w : Write) (found : ℕ) → CanCut register w x found → ⊥

-- Demand 1, of every list of events from the register start: at each place i after an accepted withdraw of x has returned, x is withdrawn.
abbrev pub WithdrawalLasts : List ℕ → Type 0
WithdrawalLasts start =
    (es : List RegisterEvent) → AllCanBe start es → (x i : ℕ) → withdrawn_in start (take i es) x ≡ true → Gone (after_events start (take i es)) x

-- The same as a withdraw promises it of the register that it leaves: whatever comes after, x is withdrawn.
abbrev pub Lasts : List ℕ → ℕ → Type 0
Lasts register x = (es : List RegisterEvent) → AllCanBe register es → Gone (after_events register es) x
