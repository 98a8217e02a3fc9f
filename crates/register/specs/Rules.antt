-- Document 01, 'Register' and 'Refusals in order', as plain propositions about what a call is given and what it gives back.
-- They use bytes and document 01's numbers alone, so that no two refusals can be taken for one another. No proof stands here.
use Rattle.std.specs.Prelude.{◌≡◌, ◌≢◌, List, ℕ, length, get_or, set}

-- 'Register': what the byte of x says, in a register of the right length.
pub record Unissued (register : List ℕ) (x : ℕ) : Type 0 where
  pub size : length register ≡ 256
  pub byte : get_or register x 0 ≡ 0xFF

pub record Live (register : List ℕ) (x : ℕ) : Type 0 where
  pub size : length register ≡ 256
  pub byte : get_or register x 0 ≡ 0xA5

pub record Withdrawn (register : List ℕ) (x : ℕ) : Type 0 where
  pub size : length register ≡ 256
  pub not_unissued : get_or register x 0 ≢ 0xFF
  pub not_live : get_or register x 0 ≢ 0xA5

-- 'Refusals in order': issue checks 2, 9 and 17, and writes A5 over FF. `number` is what it answers, `left` the register that it leaves.
pub record IssueEffect (register : List ℕ) (x number : ℕ) (left : List ℕ) : Type 0 where
  pub wrong_length : length register ≢ 256 → (number ≡ 2) × (left ≡ register)
  pub withdrawn : Withdrawn register x → (number ≡ 9) × (left ≡ register)
  pub live : Live register x → (number ≡ 17) × (left ≡ register)
  pub unissued : Unissued register x → (number ≡ 0) × (left ≡ set register x 0xA5)

-- 'Refusals in order': withdraw checks 2, 9 and 10, and writes 00 over A5.
pub record WithdrawEffect (register : List ℕ) (x number : ℕ) (left : List ℕ) : Type 0 where
  pub wrong_length : length register ≢ 256 → (number ≡ 2) × (left ≡ register)
  pub withdrawn : Withdrawn register x → (number ≡ 9) × (left ≡ register)
  pub unissued : Unissued register x → (number ≡ 10) × (left ≡ register)
  pub live : Live register x → (number ≡ 0) × (left ≡ set register x 0x00)
