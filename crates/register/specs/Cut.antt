-- Document 01, 'Register': what a write may leave of its byte when power cuts it, bit by bit.
use Rattle.std.specs.Prelude.{◌≡◌, Bool, true, false, ◌&&◌, ◌||◌, List, [], ◌∷◌, ◌++◌, map, ℕ, zero, suc, ◌/◌, ◌%◌, ◌<◌, eqb, replicate}
use Rattle.register.specs.declared.answers.Status.TheVariants as Status
use Rattle.register.specs.Register.{status_of, Write, issue, withdraw}

-- 'Register': a bit that the write should clear, set in old and clear in new, may be cleared or not. Any other is found as it was.
abbrev pub bit_may_be_left : ℕ → ℕ → ℕ → Bool
bit_may_be_left old new found = (eqb old 1 && eqb new 0) || eqb found old

-- The lowest k bits.
abbrev pub bits_may_be_left : ℕ → ℕ → ℕ → ℕ → Bool
bits_may_be_left zero old new found = true
bits_may_be_left (suc k) old new found = bit_may_be_left (old % 2) (new % 2) (found % 2) && bits_may_be_left k (old / 2) (new / 2) (found / 2)

-- Whether a write of new over old that power cuts may leave found.
abbrev pub may_be_left : ℕ → ℕ → ℕ → Bool
may_be_left old new found = bits_may_be_left 8 old new found

-- The sixteen bytes that a cut issue may leave, from A5 to FF, and the sixteen that a cut withdrawal may leave, from 00 to A5.
unfoldable pub cut_bytes : Write → List ℕ
cut_bytes issue = 0xA5 ∷ 0xA7 ∷ 0xAD ∷ 0xAF ∷ 0xB5 ∷ 0xB7 ∷ 0xBD ∷ 0xBF ∷ 0xE5 ∷ 0xE7 ∷ 0xED ∷ 0xEF ∷ 0xF5 ∷ 0xF7 ∷ 0xFD ∷ 0xFF ∷ []
cut_bytes withdraw = 0x00 ∷ 0x01 ∷ 0x04 ∷ 0x05 ∷ 0x20 ∷ 0x21 ∷ 0x24 ∷ 0x25 ∷ 0x80 ∷ 0x81 ∷ 0x84 ∷ 0x85 ∷ 0xA0 ∷ 0xA1 ∷ 0xA4 ∷ 0xA5 ∷ []

abbrev pub is_one_of : ℕ → List ℕ → Bool
is_one_of byte [] = false
is_one_of byte (b ∷ bs) = eqb byte b || is_one_of byte bs

-- 'Register': these are all of them, and what they say. A cut issue finds the number unissued, live or withdrawn, a cut withdrawal live or
-- withdrawn, never unissued.
pub record CutsFind : Type 0 where
  pub issue_bytes : (found : ℕ) → found < 256 → may_be_left 0xFF 0xA5 found ≡ is_one_of found (cut_bytes issue)
  pub issue_says : map status_of (cut_bytes issue) ≡ Status.Live ∷ (replicate 14 Status.Withdrawn ++ (Status.Unissued ∷ []))
  pub withdraw_bytes : (found : ℕ) → found < 256 → may_be_left 0xA5 0x00 found ≡ is_one_of found (cut_bytes withdraw)
  pub withdraw_says : map status_of (cut_bytes withdraw) ≡ replicate 15 Status.Withdrawn ++ (Status.Live ∷ [])
