-- Books written out with their lines, byte by byte. Proved in proofs/Examples.antt, by computation.
use Rattle.std.specs.Prelude.{ℕ, zero, suc, ◌≡◌, List, [], ◌∷◌, ◌++◌, pos, negsuc, replicate}
use Rattle.book.specs.Promise.{Result, ours}

-- 96 bytes FF.
abbrev pub room : List ℕ
room = replicate 96 0xFF

-- An accepted book: the bytes of its line, the line, and how many of the bytes lent are left.
abbrev pub line : ℕ → List ℕ → ℕ → Result
line bytes text kept = record { number = 0; values = bytes ∷ []; left = text ++ replicate kept 0xFF }

-- A refused one: its number alone, and what was lent.
abbrev pub refused : ℕ → List ℕ → Result
refused number lent = record { number = number; values = []; left = lent }

-- So many bytes, each one more than the last.
abbrev pub counting : ℕ → ℕ → List ℕ
counting zero byte = []
counting (suc more) byte = byte ∷ counting more (suc byte)

-- `negsuc n` is -(n + 1).
pub record Books : Type 0 where
  -- book 0 0 0 0
  pub nothing : ours [] [] room ≡ line 13 (98 ∷ 111 ∷ 111 ∷ 107 ∷ 32 ∷ 48 ∷ 32 ∷ 48 ∷ 32 ∷ 48 ∷ 32 ∷ 48 ∷ 10 ∷ []) 83
  -- book 0 5 5 0
  pub one_gain : ours (pos 1 ∷ []) (pos 5 ∷ []) room
      ≡ line 13
      (98 ∷ 111 ∷ 111 ∷ 107 ∷ 32 ∷ 48 ∷ 32 ∷ 53 ∷ 32 ∷ 53 ∷ 32 ∷ 48 ∷ 10 ∷ []) 83
  -- book 0 -5 0 -5
  pub one_loss : ours (pos 1 ∷ []) (negsuc 4 ∷ []) room
      ≡ line 15
      (98 ∷ 111 ∷ 111 ∷ 107 ∷ 32 ∷ 48 ∷ 32 ∷ 45 ∷ 53 ∷ 32 ∷ 48 ∷ 32 ∷ 45 ∷ 53 ∷ 10 ∷ []) 81
  -- book 0 6 6 0
  pub short_gains : ours (negsuc 1 ∷ []) (negsuc 2 ∷ []) room
      ≡ line 13
      (98 ∷ 111 ∷ 111 ∷ 107 ∷ 32 ∷ 48 ∷ 32 ∷ 54 ∷ 32 ∷ 54 ∷ 32 ∷ 48 ∷ 10 ∷ []) 83
  -- book 0 -6 0 -6
  pub short_loses : ours (negsuc 1 ∷ []) (pos 3 ∷ []) room
      ≡ line 15
      (98 ∷ 111 ∷ 111 ∷ 107 ∷ 32 ∷ 48 ∷ 32 ∷ 45 ∷ 54 ∷ 32 ∷ 48 ∷ 32 ∷ 45 ∷ 54 ∷ 10 ∷ []) 81
  -- book 0 5 10 -5
  pub both : ours (pos 2 ∷ negsuc 0 ∷ []) (pos 5 ∷ pos 5 ∷ []) room
      ≡ line 15
      (98 ∷ 111 ∷ 111 ∷ 107 ∷ 32 ∷ 48 ∷ 32 ∷ 53 ∷ 32 ∷ 49 ∷ 48 ∷ 32 ∷ 45 ∷ 53 ∷ 10 ∷ []) 81
  -- book 0 5 10 -5
  pub order_free : ours (negsuc 0 ∷ pos 2 ∷ []) (pos 5 ∷ pos 5 ∷ []) room
      ≡ line 15
      (98 ∷ 111 ∷ 111 ∷ 107 ∷ 32 ∷ 48 ∷ 32 ∷ 53 ∷ 32 ∷ 49 ∷ 48 ∷ 32 ∷ 45 ∷ 53 ∷ 10 ∷ []) 81
  -- book 0 1000000000 1000000000 0
  pub a_billion : ours (pos 1 ∷ pos 1 ∷ []) (pos 999_999_999 ∷ pos 1 ∷ []) room
      ≡ line 31
      (98 ∷ 111 ∷ 111 ∷ 107 ∷ 32 ∷ 48 ∷ 32 ∷ 49 ∷ 48 ∷ 48 ∷ 48 ∷ 48 ∷ 48 ∷ 48 ∷ 48 ∷ 48 ∷ 48 ∷ 32 ∷ 49 ∷ 48 ∷ 48 ∷ 48 ∷ 48 ∷ 48 ∷
      48 ∷ 48 ∷ 48 ∷ 48 ∷ 32 ∷ 48 ∷ 10 ∷ []) 65
  -- book 0 1000000005 1000000005 0
  pub units_behind_billions : ours (pos 1 ∷ []) (pos 1_000_000_005 ∷ []) room
      ≡ line 31
      (98 ∷ 111 ∷ 111 ∷ 107 ∷ 32 ∷ 48 ∷ 32 ∷ 49 ∷ 48 ∷ 48 ∷ 48 ∷ 48 ∷ 48 ∷ 48 ∷ 48 ∷ 48 ∷ 53 ∷ 32 ∷ 49 ∷ 48 ∷ 48 ∷ 48 ∷ 48 ∷ 48 ∷
      48 ∷ 48 ∷ 48 ∷ 53 ∷ 32 ∷ 48 ∷ 10 ∷ []) 65
  -- book 0 999999999 1000000000 -1
  pub below_a_billion : ours (pos 1 ∷ negsuc 0 ∷ []) (pos 1_000_000_000 ∷ pos 1 ∷ []) room
      ≡ line 31
      (98 ∷ 111 ∷ 111 ∷ 107 ∷ 32 ∷ 48 ∷ 32 ∷ 57 ∷ 57 ∷ 57 ∷ 57 ∷ 57 ∷ 57 ∷ 57 ∷ 57 ∷ 57 ∷ 32 ∷ 49 ∷ 48 ∷ 48 ∷ 48 ∷ 48 ∷ 48 ∷ 48 ∷
      48 ∷ 48 ∷ 48 ∷ 32 ∷ 45 ∷ 49 ∷ 10 ∷ []) 65
  -- book 0 999999999999999999 1000000000000000000 -1
  pub billions_of_billions : ours (pos 1000 ∷ negsuc 0 ∷ []) (pos 1_000_000_000_000_000 ∷ pos 1 ∷ []) room
      ≡ line 49
      (98 ∷ 111 ∷ 111 ∷ 107 ∷ 32 ∷ 48 ∷ 32 ∷ 57 ∷ 57 ∷ 57 ∷ 57 ∷ 57 ∷ 57 ∷ 57 ∷ 57 ∷ 57 ∷ 57 ∷ 57 ∷ 57 ∷ 57 ∷ 57 ∷ 57 ∷ 57 ∷ 57 ∷
      57 ∷ 32 ∷ 49 ∷ 48 ∷ 48 ∷ 48 ∷ 48 ∷ 48 ∷ 48 ∷ 48 ∷ 48 ∷ 48 ∷ 48 ∷ 48 ∷ 48 ∷ 48 ∷ 48 ∷ 48 ∷ 48 ∷ 48 ∷ 48 ∷ 32 ∷ 45 ∷ 49 ∷ 10 ∷
      []) 47
  -- book 0 0 200000000000000000000000 -200000000000000000000000
  pub beyond_64_bits : ours (pos 1_000_000 ∷ negsuc 999_999 ∷ []) (pos 200_000_000_000_000_000 ∷ pos 200_000_000_000_000_000 ∷ []) room
      ≡ line 60
      (98 ∷ 111 ∷ 111 ∷ 107 ∷ 32 ∷ 48 ∷ 32 ∷ 48 ∷ 32 ∷ 50 ∷ 48 ∷ 48 ∷ 48 ∷ 48 ∷ 48 ∷ 48 ∷ 48 ∷ 48 ∷ 48 ∷ 48 ∷ 48 ∷ 48 ∷ 48 ∷ 48 ∷
      48 ∷ 48 ∷ 48 ∷ 48 ∷ 48 ∷ 48 ∷ 48 ∷ 48 ∷ 48 ∷ 32 ∷ 45 ∷ 50 ∷ 48 ∷ 48 ∷ 48 ∷ 48 ∷ 48 ∷ 48 ∷ 48 ∷ 48 ∷ 48 ∷ 48 ∷ 48 ∷ 48 ∷ 48 ∷
      48 ∷ 48 ∷ 48 ∷ 48 ∷ 48 ∷ 48 ∷ 48 ∷ 48 ∷ 48 ∷ 48 ∷ 10 ∷ []) 36
  -- book 0 0 21 -21
  pub nets_to_nothing : ours (pos 7 ∷ negsuc 6 ∷ []) (pos 3 ∷ pos 3 ∷ []) room
      ≡ line 16
      (98 ∷ 111 ∷ 111 ∷ 107 ∷ 32 ∷ 48 ∷ 32 ∷ 48 ∷ 32 ∷ 50 ∷ 49 ∷ 32 ∷ 45 ∷ 50 ∷ 49 ∷ 10 ∷ []) 80
  -- book 0 -200000000000000000 0 -200000000000000000
  pub least_value_taken : ours (pos 1 ∷ []) (negsuc 199_999_999_999_999_999 ∷ []) room
      ≡ line 49
      (98 ∷ 111 ∷ 111 ∷ 107 ∷ 32 ∷ 48 ∷ 32 ∷ 45 ∷ 50 ∷ 48 ∷ 48 ∷ 48 ∷ 48 ∷ 48 ∷ 48 ∷ 48 ∷ 48 ∷ 48 ∷ 48 ∷ 48 ∷ 48 ∷ 48 ∷ 48 ∷ 48 ∷
      48 ∷ 48 ∷ 32 ∷ 48 ∷ 32 ∷ 45 ∷ 50 ∷ 48 ∷ 48 ∷ 48 ∷ 48 ∷ 48 ∷ 48 ∷ 48 ∷ 48 ∷ 48 ∷ 48 ∷ 48 ∷ 48 ∷ 48 ∷ 48 ∷ 48 ∷ 48 ∷ 48 ∷ 10 ∷
      []) 47
  -- 4,096 positions of nothing: book 0 0 0 0
  pub many : ours (replicate 4_096 (pos 0)) (replicate 4_096 (pos 7)) room
      ≡ line 13 (98 ∷ 111 ∷ 111 ∷ 107 ∷ 32 ∷ 48 ∷ 32 ∷ 48 ∷ 32 ∷ 48 ∷ 32 ∷ 48 ∷ 10 ∷ []) 83
  -- What stands behind the line stays in its place.
  pub rest_kept : ours [] [] (counting 96 0)
      ≡ record {
        number = 0;
        values = 13 ∷ [];
        left = (98 ∷ 111 ∷ 111 ∷ 107 ∷ 32 ∷ 48 ∷ 32 ∷ 48 ∷ 32 ∷ 48 ∷ 32 ∷ 48 ∷ 10 ∷ []) ++ counting 83 13;
      }
  -- Refused: what was lent is left.
  pub value_missing : ours (pos 1 ∷ []) [] room ≡ refused 28 room
  pub nominal_missing : ours [] (pos 1 ∷ []) room ≡ refused 28 room
  pub nominal_over : ours (pos 1_000_001 ∷ []) (pos 1 ∷ []) room ≡ refused 28 room
  pub nominal_under : ours (negsuc 1_000_000 ∷ []) (pos 1 ∷ []) room ≡ refused 28 room
  pub value_over : ours (pos 1 ∷ []) (pos 200_000_000_000_000_001 ∷ []) room ≡ refused 28 room
  pub value_under : ours (pos 1 ∷ []) (negsuc 200_000_000_000_000_000 ∷ []) room ≡ refused 28 room
  -- the least of 64 bits, -9,223,372,036,854,775,808
  pub least_nominal : ours (negsuc 9_223_372_036_854_775_807 ∷ []) (pos 1 ∷ []) room ≡ refused 28 room
  pub least_value : ours (pos 1 ∷ []) (negsuc 9_223_372_036_854_775_807 ∷ []) room ≡ refused 28 room
  pub too_many : ours (replicate 4_097 (pos 0)) (replicate 4_097 (pos 0)) room ≡ refused 28 room
  pub short_room : ours [] [] (replicate 95 0xFF) ≡ refused 2 (replicate 95 0xFF)
  pub length_before_book : ours (pos 1 ∷ []) [] (replicate 97 0xFF) ≡ refused 2 (replicate 97 0xFF)
