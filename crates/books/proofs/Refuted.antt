-- No wrong reporter keeps the promise: each tells or leaves something else than ours at the book named.
use Rattle.std.proofs.Common.{ℕ, ◌≡◌, refl, sym, ◌∙◌, ap, Bool, true, false, cond, not, List, [], ◌∷◌, arith, eqb, ℤ, pos, negsuc, nat_abs, ◌+ℤ◌}
use Rattle.std.proofs.Common.{◌*ℤ◌, length, get_or, replicate}
use Rattle.hedges.specs.Hedges.{negative, with_sign}
use Rattle.lines.specs.Text.{decimal, signed, field}
use Rattle.amounts.specs.Amounts.{padded}
use Rattle.totals.specs.Totals.{gain_of, loss_of, total_of, total, gains, losses, all_within, taken}
use Rattle.book.specs.Lines.{line_of, book_line}
use Rattle.book.specs.Answers.{starting_with}
use Rattle.book.specs.Promise.{Result, Reporter, refuses, Keeps, ours}
use Rattle.book.proofs.Promise.{ours_keeps, ours_alone, our_told}
use Rattle.books.specs.Refuted.{all_refused, any_room, book_answered_2, book_first, both_more, by_nominal, by_value, end_missing}
use Rattle.books.specs.Refuted.{end_not_told, gains_as_losses, last_lost, leading_zeros, limited_to, losses_not_taken_off}
use Rattle.books.specs.Refuted.{losses_without_sign, lost_zeros, minus_zero, more_room_taken, netted, nominals_turned}
use Rattle.books.specs.Refuted.{nominals_unbounded, none_refused, not_written, number_missing, plus_sign, refused_tells}
use Rattle.books.specs.Refuted.{refused_tells_nothing, refused_writes, refused_zeroes, rest_zeroed, room_told, short_is_loss}
use Rattle.books.specs.Refuted.{shorter_taken, sizes_added, total_last, values_unbounded, wrapped_products, wrapped_totals}
use Rattle.books.specs.Refuted.{judged, with_text, signed_by, line_by, added_by}
use Rattle.books.specs.Refuted.{NoneKeeps, NominalsAlone, Unchanged}

-- What is seen of a result: the number, the bytes told, how many figures are told, or one byte of those left.
abbrev number : Result → ℕ
number o = o.number

abbrev bytes : Result → ℕ
bytes o = get_or o.values 0 0

abbrev told : Result → ℕ
told o = length o.values

abbrev byte : ℕ → Result → ℕ
byte place o = get_or o.left place 0

abbrev room : List ℕ
room = replicate 96 0xFF

by : (seen : Result → ℕ) (f : Reporter) (nominals values : List ℤ) (lent : List ℕ) →
    ((seen (f nominals values lent) ≡ seen (ours nominals values lent)) → ⊥) → Keeps f → ⊥
by seen f nominals values lent h k = h (ap (λ (g : Reporter). seen (g nominals values lent)) (ours_alone f k))

pub none_keeps : NoneKeeps
unfolding with_sign decimal signed field padded total_of all_within line_of
none_keeps =
    record {
      wrapped_products =
          by bytes wrapped_products (pos 1_000_000 ∷ []) (pos 200_000_000_000_000_000 ∷ []) room
          (λ (z : ◌≡◌ {A = ℕ} 47 59). omega arith);
      wrapped_totals =
          by bytes wrapped_totals (pos 1_000_000 ∷ pos 1_000_000 ∷ []) (pos 10_000_000_000_000 ∷ pos 10_000_000_000_000 ∷ []) room
          (λ (z : ◌≡◌ {A = ℕ} 49 51). omega arith);
      by_value = by bytes by_value (negsuc 1 ∷ []) (negsuc 2 ∷ []) room (λ (z : ◌≡◌ {A = ℕ} 14 13). omega arith);
      by_nominal = by bytes by_nominal (negsuc 1 ∷ []) (negsuc 2 ∷ []) room (λ (z : ◌≡◌ {A = ℕ} 14 13). omega arith);
      short_is_loss = by bytes short_is_loss (negsuc 1 ∷ []) (negsuc 2 ∷ []) room (λ (z : ◌≡◌ {A = ℕ} 14 13). omega arith);
      gains_as_losses = by (byte 9) gains_as_losses (pos 1 ∷ []) (pos 5 ∷ []) room (λ (z : ◌≡◌ {A = ℕ} 48 53). omega arith);
      losses_without_sign = by bytes losses_without_sign (pos 1 ∷ []) (negsuc 4 ∷ []) room (λ (z : ◌≡◌ {A = ℕ} 14 15). omega arith);
      sizes_added = by bytes sizes_added (pos 1 ∷ []) (negsuc 4 ∷ []) room (λ (z : ◌≡◌ {A = ℕ} 14 15). omega arith);
      losses_not_taken_off = by bytes losses_not_taken_off (pos 1 ∷ []) (negsuc 4 ∷ []) room (λ (z : ◌≡◌ {A = ℕ} 14 15). omega arith);
      total_last = by (byte 9) total_last (pos 1 ∷ []) (pos 5 ∷ []) room (λ (z : ◌≡◌ {A = ℕ} 48 53). omega arith);
      netted_only = by bytes netted (pos 7 ∷ negsuc 6 ∷ []) (pos 3 ∷ pos 3 ∷ []) room (λ (z : ◌≡◌ {A = ℕ} 13 16). omega arith);
      both_more = by bytes both_more (pos 1 ∷ []) (pos 5 ∷ []) room (λ (z : ◌≡◌ {A = ℕ} 14 13). omega arith);
      last_lost = by bytes last_lost (pos 1 ∷ pos 1 ∷ []) (pos 5 ∷ pos 6 ∷ []) room (λ (z : ◌≡◌ {A = ℕ} 13 15). omega arith);
      nominals_turned = by (byte 8) nominals_turned (pos 1 ∷ pos 2 ∷ []) (pos 5 ∷ pos 6 ∷ []) room (λ (z : ◌≡◌ {A = ℕ} 54 55). omega arith);
      leading_zeros = by bytes leading_zeros (pos 1 ∷ []) (pos 5 ∷ []) room (λ (z : ◌≡◌ {A = ℕ} 64 13). omega arith);
      lost_zeros = by bytes lost_zeros (pos 1 ∷ []) (pos 1_000_000_005 ∷ []) room (λ (z : ◌≡◌ {A = ℕ} 15 31). omega arith);
      minus_zero = by bytes minus_zero (pos 1 ∷ []) (pos 5 ∷ []) room (λ (z : ◌≡◌ {A = ℕ} 14 13). omega arith);
      plus_sign = by bytes plus_sign (pos 1 ∷ []) (pos 5 ∷ []) room (λ (z : ◌≡◌ {A = ℕ} 14 13). omega arith);
      end_missing = by bytes end_missing (pos 1 ∷ []) (pos 5 ∷ []) room (λ (z : ◌≡◌ {A = ℕ} 12 13). omega arith);
      number_missing = by bytes number_missing (pos 1 ∷ []) (pos 5 ∷ []) room (λ (z : ◌≡◌ {A = ℕ} 11 13). omega arith);
      one_position_more =
          by number (limited_to 4_097 1_000_000 200_000_000_000_000_000) (replicate 4_097 (pos 0)) (replicate 4_097 (pos 0)) room
          (λ (z : ◌≡◌ {A = ℕ} 0 28). omega arith);
      one_position_less =
          by number (limited_to 4_095 1_000_000 200_000_000_000_000_000) (replicate 4_096 (pos 0)) (replicate 4_096 (pos 0)) room
          (λ (z : ◌≡◌ {A = ℕ} 28 0). omega arith);
      nominal_more =
          by number (limited_to 4_096 1_000_001 200_000_000_000_000_000) (pos 1_000_001 ∷ []) (pos 1 ∷ []) room
          (λ (z : ◌≡◌ {A = ℕ} 0 28). omega arith);
      nominal_less =
          by number (limited_to 4_096 999_999 200_000_000_000_000_000) (negsuc 999_999 ∷ []) (pos 1 ∷ []) room
          (λ (z : ◌≡◌ {A = ℕ} 28 0). omega arith);
      value_more =
          by number (limited_to 4_096 1_000_000 200_000_000_000_000_001) (pos 1 ∷ []) (negsuc 200_000_000_000_000_000 ∷ []) room
          (λ (z : ◌≡◌ {A = ℕ} 0 28). omega arith);
      value_less =
          by number (limited_to 4_096 1_000_000 199_999_999_999_999_999) (pos 1 ∷ []) (pos 200_000_000_000_000_000 ∷ []) room
          (λ (z : ◌≡◌ {A = ℕ} 28 0). omega arith);
      nominals_unbounded =
          by number nominals_unbounded (negsuc 9_223_372_036_854_775_807 ∷ []) (pos 1 ∷ []) room
          (λ (z : ◌≡◌ {A = ℕ} 0 28). omega arith);
      values_unbounded = by number values_unbounded (pos 1 ∷ []) (negsuc 9_223_372_036_854_775_807 ∷ []) room (λ (z : ◌≡◌ {A = ℕ} 0 28). omega arith);
      shorter_taken = by number shorter_taken (pos 1 ∷ pos 1 ∷ []) (pos 5 ∷ []) room (λ (z : ◌≡◌ {A = ℕ} 0 28). omega arith);
      book_first = by number book_first (pos 1 ∷ []) [] (replicate 0 0xFF) (λ (z : ◌≡◌ {A = ℕ} 28 2). omega arith);
      any_room = by number any_room [] [] (replicate 95 0xFF) (λ (z : ◌≡◌ {A = ℕ} 0 2). omega arith);
      more_room_taken = by number more_room_taken [] [] (replicate 97 0xFF) (λ (z : ◌≡◌ {A = ℕ} 0 2). omega arith);
      book_answered_2 = by number book_answered_2 (pos 1 ∷ []) [] room (λ (z : ◌≡◌ {A = ℕ} 2 28). omega arith);
      all_refused = by number all_refused [] [] room (λ (z : ◌≡◌ {A = ℕ} 28 0). omega arith);
      none_refused = by number none_refused (pos 1_000_001 ∷ []) (pos 1 ∷ []) room (λ (z : ◌≡◌ {A = ℕ} 0 28). omega arith);
      refused_writes = by (byte 0) refused_writes (pos 1 ∷ []) [] room (λ (z : ◌≡◌ {A = ℕ} 98 255). omega arith);
      refused_zeroes = by (byte 0) refused_zeroes (pos 1 ∷ []) [] room (λ (z : ◌≡◌ {A = ℕ} 0 255). omega arith);
      refused_tells = by bytes refused_tells (pos 1 ∷ []) [] room (λ (z : ◌≡◌ {A = ℕ} 13 0). omega arith);
      refused_tells_nothing = by told refused_tells_nothing (pos 1 ∷ []) [] room (λ (z : ◌≡◌ {A = ℕ} 1 0). omega arith);
      rest_zeroed = by (byte 13) rest_zeroed [] [] room (λ (z : ◌≡◌ {A = ℕ} 0 255). omega arith);
      not_written_lem = by (byte 0) not_written [] [] room (λ (z : ◌≡◌ {A = ℕ} 255 98). omega arith);
      room_told = by bytes room_told [] [] room (λ (z : ◌≡◌ {A = ℕ} 96 13). omega arith);
      end_not_told = by bytes end_not_told [] [] room (λ (z : ◌≡◌ {A = ℕ} 12 13). omega arith);
    }

-- The nominals 1 and 2 in either order, with the values 5 and 6: 17 and 16.
pub nominals_alone : NominalsAlone → ⊥
unfolding with_sign decimal signed field total_of all_within line_of
nominals_alone h =
    let e = h (pos 1 ∷ pos 2 ∷ []) (pos 2 ∷ pos 1 ∷ []) (pos 5 ∷ pos 6 ∷ []) room (λ x. omega arith) in
    let z : ◌≡◌ {A = ℕ} 55 54 = ap (byte 8) e in
    omega arith

-- ---- unchanged where nothing is changed

same : (s t : Bool) (text lent : List ℕ) → judged ((not s, 2) ∷ (not t, 28) ∷ []) text lent
    ≡ cond s (cond t (record { number = 0; values = length text ∷ []; left = starting_with text lent }) (refuses 28 lent)) (refuses 2 lent)
same true true text lent = refl
same true false text lent = refl
same false t text lent = refl

-- Any text that is the book's line gives what ours gives.
module _ (text : List ℤ → List ℤ → List ℕ) (is : (ns ws : List ℤ) → text ns ws ≡ book_line ns ws) where
  our_text : with_text text ≡ ours
  our_text =
      λ i. λ ns ws lent.
      (
      same (eqb (length lent) 96) (taken ns ws) (text ns ws) lent
      ∙ ap
      (λ (t : List ℕ).
      cond (eqb (length lent) 96)
      (cond (taken ns ws) (record { number = 0; values = length t ∷ []; left = starting_with t lent }) (refuses 28 lent)) (refuses 2 lent))
      (is ns ws)
      ∙ sym (our_told ns ws lent)
      ) i

line_by_lem : (x y z : ℤ) → line_by signed signed signed x y z ≡ line_of x y z
unfolding line_of field
line_by_lem x y z = refl

size_by : (z : ℤ) → signed_by decimal z ≡ signed z
unfolding signed
size_by (pos n) = refl
size_by (negsuc n) = refl

line_by_size : (x y z : ℤ) → line_by (signed_by decimal) (signed_by decimal) (signed_by decimal) x y z ≡ line_of x y z
line_by_size x y z =
    ap (λ (t : List ℕ). line_by (λ u. t) (signed_by decimal) (signed_by decimal) x y z) (size_by x)
    ∙ ap (λ (t : List ℕ). line_by signed (λ u. t) (signed_by decimal) x y z) (size_by y)
    ∙ ap (λ (t : List ℕ). line_by signed signed (λ u. t) x y z) (size_by z) ∙ line_by_lem x y z

gain_by : (z : ℤ) → cond (negative z) (pos 0) (with_sign false (nat_abs z)) ≡ gain_of z
unfolding with_sign
gain_by (pos n) = refl
gain_by (negsuc n) = refl

loss_by : (z : ℤ) → cond (negative z) (with_sign true (nat_abs z)) (pos 0) ≡ loss_of z
unfolding with_sign
loss_by (pos n) = refl
loss_by (negsuc n) = refl

-- Parts of the products, one by one.
module _ (part : ℤ → ℤ → ℤ) (other : ℤ → ℤ) (is : (n w : ℤ) → part n w ≡ other (n *ℤ w)) where
  added_is : (ns ws : List ℤ) → added_by part ns ws ≡ total_of other ns ws
  unfolding total_of
  added_is [] ws = refl
  added_is (n ∷ ns) [] = refl
  added_is (n ∷ ns) (w ∷ ws) =
      ap (λ (z : ℤ). z +ℤ added_by part ns ws) (is n w) ∙ ap (λ (z : ℤ). other (n *ℤ w) +ℤ z) (added_is ns ws)

signs_line : (ns ws : List ℤ) →
    line_of (total ns ws) (added_by (λ n w. cond (negative (n *ℤ w)) (pos 0) (with_sign false (nat_abs (n *ℤ w)))) ns ws)
    (added_by (λ n w. cond (negative (n *ℤ w)) (with_sign true (nat_abs (n *ℤ w))) (pos 0)) ns ws)
    ≡ book_line ns ws
signs_line ns ws =
    ap
    (λ (x : ℤ).
    line_of (total ns ws) x (added_by (λ n w. cond (negative (n *ℤ w)) (with_sign true (nat_abs (n *ℤ w))) (pos 0)) ns ws))
    (added_is (λ n w. cond (negative (n *ℤ w)) (pos 0) (with_sign false (nat_abs (n *ℤ w)))) gain_of (λ n w. gain_by (n *ℤ w)) ns ws)
    ∙ ap (line_of (total ns ws) (gains ns ws))
    (added_is (λ n w. cond (negative (n *ℤ w)) (with_sign true (nat_abs (n *ℤ w))) (pos 0)) loss_of (λ n w. loss_by (n *ℤ w)) ns ws)

pub unchanged : Unchanged
unchanged =
    record {
      kept = ours_keeps;
      figures = our_text book_line (λ ns ws. refl);
      printed = our_text _ (λ ns ws. line_by_lem (total ns ws) (gains ns ws) (losses ns ws));
      checks = our_text book_line (λ ns ws. refl);
      turned = refl;
      signs = our_text _ signs_line;
      sizes = our_text _ (λ ns ws. line_by_size (total ns ws) (gains ns ws) (losses ns ws));
    }
