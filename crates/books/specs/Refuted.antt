-- Reporters other than ours, nearly all by one fault, and that none keeps the promise of a book. Proved in proofs/Refuted.antt.
use Rattle.std.specs.Prelude.{ℕ, suc, ◌-◌, ◌/◌, ◌%◌, ◌≡◌, Bool, true, false, cond, not, ◌&&◌, List, [], ◌∷◌, ◌++◌, reverse, eqb, leb, ltb, ℤ, pos, negsuc, nat_abs, neg_ℤ, ◌+ℤ◌, ◌*ℤ◌, length, take, drop, replicate}
use Rattle.hedges.specs.Hedges.{negative, with_sign}
use Rattle.lines.specs.Text.{decimal, signed}
use Rattle.amounts.specs.Amounts.{padded}
use Rattle.totals.specs.Totals.{gain_of, loss_of, total_of, total, gains, losses, all_within, taken}
use Rattle.book.specs.Lines.{line_of, book_line}
use Rattle.book.specs.Answers.{starting_with}
use Rattle.book.specs.Promise.{Result, Reporter, refuses, same_number, times_in, Keeps, ours}

-- Checks in their order: whether each is met, and its number.
abbrev pub Checks : Type 0
Checks = List (Bool × ℕ)

abbrev pub judged : Checks → List ℕ → List ℕ → Result
judged [] text lent = record { number = 0; values = length text ∷ []; left = starting_with text lent }
judged ((met, number) ∷ l) text lent = cond met (refuses number lent) (judged l text lent)

abbrev pub reporting : (List ℤ → List ℤ → List ℕ → Checks) → (List ℤ → List ℤ → List ℕ) → Reporter
reporting checks text nominals values lent = judged (checks nominals values lent) (text nominals values) lent

abbrev pub sized : List ℕ → Bool × ℕ
sized lent = (not (eqb (length lent) 96), 2)

abbrev pub booked : List ℤ → List ℤ → Bool × ℕ
booked nominals values = (not (taken nominals values), 28)

-- ---- other figures

abbrev pub with_text : (List ℤ → List ℤ → List ℕ) → Reporter
with_text = reporting (λ nominals values lent. sized lent ∷ booked nominals values ∷ [])

abbrev pub with_figures : (List ℤ → List ℤ → ℤ) → (List ℤ → List ℤ → ℤ) → (List ℤ → List ℤ → ℤ) → Reporter
with_figures first second third = with_text (λ nominals values. line_of (first nominals values) (second nominals values) (third nominals values))

-- The lowest 64 bits of a number, and what a machine reads them as, with a sign.
abbrev pub low_bits : ℤ → ℕ
low_bits (pos n) = n % 18_446_744_073_709_551_616
low_bits (negsuc n) = 18_446_744_073_709_551_615 - n % 18_446_744_073_709_551_616

abbrev pub wrapped : ℤ → ℤ
wrapped z = cond (ltb (low_bits z) 9_223_372_036_854_775_808) (pos (low_bits z)) (negsuc (18_446_744_073_709_551_615 - low_bits z))

abbrev pub wrapped_products : Reporter
wrapped_products = with_figures (total_of wrapped) (total_of (λ z. gain_of (wrapped z))) (total_of (λ z. loss_of (wrapped z)))

abbrev pub wrapped_totals : Reporter
wrapped_totals =
    with_figures (λ nominals values. wrapped (total nominals values)) (λ nominals values. wrapped (gains nominals values))
    (λ nominals values. wrapped (losses nominals values))

-- Gains and losses by a sign other than the product's: where it is below 0 all of the product is a loss, otherwise a gain.
abbrev pub added_by : (ℤ → ℤ → ℤ) → List ℤ → List ℤ → ℤ
added_by part [] values = pos 0
added_by part (nominal ∷ nominals) [] = pos 0
added_by part (nominal ∷ nominals) (value ∷ values) = part nominal value +ℤ added_by part nominals values

abbrev pub by_sign : (ℤ → ℤ → Bool) → Reporter
by_sign below =
    with_figures total (added_by (λ n w. cond (below n w) (pos 0) (with_sign false (nat_abs (n *ℤ w)))))
    (added_by (λ n w. cond (below n w) (with_sign true (nat_abs (n *ℤ w))) (pos 0)))

abbrev pub by_value : Reporter
by_value = by_sign (λ n w. negative w)

abbrev pub by_nominal : Reporter
by_nominal = by_sign (λ n w. negative n)

-- A short position with a W below 0 is a loss, like every other where one of the two is below 0.
abbrev pub short_is_loss : Reporter
short_is_loss = by_sign (λ n w. cond (negative n) true (negative w))

abbrev pub gains_as_losses : Reporter
gains_as_losses = with_figures total losses gains

abbrev pub losses_without_sign : Reporter
losses_without_sign = with_figures total gains (λ nominals values. neg_ℤ (losses nominals values))

abbrev pub sizes_added : Reporter
sizes_added = with_figures (λ nominals values. gains nominals values +ℤ neg_ℤ (losses nominals values)) gains losses

abbrev pub losses_not_taken_off : Reporter
losses_not_taken_off = with_figures gains gains losses

abbrev pub total_last : Reporter
total_last = with_figures gains losses total

-- Gains and losses of the book as a whole: they add to the total, and any order gives the same.
abbrev pub netted : Reporter
netted = with_figures total (λ nominals values. gain_of (total nominals values)) (λ nominals values. loss_of (total nominals values))

-- A unit more of both for each position, which cancels in the total.
abbrev pub both_more : Reporter
both_more = with_figures total (total_of (λ z. gain_of z +ℤ pos 1)) (total_of (λ z. loss_of z +ℤ negsuc 0))

-- All but the last position.
abbrev pub last_lost : Reporter
last_lost =
    with_text (λ nominals values. let few = length nominals - 1 in book_line (take few nominals) (take few values))

-- The nominals in another order than the values.
abbrev pub nominals_turned : Reporter
nominals_turned = with_text (λ nominals values. book_line (reverse nominals) values)

-- ---- other texts

abbrev pub line_by : (ℤ → List ℕ) → (ℤ → List ℕ) → (ℤ → List ℕ) → ℤ → ℤ → ℤ → List ℕ
line_by first second third x y z =
    98 ∷ 111 ∷ 111 ∷ 107 ∷ 32 ∷ 48 ∷ ((32 ∷ first x) ++ ((32 ∷ second y) ++ ((32 ∷ third z) ++ (10 ∷ []))))

abbrev pub printed_by : (ℤ → List ℕ) → (ℤ → List ℕ) → (ℤ → List ℕ) → Reporter
printed_by first second third =
    with_text (λ nominals values. line_by first second third (total nominals values) (gains nominals values) (losses nominals values))

-- A number of either sign by the text of its size.
abbrev pub signed_by : (ℕ → List ℕ) → ℤ → List ℕ
signed_by text (pos n) = text n
signed_by text (negsuc n) = 45 ∷ text (suc n)

-- Billions, and nine digits of units even where there are no billions.
abbrev pub leading_zeros : Reporter
leading_zeros = let text = signed_by (λ n. padded 9 (n / 1_000_000_000) ++ padded 9 (n % 1_000_000_000)) in printed_by text text text

-- Units without their leading zeros behind billions.
abbrev pub lost_zeros : Reporter
lost_zeros =
    let text = signed_by (λ n. cond (ltb n 1_000_000_000) (decimal n) (decimal (n / 1_000_000_000) ++ decimal (n % 1_000_000_000))) in
    printed_by text text text

abbrev pub minus_zero : Reporter
minus_zero = printed_by signed signed (λ z. 45 ∷ decimal (nat_abs z))

abbrev pub plus_sign : Reporter
plus_sign = printed_by signed (λ z. 43 ∷ signed z) signed

abbrev pub end_missing : Reporter
end_missing = with_text (λ nominals values. take (length (book_line nominals values) - 1) (book_line nominals values))

-- `book` and the figures, without the 0.
abbrev pub number_missing : Reporter
number_missing = with_text (λ nominals values. 98 ∷ 111 ∷ 111 ∷ 107 ∷ drop 6 (book_line nominals values))

-- ---- other checks

abbrev pub with_checks : (List ℤ → List ℤ → List ℕ → Checks) → Reporter
with_checks checks = reporting checks book_line

abbrev pub taken_with : ℕ → (List ℤ → Bool) → (List ℤ → Bool) → Reporter
taken_with positions nominals_good values_good =
    with_checks (λ nominals values lent.
    sized lent
    ∷ (not (eqb (length nominals) (length values) && (leb (length nominals) positions && (nominals_good nominals && values_good values))), 28)
    ∷ [])

-- At most so many positions, and nominals and values at most so far from 0.
abbrev pub limited_to : ℕ → ℕ → ℕ → Reporter
limited_to positions nominal value = taken_with positions (all_within nominal) (all_within value)

-- Not more than so much, and as far below 0 as may be.
abbrev pub below_only : ℕ → List ℤ → Bool
below_only most [] = true
below_only most (pos n ∷ l) = leb n most && below_only most l
below_only most (negsuc n ∷ l) = below_only most l

abbrev pub nominals_unbounded : Reporter
nominals_unbounded = taken_with 4_096 (below_only 1_000_000) (all_within 200_000_000_000_000_000)

abbrev pub values_unbounded : Reporter
values_unbounded = taken_with 4_096 (all_within 1_000_000) (below_only 200_000_000_000_000_000)

-- Lists of unlike length by the shorter one.
abbrev pub shorter_taken : Reporter
shorter_taken =
    with_checks (λ nominals values lent.
    sized lent
    ∷ (not (leb (length nominals) 4_096 && (all_within 1_000_000 nominals && all_within 200_000_000_000_000_000 values)), 28) ∷ [])

abbrev pub book_first : Reporter
book_first = with_checks (λ nominals values lent. booked nominals values ∷ sized lent ∷ [])

abbrev pub any_room : Reporter
any_room = with_checks (λ nominals values lent. booked nominals values ∷ [])

abbrev pub more_room_taken : Reporter
more_room_taken = with_checks (λ nominals values lent. (ltb (length lent) 96, 2) ∷ booked nominals values ∷ [])

abbrev pub book_answered_2 : Reporter
book_answered_2 = with_checks (λ nominals values lent. sized lent ∷ (not (taken nominals values), 2) ∷ [])

abbrev pub all_refused : Reporter
all_refused = with_checks (λ nominals values lent. sized lent ∷ (true, 28) ∷ [])

abbrev pub none_refused : Reporter
none_refused = with_checks (λ nominals values lent. sized lent ∷ [])

-- ---- other bytes left, or told

-- Ours, turned into something else.
abbrev pub turned_by : (List ℤ → List ℤ → List ℕ → Result → Result) → Reporter
turned_by turn nominals values lent = turn nominals values lent (ours nominals values lent)

abbrev pub refused_writes : Reporter
refused_writes =
    turned_by (λ nominals values lent o.
    cond (eqb o.number 28) (record { number = 28; values = []; left = starting_with (book_line nominals values) lent }) o)

abbrev pub refused_zeroes : Reporter
refused_zeroes = turned_by (λ nominals values lent o. cond (eqb o.number 0) o (refuses o.number (replicate (length lent) 0)))

abbrev pub refused_tells : Reporter
refused_tells = turned_by (λ nominals values lent o. record { number = o.number; values = length (book_line nominals values) ∷ []; left = o.left })

-- A refusal with a length of 0, where it has none.
abbrev pub refused_tells_nothing : Reporter
refused_tells_nothing =
    turned_by (λ nominals values lent o. cond (eqb o.number 0) o (record { number = o.number; values = 0 ∷ []; left = o.left }))

abbrev pub rest_zeroed : Reporter
rest_zeroed =
    turned_by (λ nominals values lent o.
    cond (eqb o.number 0) (record { number = 0; values = o.values; left = starting_with (book_line nominals values) (replicate 96 0) }) o)

abbrev pub not_written : Reporter
not_written = turned_by (λ nominals values lent o. record { number = o.number; values = o.values; left = lent })

abbrev pub room_told : Reporter
room_told = turned_by (λ nominals values lent o. cond (eqb o.number 0) (record { number = 0; values = 96 ∷ []; left = o.left }) o)

abbrev pub end_not_told : Reporter
end_not_told =
    turned_by (λ nominals values lent o.
    cond (eqb o.number 0) (record { number = 0; values = (length (book_line nominals values) - 1) ∷ []; left = o.left }) o)

-- ---- none keeps the promise

pub record NoneKeeps : Type 0 where
  pub wrapped_products : Keeps wrapped_products → ⊥
  pub wrapped_totals : Keeps wrapped_totals → ⊥
  pub by_value : Keeps by_value → ⊥
  pub by_nominal : Keeps by_nominal → ⊥
  pub short_is_loss : Keeps short_is_loss → ⊥
  pub gains_as_losses : Keeps gains_as_losses → ⊥
  pub losses_without_sign : Keeps losses_without_sign → ⊥
  pub sizes_added : Keeps sizes_added → ⊥
  pub losses_not_taken_off : Keeps losses_not_taken_off → ⊥
  pub total_last : Keeps total_last → ⊥
  pub netted_only : Keeps netted → ⊥
  pub both_more : Keeps both_more → ⊥
  pub last_lost : Keeps last_lost → ⊥
  pub nominals_turned : Keeps nominals_turned → ⊥
  pub leading_zeros : Keeps leading_zeros → ⊥
  pub lost_zeros : Keeps lost_zeros → ⊥
  pub minus_zero : Keeps minus_zero → ⊥
  pub plus_sign : Keeps plus_sign → ⊥
  pub end_missing : Keeps end_missing → ⊥
  pub number_missing : Keeps number_missing → ⊥
  pub one_position_more : Keeps (limited_to 4_097 1_000_000 200_000_000_000_000_000) → ⊥
  pub one_position_less : Keeps (limited_to 4_095 1_000_000 200_000_000_000_000_000) → ⊥
  pub nominal_more : Keeps (limited_to 4_096 1_000_001 200_000_000_000_000_000) → ⊥
  pub nominal_less : Keeps (limited_to 4_096 999_999 200_000_000_000_000_000) → ⊥
  pub value_more : Keeps (limited_to 4_096 1_000_000 200_000_000_000_000_001) → ⊥
  pub value_less : Keeps (limited_to 4_096 1_000_000 199_999_999_999_999_999) → ⊥
  pub nominals_unbounded : Keeps nominals_unbounded → ⊥
  pub values_unbounded : Keeps values_unbounded → ⊥
  pub shorter_taken : Keeps shorter_taken → ⊥
  pub book_first : Keeps book_first → ⊥
  pub any_room : Keeps any_room → ⊥
  pub more_room_taken : Keeps more_room_taken → ⊥
  pub book_answered_2 : Keeps book_answered_2 → ⊥
  pub all_refused : Keeps all_refused → ⊥
  pub none_refused : Keeps none_refused → ⊥
  pub refused_writes : Keeps refused_writes → ⊥
  pub refused_zeroes : Keeps refused_zeroes → ⊥
  pub refused_tells : Keeps refused_tells → ⊥
  pub refused_tells_nothing : Keeps refused_tells_nothing → ⊥
  pub rest_zeroed : Keeps rest_zeroed → ⊥
  pub not_written_lem : Keeps not_written → ⊥
  pub room_told : Keeps room_told → ⊥
  pub end_not_told : Keeps end_not_told → ⊥

-- The order is free for positions, not for the nominals alone: the totals of these differ.
abbrev pub NominalsAlone : Type 0
NominalsAlone =
    (a b values : List ℤ) (lent : List ℕ) → ((x : ℤ) → times_in same_number x a ≡ times_in same_number x b) → ours a values lent ≡ ours b values lent

-- What these are made of is ours where nothing is changed, and ours keeps the promise.
pub record Unchanged : Type 0 where
  pub kept : Keeps ours
  pub figures : with_figures total gains losses ≡ ours
  pub printed : printed_by signed signed signed ≡ ours
  pub checks : limited_to 4_096 1_000_000 200_000_000_000_000_000 ≡ ours
  pub turned : turned_by (λ nominals values lent o. o) ≡ ours
  pub signs : by_sign (λ n w. negative (n *ℤ w)) ≡ ours
  pub sizes : printed_by (signed_by decimal) (signed_by decimal) (signed_by decimal) ≡ ours
