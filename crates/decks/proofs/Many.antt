-- Decks too long to be computed: those of many steps or elapsed fractions, and the longest.
use Rattle.commands.specs.declared.Command.{Command}
use Rattle.commands.specs.declared.Command.TheVariants.{Enter, Act}
use Rattle.commands.specs.declared.Stop.{Stop}
use Rattle.commands.specs.declared.Stop.TheVariants.{Unknown, CutShort}
use Rattle.std.proofs.Common.{ℕ, zero, suc, ◌+◌, ◌-◌, ◌*◌, ◌≤◌, ◌<◌, ◌≡◌, refl, sym, ap, ◌∙◌, Bool, true, List, [], ◌∷◌, ◌++◌, append_assoc}
use Rattle.std.proofs.Common.{append-nil, add-zero, zero-add, suc-add, arith, lt-ltb, le-ltb, le-leb, leb, ltb, lit≤, length, get_or, length-append}
use Rattle.std.proofs.Common.{get_or-append-add, Result, Ok, Err}
use Rattle.commands.specs.declared.Entry.{Entry}
use Rattle.commands.specs.declared.Entry.TheVariants.{Pool, Attachment, Hazard, Step, Coupon, Elapsed}
use Rattle.commands.specs.declared.Order.TheVariants.{Issue, Withdraw, Open, Back, Value, Delta, Forward}
use Rattle.commands.specs.Commands.{low_first, operands, commands, pick, is_command, command_at, entry_size, order_size}
use Rattle.register.specs.Events as Register
use Rattle.register.specs.Register.{issue_answer}
use Rattle.walk.specs.Answers.{said_by}
use Rattle.entries.specs.Draft.{Draft, empty_draft, has_room, added}
use Rattle.machine.specs.Machine.{Machine, fresh_machine}
use Rattle.machine.specs.Transitions.{transition_of}
use Rattle.render.specs.Lines.{order_line, deck_line}
use Rattle.listings.specs.Effects.{stop, go_on, with_draft, entry_effect, order_effect, effect_of}
use Rattle.execution.proofs.EffectLaws.{full_effect}
use Rattle.listings.specs.ListingFrom.{listing_from}
use Rattle.listings.proofs.Laws.{past, on, last}
use Rattle.listings.specs.Listing.{listing}
use Rattle.listings.proofs.Laws as Laws
use Rattle.decks.specs.Limits.{times, step, fraction, issue_seven, issue_line, too_many_steps, too_many_fractions, unknown_first, oversized}
use Rattle.decks.proofs.Computing.{printed}

-- ---- bytes behind others are read as if they stood alone

module _ (a s : List ℕ) where
  low_behind : (width i j : ℕ) → j ≡ length a + i → low_first width (a ++ s) j ≡ low_first width s i
  unfolding low_first
  low_behind zero i j e = refl
  low_behind (suc width) i j e =
      λ t. (ap (λ (k : ℕ). get_or (a ++ s) k 0) e ∙ get_or-append-add a s i 0) t + 256 * low_behind width (i + 1) (j + 1) (omega arith) t

  commands_behind : (i j : ℕ) → j ≡ length a + i → commands (a ++ s) j ≡ commands s i
  unfolding commands
  commands_behind i j e =
      let at : (width : ℕ) → low_first width (a ++ s) j ≡ low_first width s i = λ width. low_behind width i j e in
      let by : (width d : ℕ) → low_first width (a ++ s) (j + d) ≡ low_first width s (i + d) =
      λ width d. low_behind width (i + d) (j + d) (omega arith) in
      λ t.
      Err Unknown
      ∷ Ok (Enter (Pool (at 1 t) (by 2 1 t) (by 1 3 t) (by 4 4 t) (by 1 8 t)))
      ∷ Ok (Enter (Attachment (at 4 t)))
      ∷ Ok (Enter (Hazard (at 4 t)))
      ∷ Ok (Enter (Step (at 4 t) (by 4 4 t)))
      ∷ Ok (Enter (Coupon (at 4 t)))
      ∷ Ok (Act (Issue (at 1 t)))
      ∷ Ok (Act (Withdraw (at 1 t)))
      ∷ Ok (Act Open)
      ∷ Ok (Act (Back (at 2 t)))
      ∷ Ok (Act (Value (at 1 t) (by 1 1 t)))
      ∷ Ok (Act (Delta (at 1 t) (by 1 1 t)))
      ∷ Ok (Act (Forward (at 2 t) (by 1 2 t)))
      ∷ Ok (Enter (Elapsed (at 4 t)))
      ∷ []

  command_behind : command_at (a ++ s) (length a) ≡ command_at s 0
  unfolding command_at
  command_behind =
      let code : get_or (a ++ s) (length a) 0 ≡ get_or s 0 0 = ap (λ (k : ℕ). get_or (a ++ s) k 0) (sym (add-zero (length a))) ∙ get_or-append-add a s 0 0 in
      let rest : length (a ++ s) - (length a + 1) ≡ length s - 1 = simp length-append (omega arith) in
      let them : commands (a ++ s) (length a + 1) ≡ commands s 1 = commands_behind 1 (length a + 1) refl in
      λ t. pick (is_command (code t)) (pick (leb (operands (code t)) (rest t)) (get_or (them t) (code t) (Err Unknown)) (Err CutShort)) (Err Unknown)

-- ---- a step, an elapsed fraction and an issue

step_read : (s : List ℕ) → command_at (step ++ s) 0 ≡ Ok (Enter (Step 1_000_000_000 1))
unfolding command_at operands commands low_first
step_read s =
    let whole : leb 8 (length (step ++ s) - 1) ≡ true = le-leb 8 (length (step ++ s) - 1) (omega arith) in
    ap (λ (b : Bool). pick b (Ok (Enter (Step 1_000_000_000 1))) (Err CutShort)) whole

fraction_read : (s : List ℕ) → command_at (fraction ++ s) 0 ≡ Ok (Enter (Elapsed 1))
unfolding command_at operands commands low_first
fraction_read s =
    let whole : leb 4 (length (fraction ++ s) - 1) ≡ true = le-leb 4 (length (fraction ++ s) - 1) (omega arith) in
    ap (λ (b : Bool). pick b (Ok (Enter (Elapsed 1))) (Err CutShort)) whole

issue_read : command_at issue_seven 0 ≡ Ok (Act (Issue 7))
unfolding command_at operands commands low_first
issue_read = refl

issue_on_lem : (at : ℕ) (s : Machine) → s.register ≡ Register.blank_register → effect_of (Ok (Act (Issue 7))) at s ≡ go_on issue_line (at + 2) (transition_of (Issue 7) s).next
unfolding effect_of order_effect order_size transition_of printed
issue_on_lem at s e = ap (λ (g : List ℕ). go_on (order_line (Issue 7) (said_by (issue_answer g 7))) (at + 2) (transition_of (Issue 7) s).next) e

length_times : (n : ℕ) (c : List ℕ) → length (times n c) ≡ n * length c
unfolding times
length_times zero c = omega arith
length_times (suc n) c = simp length-append (omega (arith, length_times n c))

-- ---- an entry of a list that takes 3,650: its bytes, what it enters, and how many of it are held

record Counted (bytes : List ℕ) (entry : Entry) (held : Draft → ℕ) : Type 0 where
  some : 1 ≤ length bytes
  read : (s : List ℕ) → command_at (bytes ++ s) 0 ≡ Ok (Enter entry)
  size : entry_size entry ≡ length bytes
  room : (g : Draft) → has_room entry g ≡ ltb (held g) 3650
  more : (g : Draft) → held (added entry g) ≡ held g + 1
  none : held empty_draft ≡ 0

module _ {bytes : List ℕ} {entry : Entry} {held : Draft → ℕ} (c : Counted bytes entry held) where
  abbrev entered : Machine → Machine
  entered s = with_draft s (added entry s.draft)

  entry_on : (at : ℕ) (s : Machine) → held s.draft < 3650 → effect_of (Ok (Enter entry)) at s ≡ go_on [] (at + length bytes) (entered s)
  unfolding effect_of entry_effect
  entry_on at s h =
      let free : has_room entry s.draft ≡ true = c.room s.draft ∙ lt-ltb (held s.draft) 3650 h in
      rw (free, entry_effect) (ap (λ (k : ℕ). go_on [] (at + k) (entered s)) c.size)

  entry_last : (at : ℕ) (s : Machine) → 3650 ≤ held s.draft → effect_of (Ok (Enter entry)) at s ≡ stop (deck_line 20 at)
  unfolding effect_of
  entry_last at s h = full_effect entry at s (c.room s.draft ∙ le-ltb (held s.draft) 3650 h)

  -- ---- many

  -- Where the run stands after n of them.
  record After (deck : List ℕ) (n commands_left at : ℕ) (s : Machine) : Type 0 where
    state : Machine
    prints : listing_from (n + commands_left) deck at s ≡ listing_from commands_left deck (at + length (times n bytes)) state
    holds : held state.draft ≡ held s.draft + n
    register : state.register ≡ s.register

  after : (n commands_left : ℕ) (deck a rest : List ℕ) (at : ℕ) (s : Machine) → deck ≡ a ++ (times n bytes ++ rest) → at ≡ length a →
      held s.draft + n ≤ 3650 → After deck n commands_left at s
  unfolding times
  after zero commands_left deck a rest at s e p h =
      record {
        state = s;
        prints = (λ j. listing_from (zero-add commands_left j) deck (sym (add-zero at) j) s);
        holds = sym (add-zero _);
        register = refl;
      }
  after (suc n) commands_left deck a rest at s e p h =
      let split : deck ≡ a ++ (bytes ++ (times n bytes ++ rest)) = e ∙ ap (λ (l : List ℕ). a ++ l) (append_assoc bytes (times n bytes) rest) in
      let long : length deck ≡ length a + (length bytes + length (times n bytes ++ rest)) = ap length split ∙ simp length-append (omega arith) in
      let reads : command_at deck at ≡ Ok (Enter entry) =
      (λ j. command_at (split j) (p j)) ∙ command_behind a (bytes ++ (times n bytes ++ rest)) ∙ c.read (times n bytes ++ rest) in
      let goes : effect_of (command_at deck at) at s ≡ go_on [] (at + length bytes) (entered s) =
      ap (λ (k : Result Command Stop). effect_of k at s) reads ∙ entry_on at s (omega arith) in
      let one : listing_from (suc (n + commands_left)) deck at s ≡ listing_from (n + commands_left) deck (at + length bytes) (entered s) =
      on deck at s (n + commands_left) [] (at + length bytes) (entered s) (omega (arith, c.some)) goes in
      let more = c.more s.draft in
      let q : at + length bytes ≡ length (a ++ bytes) = simp length-append (omega arith) in
      let rest_of =
      after n commands_left deck (a ++ bytes) rest (at + length bytes) (entered s) (split ∙ sym (append_assoc a bytes (times n bytes ++ rest))) q
      (omega arith) in
      let place : at + length bytes + length (times n bytes) ≡ at + length (bytes ++ times n bytes) = simp length-append (omega arith) in
      record {
        state = rest_of.state;
        prints =
            ap (λ (k : ℕ). listing_from k deck at s) (suc-add n commands_left)
            ∙ one
            ∙ rest_of.prints
            ∙ ap (λ (k : ℕ). listing_from commands_left deck k rest_of.state) place;
        holds = omega (arith, rest_of.holds);
        register = rest_of.register;
      }

  many_long : (n : ℕ) → n ≤ length (times n bytes)
  unfolding times
  many_long zero = omega arith
  many_long (suc n) = simp length-append (omega (arith, many_long n, c.some))

  -- As many as there may be, or fewer, and what stands behind them.
  module _ (n : ℕ) (few : n ≤ 3650) (rest : List ℕ) where
    abbrev deck : List ℕ
    deck = times n bytes ++ rest

    -- where the rest starts, and how many bytes there are beside n
    abbrev there : ℕ
    there = length (times n bytes)

    abbrev left : ℕ
    left = length deck - n

    long : length deck ≡ there + length rest
    long = length-append (times n bytes) rest

    full : After deck n left 0 fresh_machine
    full = after n left deck [] rest 0 fresh_machine refl refl (omega (arith, c.none))

    from_there : length deck ≤ 65536 → listing deck ≡ listing_from left deck there full.state
    from_there h =
        let commands_left : length deck ≡ n + left = omega (arith, long, many_long n) in
        sym (Laws.sized _ deck h)
        ∙ ap (λ (k : ℕ). listing_from k deck 0 fresh_machine) commands_left
        ∙ full.prints
        ∙ ap (λ (k : ℕ). listing_from left deck k full.state) (zero-add there)

    read_there : command_at deck there ≡ command_at rest 0
    read_there = command_behind (times n bytes) rest

  -- What prints a line behind them, and one more than there may be.
  gone_on : (n : ℕ) → n ≤ 3650 → length (times n bytes) ≤ 65534 → listing (times n bytes ++ issue_seven) ≡ issue_line
  gone_on n few h =
      let s = (full n few issue_seven).state in
      let t = (transition_of (Issue 7) s).next in
      let d = deck n few issue_seven in
      let at = there n few issue_seven in
      let size = long n few issue_seven in
      let less : ℕ = left n few issue_seven - 1 in
      let goes : effect_of (command_at d at) at s ≡ go_on issue_line (at + 2) t =
      ap (λ (k : Result Command Stop). effect_of k at s) (read_there n few issue_seven ∙ issue_read) ∙ issue_on_lem at s (full n few issue_seven).register in
      let commands_left : left n few issue_seven ≡ suc less = omega (arith, size, many_long n) in
      from_there n few issue_seven (omega (arith, size))
      ∙ ap (λ (k : ℕ). listing_from k d at s) commands_left
      ∙ on d at s less issue_line (at + 2) t (omega (arith, size)) goes
      ∙ ap (λ (l : List ℕ). issue_line ++ l) (past d (at + 2) t less (omega (arith, size)))

  one_more : length (times 3650 bytes) + length bytes ≤ 65536 → listing (times 3650 bytes ++ bytes) ≡ deck_line 20 (length (times 3650 bytes))
  one_more h =
      let few : 3650 ≤ 3650 = lit≤ tt in
      let s = (full 3650 few bytes).state in
      let d = deck 3650 few bytes in
      let at = there 3650 few bytes in
      let size = long 3650 few bytes in
      let less : ℕ = left 3650 few bytes - 1 in
      let goes : effect_of (command_at d at) at s ≡ stop (deck_line 20 at) =
      ap (λ (k : Result Command Stop). effect_of k at s) (read_there 3650 few bytes ∙ ap (λ (l : List ℕ). command_at l 0) (sym (append-nil bytes)) ∙ c.read [])
      ∙ entry_last at s (omega (arith, (full 3650 few bytes).holds)) in
      let commands_left : left 3650 few bytes ≡ suc less = omega (arith, size, many_long 3650, c.some) in
      from_there 3650 few bytes (omega (arith, size))
      ∙ ap (λ (k : ℕ). listing_from k d at s) commands_left
      ∙ last d at s less (deck_line 20 at) (omega (arith, size, c.some)) goes

-- ---- steps, and elapsed fractions

abbrev step_entry : Entry
step_entry = Step 1_000_000_000 1

counted_steps : Counted step step_entry (λ g. length g.brought.sheet.discounts)
unfolding has_room added entry_size
counted_steps =
    record {
      some = lit≤ tt;
      read = step_read;
      size = refl;
      room = λ g. refl;
      more = λ g. length-append g.brought.sheet.discounts _;
      none = refl;
    }

counted_fractions : Counted fraction (Elapsed 1) (λ g. length g.elapsed)
unfolding has_room added entry_size
counted_fractions =
    record {
      some = lit≤ tt;
      read = fraction_read;
      size = refl;
      room = λ g. refl;
      more = λ g. length-append g.elapsed _;
      none = refl;
    }

pub steps : (n : ℕ) → n ≤ 3650 → listing (times n step ++ issue_seven) ≡ issue_line
steps n few = gone_on counted_steps n few (omega (arith, length_times n step))

pub fractions : (n : ℕ) → n ≤ 3650 → listing (times n fraction ++ issue_seven) ≡ issue_line
fractions n few = gone_on counted_fractions n few (omega (arith, length_times n fraction))

steps_line : deck_line 20 32850 ≡ too_many_steps
unfolding printed
steps_line = refl

fractions_line : deck_line 20 18250 ≡ too_many_fractions
unfolding printed
fractions_line = refl

pub one_step_more : listing (times 3650 step ++ step) ≡ too_many_steps
one_step_more =
    let size : length (times 3650 step) ≡ 32850 = length_times 3650 step in one_more counted_steps (omega (arith, size)) ∙ ap (deck_line 20) size ∙ steps_line

pub one_fraction_more : listing (times 3650 fraction ++ fraction) ≡ too_many_fractions
one_fraction_more =
    let size : length (times 3650 fraction) ≡ 18250 = length_times 3650 fraction in
    one_more counted_fractions (omega (arith, size)) ∙ ap (deck_line 20) size ∙ fractions_line

-- ---- the longest deck

unknown_line : deck_line 18 0 ≡ unknown_first
unfolding printed
unknown_line = refl

oversized_line : deck_line 20 65536 ≡ oversized
unfolding printed
oversized_line = refl

unknown : (s : List ℕ) → effect_of (command_at (0 ∷ s) 0) 0 fresh_machine ≡ stop (deck_line 18 0)
unfolding effect_of command_at
unknown s = refl

pub bytes : (s : List ℕ) → length s ≤ 65535 → listing (0 ∷ s) ≡ unknown_first
bytes s h =
    sym (Laws.sized _ (0 ∷ s) (omega arith)) ∙ last (0 ∷ s) 0 fresh_machine (length s) (deck_line 18 0) (omega arith) (unknown s) ∙ unknown_line

pub one_byte_more : (s : List ℕ) → 65536 ≤ length s → listing (0 ∷ s) ≡ oversized
one_byte_more s h = sym (Laws.oversized _ (0 ∷ s) (omega arith)) ∙ oversized_line
