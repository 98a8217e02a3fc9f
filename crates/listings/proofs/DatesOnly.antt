-- A deck whose orders meet no fraction but 0 prints and leaves what it did: its rows keep to the earlier ceiling wherever 12 is asked.
use Rattle.refusals.specs.declared.Refusal.{Refusal}
use Rattle.std.specs.Prelude.{Result, Ok, Err, ⊤}
use mathlib.Core.Bool.{false≢true}
use native.Mathlib.Decide.{dec_le}
use borrow.Author.Tests.{lt-leb, eqb-false}
use lib.Arith.{digits_lt}
use lib.ListN.{get_or-append}
use Rattle.commands.specs.declared.Command.{Command}
use Rattle.commands.specs.declared.Command.TheVariants.{Enter, Act}
use Rattle.commands.specs.declared.Stop.{Stop}
use Rattle.commands.specs.declared.Stop.TheVariants.{Unknown, CutShort}
use Rattle.std.proofs.Common.{ℕ, zero, suc, ◌+◌, ◌-◌, ◌*◌, ◌≤◌, ◌<◌, min, ◌≡◌, refl, sym, ap, ◌∙◌, subst, Bool, true, false, not, ◌&&◌, ◌||◌}
use Rattle.std.proofs.Common.{true≢false, List, [], ◌∷◌, ◌++◌, le_of_eq, arith, le-leb, leb, ltb, eqb, length, get_or, replicate, take, drop}
use Rattle.std.proofs.Common.{take-append-drop, length-append, get_or-take, Result, Ok, Err}
use Rattle.commands.specs.declared.Entry.{Entry}
use Rattle.commands.specs.declared.Entry.TheVariants.{Pool, Attachment, Hazard, Step, Coupon, Elapsed}
use Rattle.commands.specs.declared.Order.{Order}
use Rattle.commands.specs.declared.Order.TheVariants.{Issue, Withdraw, Open, Back, Value, Delta, Forward}
use Rattle.commands.specs.Commands.{operands, commands, decoded, pick, is_command, command_at}
use Rattle.sheet.specs.Terms.{Terms}
use Rattle.sheet.specs.Brought.{Brought}
use Rattle.sheet.specs.Limits.{TermsWithin, Limits}
use Rattle.sheet.proofs.Limits.{limits_terms}
use Rattle.tree.specs.Backward.{Leg, back_from}
use Rattle.tree.specs.Sheet.{tree_of, premium_of, default_most, premium_most}
use Rattle.tree.specs.DatesOnly.{dates_only, dates_most}
use Rattle.tree.proofs.DatesOnly.{by_dates, dates_most_kept}
use Rattle.rows.specs.Tables.{entry}
use Rattle.rows.specs.Rows.{Rows, row_length, node_in, any_over, soiled, rolled_back}
use Rattle.rows.proofs.Rolled.{length_rolled, rolled_node}
use Rattle.refusals.specs.Tests.{pool_bad, first}
use Rattle.refusals.proofs.Meanings.{pool_fine}
use Rattle.entries.specs.Draft.{Draft, fractions, has_room, added}
use Rattle.entries.specs.DatesOnly.{NoFractions, enters_fraction}
use Rattle.entries.proofs.OnePeriod.{one_period}
use Rattle.entries.proofs.DatesOnly.{dates_only_lem}
use Rattle.figures.specs.Answer.{Answer, Done, Position}
use Rattle.walk.specs.declared.Walk.{Walk}
use Rattle.walk.specs.Calls.{Outcome, or_outcome, zeros, rolls, open_tests, back_tests, open_call, back_call, value_call, ratio_call}
use Rattle.walk.specs.Manners.{CeilingsAsked}
use Rattle.walk.specs.DatesOnly.{dates_only_soiled, dates_only_manner, SoiledAlike}
use Rattle.walk.proofs.Judging.{stands_fine}
use Rattle.walk.proofs.Manners.{ceilings_asked}
use Rattle.walk.proofs.Ordering.{over_fine, open_stands, open_holds, back_stands, back_holds}
use Rattle.walk.proofs.Walking.{zeros_full, zeros_premium}
use Rattle.walk.proofs.DatesOnly.{zeros_elapsed, calls_by_zeros}
use Rattle.machine.specs.Machine.{Machine, machine_on}
use Rattle.machine.specs.Rooms.{lent_rows, open_in_rooms, back_in_rooms, value_in_rooms, ratio_in_rooms}
use Rattle.machine.specs.Transitions.{transition_of}
use Rattle.listings.specs.Effects.{go_on, with_draft, effect_of}
use Rattle.listings.specs.Manners.{manner_transition}
use Rattle.listings.specs.DatesOnly.{HasZeros, OrderMeets, MeetsZeros, ZerosFrom, earlier_command_at, command_size, enters_none, DecksByDates}
use Rattle.listings.proofs.Manners.{ordered, Along, listed, registered, entered_kept, goes_on}
use Rattle.listings.proofs.Zeros.{by_bytes}

-- ---- entries: how many there are, and how many an accepted sheet has

entered : Brought → ℕ
entered x = length x.sheet.attachments + length x.sheet.hazards + length x.sheet.discounts + length x.coupons

due : Brought → ℕ
due x = (x.sheet.tranches + 1) + x.sheet.names + x.sheet.steps + (x.sheet.tranches + 1)

fits_due : (x : Brought) → x.sheet.starts ≡ 1 ∷ [] → Limits x → entered x ≡ due x
unfolding entered due
fits_due x one m =
    let e : length x.sheet.starts * x.sheet.names ≡ 1 * x.sheet.names = ap (λ (l : List ℕ). length l * x.sheet.names) one in
    omega (arith, e, m.lists.0, m.lists.1.hazards, m.lists.1.discounts, m.lists.2)

-- ---- rows in their rooms

-- Each premium leg in a room keeps to the earlier ceiling.
abbrev Under : Terms → ℕ → List ℕ → Type 0
Under x i room = (j k : ℕ) → j ≤ x.tranches → k ≤ x.names → node_in x room j k ≤ dates_most x i

module _ (x : Terms) (j k : ℕ) (p : j ≤ x.tranches) (q : k ≤ x.names) where
  inside : j * suc x.names + k < row_length x
  inside = digits_lt {q = j} {m = suc x.tranches} {r = k} {c = suc x.names} (omega arith) (omega arith)

  node_lent : (room : List ℕ) → node_in x (take (row_length x) room) j k ≡ node_in x room j k
  unfolding node_in entry
  node_lent room = get_or-take (row_length x) room (j * suc x.names + k) 0 inside

  node_left : (row rest : List ℕ) → length row ≡ row_length x → node_in x (row ++ rest) j k ≡ node_in x row j k
  unfolding node_in entry
  node_left row rest long = get_or-append row rest 0 (j * suc x.names + k) (omega (arith, inside))

-- what is under the earlier ceiling is under the present one, so both tell it alike
under_alike : (x : Terms) (i : ℕ) (rows : Rows) → Under x i rows.premiums → SoiledAlike x i rows
unfolding soiled dates_only_soiled
under_alike x i rows under =
    ap (λ (b : Bool). any_over x (default_most x) rows.defaults || b)
    ((over_fine x (λ j k. premium_most x i k) rows.premiums).1 (λ j k p q. omega (arith, under j k p q, higher k))
    ∙ sym ((over_fine x (λ j k. dates_most x i) rows.premiums).1 under))
  where
    higher : (k : ℕ) → dates_most x i ≤ premium_most x i k
    higher k = unfold dates_most premium_most in omega arith

-- ---- what is kept along a run

-- Of an open walk: there was a pool command, no list is short, and where none is long the rows are under the earlier ceiling.
record Walked (g : Draft) (w : Walk) (rooms : Rows) : Type 0 where
  pooled : g.pooled ≡ true
  enough : due g.brought ≤ entered g.brought
  under : entered g.brought ≡ due g.brought → Under g.brought.sheet w.position rooms.premiums

record Kept (g : Draft) (w : Walk) (rooms : Rows) : Type 0 where
  one : g.brought.sheet.starts ≡ 1 ∷ []
  nameless : g.pooled ≡ false → g.brought.sheet.names ≡ 0
  walked : w.«open» ≡ true → Walked g w rooms

abbrev KeptIn : Machine → Type 0
KeptIn m = Kept m.draft m.walk m.rooms

kept_alike : (m : Machine) → KeptIn m → let x = m.draft.brought in
    CeilingsAsked x m.register m.walk (lent_rows x m.rooms) → SoiledAlike x.sheet m.walk.position (lent_rows x m.rooms)
kept_alike m k asked =
    let x = m.draft.brought in
    let h = ceilings_asked x m.register m.walk (lent_rows x m.rooms) asked in
    let under = (k.walked h.1.opened).under (fits_due x k.one h.0) in
    under_alike x.sheet m.walk.position (lent_rows x m.rooms) (λ i c p q. omega (arith, node_lent x.sheet i c p q m.rooms.premiums, under i c p q))

-- ---- a call leaves it

-- rows that come back as they were lent
rooms_back : (x : Brought) (rooms : Rows) →
    ◌≡◌ {A = List ℕ} (take (row_length x.sheet) rooms.premiums ++ drop (row_length x.sheet) rooms.premiums) rooms.premiums
rooms_back x rooms = take-append-drop (row_length x.sheet) rooms.premiums

-- rows c steps back
module _ (x : Terms) where
  rolled_long : (i c : ℕ) (row : List ℕ) → length row ≡ row_length x → length (rolled_back x (premium_of x) i c row) ≡ row_length x
  unfolding rolled_back
  rolled_long i zero row long = long
  rolled_long i (suc c) row long = length_rolled x (premium_of x) (i - suc c) _

  rolled_under : (n : ℕ) → x.elapsed ≡ replicate n 0 → TermsWithin x → (i c : ℕ) → c ≤ i → (room : List ℕ) → Under x i room →
      Under x (i - c) (rolled_back x (premium_of x) i c (take (row_length x) room))
  rolled_under n zeros inside i c h room under j k p q =
      let leg : premium_of x j ≡ dates_only x j = by_dates x (zeros_elapsed x n zeros) j in
      let e : i - c + c ≡ i = omega arith in
      let starts : (k : ℕ) → k ≤ x.names → node_in x (take (row_length x) room) j k ≤ dates_most x (i - c + c) =
      λ k q. rw e (omega (arith, node_lent x j k p q room, under j k p q)) in
      let kept : back_from (tree_of x) (dates_only x j).rounded (node_in x (take (row_length x) room) j) c (i - c) k ≤ dates_most x (i - c) =
      dates_most_kept x inside j (node_in x (take (row_length x) room) j) c (i - c) starts k q in
      omega (
        arith,
        rolled_node x (premium_of x) i (take (row_length x) room) j p c k h q,
        ap (λ (g : Leg). back_from (tree_of x) g.rounded (node_in x (take (row_length x) room) j) c (i - c) k) leg,
        kept,
      )

module _ (g : Draft) (register : List ℕ) (w : Walk) (rooms : Rows) (k : Kept g w rooms) where
  abbrev x : Brought
  x = g.brought

  -- what a call leaves of a walk and its rooms
  abbrev Leaves : Walk → Rows → Type 0
  Leaves v rows =
      Kept g v (record {
        defaults = rows.defaults ++ drop (row_length x.sheet) rooms.defaults;
        premiums = rows.premiums ++ drop (row_length x.sheet) rooms.premiums;
      })

  -- a call that hands both back
  same : Leaves w (lent_rows x rooms)
  same =
      record {
        one = k.one;
        nameless = k.nameless;
        walked = λ going.
            let v = k.walked going in
            record {
              pooled = v.pooled;
              enough = v.enough;
              under = λ d j c p q.
                  subst (λ (room : List ℕ). node_in x.sheet room j c ≤ dates_most x.sheet w.position) (sym (rooms_back x rooms)) (v.under d j c p q);
            };
      }

  -- a pool command was given, since there are names
  pooled_of : Limits x → g.pooled ≡ true
  pooled_of m = go g.pooled refl
    where
      go : (b : Bool) → g.pooled ≡ b → b ≡ true
      go true e = refl
      go false e = absurd (let none = k.nameless e in omega (arith, m.pool.names))

  -- a call that leaves rows of its own, at a position of its own, on a sheet within limits
  moved : (v : Walk) (rows : Rows) → Limits x → length rows.premiums ≡ row_length x.sheet → Under x.sheet v.position rows.premiums → Leaves v rows
  moved v rows m long under =
      record {
        one = k.one;
        nameless = k.nameless;
        walked = λ going. record {
          pooled = pooled_of m;
          enough = le_of_eq (sym (fits_due x k.one m));
          under = λ d j c p q. omega (arith, node_left x.sheet j c p q rows.premiums (drop (row_length x.sheet) rooms.premiums) long, under j c p q);
        };
      }

  -- by what a call finds
  abbrev Left : Outcome → Type 0
  Left o = Leaves o.walk o.rows

  either : (f : Result ⊤ Refusal) (o : Outcome) → (f ≡ Ok tt → Left o) → Left (or_outcome f w (lent_rows x rooms) o)
  unfolding or_outcome
  either (Ok tt) o h = h refl
  either (Err r) o h = same

  opened : Left (open_call x register w (lent_rows x rooms))
  unfolding open_call
  opened =
      either (first (open_tests x register (lent_rows x rooms)))
      (record { answer = Done; walk = record { «open» = true; number = x.number; position = x.sheet.steps }; rows = zeros x })
      (λ e.
      let h = (open_holds x register (lent_rows x rooms)).0 ((stands_fine _ _ (open_stands x register (lent_rows x rooms))).0 e) in
      moved (record { «open» = true; number = x.number; position = x.sheet.steps }) (zeros x) h.limits (zeros_full x).premiums (λ j c p q. omega (arith, zeros_premium x j c p q)))

  -- back, by the earlier rule from rows under the earlier ceiling
  moved_back : (n c : ℕ) → x.sheet.elapsed ≡ replicate n 0 → Left (back_call x register w (lent_rows x rooms) c)
  unfolding back_call rolls
  moved_back n c z =
      either (first (back_tests x register w (lent_rows x rooms) c))
      (record {
        answer = Position (w.position - c);
        walk = record { «open» = w.«open»; number = w.number; position = w.position - c };
        rows = rolls x w.position c (lent_rows x rooms);
      })
      (λ e.
      let h = (back_holds x register w (lent_rows x rooms) c).0 ((stands_fine _ _ (back_stands x register w (lent_rows x rooms) c)).0 e) in
      let o = h.0 in
      moved (record { «open» = w.«open»; number = w.number; position = w.position - c }) (rolls x w.position c (lent_rows x rooms)) o.limits (rolled_long x.sheet w.position c (lent_rows x rooms).premiums o.lent.rows.premiums)
      (rolled_under x.sheet n z (limits_terms x o.limits) w.position c h.1 rooms.premiums ((k.walked o.walk.opened).under (fits_due x k.one o.limits))))

  -- value and delta only read
  handed : (f : Result ⊤ Refusal) (a : Answer) → Left (or_outcome f w (lent_rows x rooms) (record { answer = a; walk = w; rows = lent_rows x rooms }))
  handed f a = either f (record { answer = a; walk = w; rows = lent_rows x rooms }) (λ e. same)

-- ---- a command leaves it

-- an order that meets zeros, as many as they are
abbrev ZerosMet : Terms → Type 0
ZerosMet x = x.elapsed ≡ replicate (min x.steps 3650) 0

zeros_are : (x : Terms) → HasZeros x → ZerosMet x
unfolding fractions
zeros_are x z = z

kept_after : (o : Order) (m : Machine) → KeptIn m → OrderMeets o m → KeptIn (transition_of o m).next
unfolding transition_of open_in_rooms back_in_rooms value_in_rooms ratio_in_rooms value_call ratio_call
kept_after (Issue y) m k z = k
kept_after (Withdraw y) m k z = k
kept_after Open m k z = opened m.draft m.register m.walk m.rooms k
kept_after (Back c) m k z = moved_back m.draft m.register m.walk m.rooms k (min m.draft.brought.sheet.steps 3650) c (zeros_are m.draft.brought.sheet z)
kept_after (Value j c) m k z = handed m.draft m.register m.walk m.rooms k _ _
kept_after (Delta j c) m k z = handed m.draft m.register m.walk m.rooms k _ _
kept_after (Forward i c) m k z = k

-- an entry behind a list that was long enough is one too many
module _ (g h : Draft) (w : Walk) (rooms : Rows) (k : Kept g w rooms) (one : h.brought.sheet.starts ≡ 1 ∷ [])
    (pooled : h.pooled ≡ g.pooled) (names : h.brought.sheet.names ≡ g.brought.sheet.names)
    (same_due : due h.brought ≡ due g.brought) (more : entered h.brought ≡ entered g.brought + 1) where
  lengthened : Kept h w rooms
  lengthened =
      record {
        one = one;
        nameless = λ e. names ∙ k.nameless (sym pooled ∙ e);
        walked = λ going.
            let v = k.walked going in
            record {
              pooled = pooled ∙ v.pooled;
              enough = omega (arith, same_due, more, v.enough);
              under = λ d. absurd (omega (arith, d, same_due, more, v.enough));
            };
      }

kept_entered : (e : Entry) (m : Machine) → KeptIn m → has_room e m.draft ≡ true → KeptIn (with_draft m (added e m.draft))
unfolding added has_room entered due dates_most node_in
kept_entered (Pool n s r recovery number) m k room =
    record {
      one = k.one;
      nameless = λ e. absurd (true≢false e);
      walked = λ going. absurd (true≢false (sym room ∙ ap not (k.walked going).pooled));
    }
kept_entered (Attachment a) m k room =
    lengthened m.draft (added (Attachment a) m.draft) m.walk m.rooms k k.one refl refl refl
    (let x = m.draft.brought in omega (arith, length-append x.sheet.attachments (a ∷ [])))
kept_entered (Hazard p) m k room =
    lengthened m.draft (added (Hazard p) m.draft) m.walk m.rooms k k.one refl refl refl
    (let x = m.draft.brought in omega (arith, length-append x.sheet.hazards (p ∷ [])))
kept_entered (Step v a) m k room =
    lengthened m.draft (added (Step v a) m.draft) m.walk m.rooms k k.one refl refl refl
    (let x = m.draft.brought in omega (arith, length-append x.sheet.discounts (v ∷ [])))
kept_entered (Coupon s) m k room =
    lengthened m.draft (added (Coupon s) m.draft) m.walk m.rooms k k.one refl refl refl
    (let x = m.draft.brought in omega (arith, length-append x.coupons (s ∷ [])))
kept_entered (Elapsed e) m k room =
    record {
      one = k.one;
      nameless = k.nameless;
      walked = λ going. let v = k.walked going in record { pooled = v.pooled; enough = v.enough; under = v.under };
    }

-- ---- the run

-- a sheet that is not refused by 1 has as many steps as zeros
all_steps : (x : Terms) → pool_bad x ≡ false → min x.steps 3650 ≡ x.steps
all_steps x e = omega (arith, ((pool_fine x).0 e).steps)

met : (c : Result Command Stop) (m : Machine) (o : Order) → c ≡ Ok (Act o) → MeetsZeros c m → OrderMeets o m
met c m o e z = subst (λ (c : Result Command Stop). MeetsZeros c m) e z

-- each order does what it did
same_by : (o : Order) (m : Machine) → KeptIn m → HasZeros m.draft.brought.sheet → transition_of o m ≡ manner_transition dates_only_manner o m
same_by o m k z =
    let x = m.draft.brought in
    ordered dates_only_manner o m (λ register walk rows. CeilingsAsked x register walk rows → SoiledAlike x.sheet walk.position rows)
    (calls_by_zeros x (min x.sheet.steps 3650) (zeros_are x.sheet z) (all_steps x.sheet) _ (λ register walk rows l. l))
    (kept_alike m k)

same_order : (o : Order) (m : Machine) → KeptIn m → OrderMeets o m → transition_of o m ≡ manner_transition dates_only_manner o m
unfolding transition_of manner_transition
same_order (Issue y) m k z = refl
same_order (Withdraw y) m k z = refl
same_order Open m k z = same_by Open m k z
same_order (Back c) m k z = same_by (Back c) m k z
same_order (Value j c) m k z = same_by (Value j c) m k z
same_order (Delta j c) m k z = same_by (Delta j c) m k z
same_order (Forward i c) m k z = same_by (Forward i c) m k z

two : (a c : Bool) → (not a && c) ≡ true → (a ≡ false) × (c ≡ true)
two true c e = absurd (false≢true e)
two false c e = (refl, e)

-- ---- bytes other than 0D

-- 01 to 0C are commands as they were
in_range : (code : ℕ) → eqb code 13 ≡ false → is_command code ≡ (leb 1 code && leb code 12)
in_range code e = ap (λ (t : Bool). leb 1 code && t) (go (dec_le code 12))
  where
    go : Dec (code ≤ 12) → leb code 13 ≡ leb code 12
    go (yes h) = rw (le-leb code 12 h) (le-leb code 13 (omega arith))
    go (no h) =
        let other : code ≡ 13 → ⊥ = eqb-false code 13 e in
        rw (lt-leb code 12 (omega arith)) (lt-leb code 13 (omega (arith, other)))

is_fraction : Result Command Stop → Bool
is_fraction (Ok (Enter y)) = enters_fraction y
is_fraction (Ok (Act o)) = false
is_fraction (Err s) = false

-- none of a list but its last
plain : List (Result Command Stop) → Bool
plain [] = true
plain (c ∷ []) = true
plain (c ∷ d ∷ l) = not (is_fraction c) && plain (d ∷ l)

plain_at : (l : List (Result Command Stop)) (i : ℕ) → plain l ≡ true → (suc i ≡ length l → ⊥) → is_fraction (get_or l i (Err Unknown)) ≡ false
unfolding plain is_fraction
plain_at [] i h e = refl
plain_at (c ∷ []) zero h e = absurd (e refl)
plain_at (c ∷ []) (suc i) h e = refl
plain_at (c ∷ d ∷ l) zero h e = (two (is_fraction c) (plain (d ∷ l)) h).0
plain_at (c ∷ d ∷ l) (suc i) h e = plain_at (d ∷ l) i (two (is_fraction c) (plain (d ∷ l)) h).1 (λ q. e (ap suc q))

decoded_plain : (code : ℕ) (s : List ℕ) (b : ℕ) → (code ≡ 13 → ⊥) → is_fraction (decoded code s b) ≡ false
unfolding commands plain is_fraction
decoded_plain code s b e = plain_at (commands s b) code refl (λ q. e (omega arith))

picked : (t : Bool) (a c : Result Command Stop) → is_fraction a ≡ false → is_fraction c ≡ false → is_fraction (pick t a c) ≡ false
picked true a c e f = e
picked false a c e f = f

not_fraction : (deck : List ℕ) (at : ℕ) → (get_or deck at 0 ≡ 13 → ⊥) → is_fraction (command_at deck at) ≡ false
unfolding command_at is_fraction
not_fraction deck at e =
    picked (is_command (get_or deck at 0)) _ (Err Unknown)
    (picked (leb (operands (get_or deck at 0)) (length deck - (at + 1))) _ (Err CutShort) (decoded_plain (get_or deck at 0) deck (at + 1) e) refl)
    refl

module _ (deck : List ℕ) where
  -- what is kept, and that every order to come meets zeros
  abbrev Goes : ℕ → ℕ → Machine → Type 0
  Goes commands at m = KeptIn m × ZerosFrom commands deck at m

  goes : (commands at : ℕ) (m : Machine) (text : List ℕ) (next : ℕ) (t : Machine) → ltb at (length deck) ≡ true →
      effect_of (command_at deck at) at m ≡ go_on text next t → Goes (suc commands) at m → Goes commands next t
  unfolding ZerosFrom
  goes commands at m text next t b q g = (
    goes_on (λ next t. KeptIn t) at m (command_at deck at) text next t q
        (λ o e. kept_after o m g.0 (met _ m o e (g.1 b).0))
        (λ y e r. kept_entered y m g.0 r),
    (g.1 b).1 text next t q,
  )

  along : Along command_at dates_only_manner deck Goes
  unfolding ZerosFrom
  along = record {
    reads = λ commands at m b g. refl;
    same = λ commands at m o b e g. same_order o m g.0 (met _ m o e (g.1 b).0);
    on = goes;
  }

  -- ---- without 0D

  -- what is read of it at a command
  module _ (commands at : ℕ) (h : enters_none (suc commands) deck at ≡ true) (b : ltb at (length deck) ≡ true) where
    clear : (eqb (get_or deck at 0) 13 ≡ false) × (enters_none commands deck (at + command_size (command_at deck at)) ≡ true)
    unfolding enters_none
    clear =
        two (eqb (get_or deck at 0) 13) (enters_none commands deck (at + command_size (command_at deck at)))
        (subst (λ (t : Bool). elim t [ true ↦ not (eqb (get_or deck at 0) 13) && enters_none commands deck (at + command_size (command_at deck at)) | false ↦ true ] ≡ true) b h)

    behind : (c : Result Command Stop) → command_at deck at ≡ c → enters_none commands deck (at + command_size c) ≡ true
    behind c e = subst (λ (c : Result Command Stop). enters_none commands deck (at + command_size c) ≡ true) e clear.1

  -- a byte other than 0D is read as it was, and enters no fraction
  read_alike : (at : ℕ) → eqb (get_or deck at 0) 13 ≡ false → command_at deck at ≡ earlier_command_at deck at
  unfolding command_at earlier_command_at
  read_alike at e =
      ap (λ (t : Bool). pick t (pick (leb (operands (get_or deck at 0)) (length deck - (at + 1))) (decoded (get_or deck at 0) deck (at + 1)) (Err CutShort)) (Err Unknown))
      (in_range (get_or deck at 0) e)

  no_fraction : (at : ℕ) (y : Entry) → eqb (get_or deck at 0) 13 ≡ false → command_at deck at ≡ Ok (Enter y) → enters_fraction y ≡ false
  unfolding is_fraction
  no_fraction at y e q = sym (ap is_fraction q) ∙ not_fraction deck at (eqb-false (get_or deck at 0) 13 e)

  -- no fraction was entered, and none will be
  abbrev Blank : ℕ → ℕ → Machine → Type 0
  Blank commands at m = KeptIn m × NoFractions m.draft × (enters_none commands deck at ≡ true)

  meets : (o : Order) (m : Machine) → NoFractions m.draft → OrderMeets o m
  meets (Issue y) m f = tt
  meets (Withdraw y) m f = tt
  meets Open m f = f.zeros
  meets (Back c) m f = f.zeros
  meets (Value j c) m f = f.zeros
  meets (Delta j c) m f = f.zeros
  meets (Forward i c) m f = f.zeros

  along_without : Along earlier_command_at dates_only_manner deck Blank
  along_without = record {
    reads = λ commands at m b g. read_alike at (clear commands at g.2 b).0;
    same = λ commands at m o b e g. same_order o m g.0 (meets o m g.1);
    on = λ commands at m text next t b q g.
        goes_on (λ next t. Blank commands next t) at m (command_at deck at) text next t q
        (λ o e. (
          kept_after o m g.0 (meets o m g.1),
          subst NoFractions (sym (entered_kept o m)) g.1,
          behind commands at g.2 b (Ok (Act o)) e,
        ))
        (λ y e r. (
          kept_entered y m g.0 r,
          dates_only_lem.kept y m.draft (no_fraction at y (clear commands at g.2 b).0 e) g.1,
          behind commands at g.2 b (Ok (Enter y)) e,
        ));
  }

first_kept : (register : List ℕ) → KeptIn (machine_on register)
first_kept register = record { one = one_period.first; nameless = λ e. refl; walked = λ going. absurd (false≢true going) }

pub decks_by_dates : DecksByDates
decks_by_dates =
    record {
      listing_of_zeros = λ register deck e. listed command_at dates_only_manner deck _ (along deck) register (first_kept register, by_bytes deck register e);
      register_of_zeros = λ register deck e. registered command_at dates_only_manner deck _ (along deck) register (first_kept register, by_bytes deck register e);
      listing_without = λ register deck e. listed earlier_command_at dates_only_manner deck _ (along_without deck) register (first_kept register, dates_only_lem.first, e);
      register_without = λ register deck e. registered earlier_command_at dates_only_manner deck _ (along_without deck) register (first_kept register, dates_only_lem.first, e);
      listing = λ register deck z. listed command_at dates_only_manner deck _ (along deck) register (first_kept register, z);
      register_left = λ register deck z. registered command_at dates_only_manner deck _ (along deck) register (first_kept register, z);
    }
