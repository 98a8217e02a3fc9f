-- Where every order of a run does what it does in a manner, the run prints and leaves the same.
use mathlib.Core.Bool.{false≢true}
use Rattle.commands.specs.declared.Command.{Command}
use Rattle.commands.specs.declared.Command.TheVariants.{Enter, Act}
use Rattle.commands.specs.declared.Stop.{Stop}
use Rattle.std.proofs.Common.{ℕ, zero, suc, ◌+◌, ◌≡◌, refl, ap, ◌∙◌, subst₂, Bool, true, false, List, [], ◌++◌, ltb, length, take, Result, Ok, Err}
use Rattle.commands.specs.declared.Entry.{Entry}
use Rattle.commands.specs.declared.Order.{Order}
use Rattle.commands.specs.declared.Order.TheVariants.{Issue, Withdraw, Open, Back, Value, Delta, Forward}
use Rattle.commands.specs.Commands.{command_at, entry_size, order_size}
use Rattle.rows.specs.Rows.{Rows}
use Rattle.entries.specs.Draft.{has_room, added}
use Rattle.walk.specs.declared.Walk.{Walk}
use Rattle.walk.specs.Calls.{Outcome, ForwardOutcome}
use Rattle.walk.specs.Manners.{Manner, CallsAlike}
use Rattle.machine.specs.Machine.{Machine, machine_on}
use Rattle.machine.specs.Rooms.{lent_rows, left_in_rooms, left_in_row, count_in_row}
use Rattle.machine.specs.Rooms.{open_in_rooms, back_in_rooms, value_in_rooms, ratio_in_rooms, forward_in_row, distribution_in_row}
use Rattle.machine.specs.Transitions.{Transition, call_transition, forward_transition, transition_of}
use Rattle.render.specs.Lines.{order_line, deck_line}
use Rattle.listings.specs.Effects.{Effect, stop, go_on, with_draft, entry_effect, order_effect, effect_of}
use Rattle.listings.specs.ListingFrom.{listing_from}
use Rattle.listings.specs.RegisterFrom.{register_from}
use Rattle.listings.specs.Listing.{listing_on, register_after}
use Rattle.listings.specs.Manners.{manner_transition, manner_effect, manner_listing_from, manner_listing, manner_register_from, manner_register, Reading}

-- an order of calls that are alike
pub ordered : (n : Manner) (o : Order) (m : Machine) (Lent : List ℕ → Walk → Rows → Type 0) → CallsAlike n m.draft.brought Lent →
    Lent m.register m.walk (lent_rows m.draft.brought m.rooms) → transition_of o m ≡ manner_transition n o m
unfolding transition_of manner_transition open_in_rooms back_in_rooms value_in_rooms ratio_in_rooms forward_in_row distribution_in_row
ordered n (Issue y) m Lent a l = refl
ordered n (Withdraw y) m Lent a l = refl
ordered n Open m Lent a l =
    let x = m.draft.brought in
    ap (λ (o : Outcome). call_transition m (left_in_rooms x m.rooms o)) (a.opening m.register m.walk (lent_rows x m.rooms))
ordered n (Back c) m Lent a l =
    let x = m.draft.brought in
    ap (λ (o : Outcome). call_transition m (left_in_rooms x m.rooms o)) (a.back m.register m.walk (lent_rows x m.rooms) c l)
ordered n (Value j k) m Lent a l =
    let x = m.draft.brought in
    ap (λ (o : Outcome). call_transition m (left_in_rooms x m.rooms o)) (a.value m.register m.walk (lent_rows x m.rooms) j k l)
ordered n (Delta j k) m Lent a l =
    let x = m.draft.brought in
    ap (λ (o : Outcome). call_transition m (left_in_rooms x m.rooms o)) (a.ratio m.register m.walk (lent_rows x m.rooms) j k l)
ordered n (Forward i k) m Lent a l =
    let x = m.draft.brought in
    ap (λ (o : ForwardOutcome).
    forward_transition m (count_in_row x m.row (left_in_row x m.row o) k))
    (a.forward m.register (take (x.sheet.names + 1) m.row) i)

-- What is kept along a run, from an offset on with so many commands at most: the same command is read, each order does what it does in the manner, and it is kept by each
-- command that goes on.
pub record Along (read : Reading) (n : Manner) (deck : List ℕ) (Kept : ℕ → ℕ → Machine → Type 0) : Type 1 where
  pub reads : (commands at : ℕ) (m : Machine) → ltb at (length deck) ≡ true → Kept (suc commands) at m → command_at deck at ≡ read deck at
  pub same : (commands at : ℕ) (m : Machine) (o : Order) → ltb at (length deck) ≡ true → command_at deck at ≡ Ok (Act o) → Kept (suc commands) at m →
      transition_of o m ≡ manner_transition n o m
  pub on : (commands at : ℕ) (m : Machine) (text : List ℕ) (next : ℕ) (t : Machine) → ltb at (length deck) ≡ true →
      effect_of (command_at deck at) at m ≡ go_on text next t → Kept (suc commands) at m → Kept commands next t

module _ (read : Reading) (n : Manner) (deck : List ℕ) (Kept : ℕ → ℕ → Machine → Type 0) (along : Along read n deck Kept) where
  -- a command has the same effect
  same_effect : (commands at : ℕ) (m : Machine) → ltb at (length deck) ≡ true → Kept (suc commands) at m → (c : Result Command Stop) →
      command_at deck at ≡ c → effect_of c at m ≡ manner_effect n c at m
  unfolding effect_of manner_effect order_effect
  same_effect commands at m b k (Err s) e = refl
  same_effect commands at m b k (Ok (Enter y)) e = refl
  same_effect commands at m b k (Ok (Act o)) e =
      ap (λ (t : Transition). go_on (order_line o t.said) (at + order_size o) t.next) (along.same commands at m o b e k)

  -- what is printed and left behind it, where `listing` and `left` are those of the run after it
  printed : (ℕ → Machine → List ℕ) → Effect → List ℕ
  printed listing e = elim e [ stop text ↦ text | go_on text next t ↦ text ++ listing next t ]

  kept : List ℕ → (ℕ → Machine → List ℕ) → Effect → List ℕ
  kept register left e = elim e [ stop text ↦ register | go_on text next t ↦ left next t ]

  module _ (commands at : ℕ) (m : Machine) (k : Kept (suc commands) at m) where
    goes : (b : ltb at (length deck) ≡ true) (text : List ℕ) (next : ℕ) (t : Machine) → effect_of (command_at deck at) at m ≡ go_on text next t → Kept commands next t
    goes b text next t q = along.on commands at m text next t b q k

    printed_is : (rest : (next : ℕ) (t : Machine) → Kept commands next t → listing_from commands deck next t ≡ manner_listing_from read n commands deck next t) →
        ltb at (length deck) ≡ true → (e : Effect) → effect_of (command_at deck at) at m ≡ e →
        printed (listing_from commands deck) e ≡ printed (manner_listing_from read n commands deck) e
    unfolding printed
    printed_is rest b (stop text) q = refl
    printed_is rest b (go_on text next t) q = ap (λ (l : List ℕ). text ++ l) (rest next t (goes b text next t q))

    kept_is : (rest : (next : ℕ) (t : Machine) → Kept commands next t → register_from commands deck next t ≡ manner_register_from read n commands deck next t) →
        ltb at (length deck) ≡ true → (e : Effect) → effect_of (command_at deck at) at m ≡ e →
        kept m.register (register_from commands deck) e ≡ kept m.register (manner_register_from read n commands deck) e
    unfolding kept
    kept_is rest b (stop text) q = refl
    kept_is rest b (go_on text next t) q = rest next t (goes b text next t q)

  pub listing_is : (commands at : ℕ) (m : Machine) → Kept commands at m → listing_from commands deck at m ≡ manner_listing_from read n commands deck at m
  unfolding listing_from manner_listing_from printed
  listing_is zero at m k = refl
  listing_is (suc commands) at m k = go (λ next t r. listing_is commands next t r) (ltb at (length deck)) refl
    where
      go : ((next : ℕ) (t : Machine) → Kept commands next t → listing_from commands deck next t ≡ manner_listing_from read n commands deck next t) →
          (b : Bool) → ltb at (length deck) ≡ b →
          ◌≡◌ {A = List ℕ} (elim b [ true ↦ printed (listing_from commands deck) (effect_of (command_at deck at) at m) | false ↦ [] ])
          (elim b [ true ↦ printed (manner_listing_from read n commands deck) (manner_effect n (read deck at) at m) | false ↦ [] ])
      go rest true b =
          printed_is commands at m k rest b (effect_of (command_at deck at) at m) refl
          ∙ ap (printed (manner_listing_from read n commands deck))
          (same_effect commands at m b k (command_at deck at) refl
          ∙ ap (λ (c : Result Command Stop). manner_effect n c at m) (along.reads commands at m b k))
      go rest false b = refl

  pub register_is : (commands at : ℕ) (m : Machine) → Kept commands at m → register_from commands deck at m ≡ manner_register_from read n commands deck at m
  unfolding register_from manner_register_from kept
  register_is zero at m k = refl
  register_is (suc commands) at m k = go (λ next t r. register_is commands next t r) (ltb at (length deck)) refl
    where
      go : ((next : ℕ) (t : Machine) → Kept commands next t → register_from commands deck next t ≡ manner_register_from read n commands deck next t) →
          (b : Bool) → ltb at (length deck) ≡ b →
          ◌≡◌ {A = List ℕ} (elim b [ true ↦ kept m.register (register_from commands deck) (effect_of (command_at deck at) at m) | false ↦ m.register ])
          (elim b [ true ↦ kept m.register (manner_register_from read n commands deck) (manner_effect n (read deck at) at m) | false ↦ m.register ])
      go rest true b =
          kept_is commands at m k rest b (effect_of (command_at deck at) at m) refl
          ∙ ap (kept m.register (manner_register_from read n commands deck))
          (same_effect commands at m b k (command_at deck at) refl
          ∙ ap (λ (c : Result Command Stop). manner_effect n c at m) (along.reads commands at m b k))
      go rest false b = refl

  -- the whole deck
  module _ (register : List ℕ) (first : Kept (length deck) 0 (machine_on register)) where
    pub listed : listing_on register deck ≡ manner_listing read n register deck
    unfolding listing_on manner_listing
    listed = go (ltb 65536 (length deck))
      where
        go : (b : Bool) →
            ◌≡◌ {A = List ℕ} (elim b [ true ↦ deck_line 20 65536 | false ↦ listing_from (length deck) deck 0 (machine_on register) ])
            (elim b [ true ↦ deck_line 20 65536 | false ↦ manner_listing_from read n (length deck) deck 0 (machine_on register) ])
        go true = refl
        go false = listing_is (length deck) 0 (machine_on register) first

    pub registered : register_after register deck ≡ manner_register read n register deck
    unfolding register_after manner_register
    registered = go (ltb 65536 (length deck))
      where
        go : (b : Bool) →
            ◌≡◌ {A = List ℕ} (elim b [ true ↦ register | false ↦ register_from (length deck) deck 0 (machine_on register) ])
            (elim b [ true ↦ register | false ↦ manner_register_from read n (length deck) deck 0 (machine_on register) ])
        go true = refl
        go false = register_is (length deck) 0 (machine_on register) first

-- ---- what a command that goes on leaves

pub entered_kept : (o : Order) (m : Machine) → (transition_of o m).next.draft ≡ m.draft
unfolding transition_of
entered_kept (Issue y) m = refl
entered_kept (Withdraw y) m = refl
entered_kept Open m = refl
entered_kept (Back c) m = refl
entered_kept (Value j k) m = refl
entered_kept (Delta j k) m = refl
entered_kept (Forward i k) m = refl

next_of : Effect → ℕ
next_of (stop text) = 0
next_of (go_on text next t) = next

after_of : Machine → Effect → Machine
after_of m (stop text) = m
after_of m (go_on text next t) = t

goes_of : Effect → Bool
goes_of (stop text) = false
goes_of (go_on text next t) = true

-- What holds of all that an order or an entry leaves, and behind it, holds of what a command leaves that goes on.
module _ (P : ℕ → Machine → Type 0) (at : ℕ) (m : Machine) where
  pub goes_on : (c : Result Command Stop) (text : List ℕ) (next : ℕ) (t : Machine) → effect_of c at m ≡ go_on text next t →
      ((o : Order) → c ≡ Ok (Act o) → P (at + order_size o) (transition_of o m).next) →
      ((e : Entry) → c ≡ Ok (Enter e) → has_room e m.draft ≡ true → P (at + entry_size e) (with_draft m (added e m.draft))) → P next t
  unfolding effect_of order_effect entry_effect goes_of next_of after_of
  goes_on (Err s) text next t q order entry = absurd (false≢true (ap goes_of q))
  goes_on (Ok (Act o)) text next t q order entry = subst₂ P (ap next_of q) (ap (after_of m) q) (order o refl)
  goes_on (Ok (Enter e)) text next t q order entry = go (has_room e m.draft) refl q
    where
      go : (b : Bool) → has_room e m.draft ≡ b →
          elim b [ true ↦ go_on [] (at + entry_size e) (with_draft m (added e m.draft)) | false ↦ stop (deck_line 20 at) ] ≡ go_on text next t → P next t
      go true r p = subst₂ P (ap next_of p) (ap (after_of m) p) (entry e refl r)
      go false r p = absurd (false≢true (ap goes_of p))
