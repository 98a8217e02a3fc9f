-- What commands do, one by one and one after the other.
use Rattle.commands.specs.declared.Command.{Command}
use Rattle.commands.specs.declared.Command.TheVariants.{Enter, Act}
use Rattle.commands.specs.declared.Stop.{Stop}
use Rattle.std.proofs.Common.{ℕ, zero, suc, ◌≤◌, ◌<◌, ◌≡◌, refl, sym, ap, List, [], ◌++◌, lt-ltb, le-ltb, length, Result, Ok, Err}
use Rattle.commands.specs.declared.Entry.{Entry}
use Rattle.commands.specs.declared.Order.{Order}
use Rattle.commands.specs.Commands.{command_at}
use Rattle.commands.specs.Kinds.{refusal_of}
use Rattle.machine.specs.Machine.{Machine, machine_on}
use Rattle.render.specs.Lines.{deck_line}
use Rattle.listings.specs.Effects.{stop, go_on, entry_effect, order_effect, effect_of}
use Rattle.listings.specs.ListingFrom.{listing_from}
use Rattle.listings.specs.RegisterFrom.{register_from}
use Rattle.listings.specs.Listing.{listing_on, register_after}

-- the effect of a command that was read
module _ {c : Result Command Stop} (at : ℕ) (m : Machine) where
  pub stop_effect : {s : Stop} → c ≡ Err s → effect_of c at m ≡ stop (deck_line (refusal_of s) at)
  unfolding effect_of
  stop_effect e = ap (λ (k : Result Command Stop). effect_of k at m) e

  pub enter_effect : {y : Entry} → c ≡ Ok (Enter y) → effect_of c at m ≡ entry_effect y at m
  unfolding effect_of
  enter_effect e = ap (λ (k : Result Command Stop). effect_of k at m) e

  pub act_effect : {o : Order} → c ≡ Ok (Act o) → effect_of c at m ≡ order_effect o at m
  unfolding effect_of
  act_effect e = ap (λ (k : Result Command Stop). effect_of k at m) e

-- what is printed and left from an offset on: past the end, by a command that goes on, by one that stops
module _ (deck : List ℕ) (at : ℕ) (m : Machine) where
  pub past : (commands : ℕ) → length deck ≤ at → listing_from commands deck at m ≡ []
  unfolding listing_from
  past zero h = refl
  past (suc n) h = rw (le-ltb at (length deck) h, listing_from)

  pub left_past : (commands : ℕ) → length deck ≤ at → register_from commands deck at m ≡ m.register
  unfolding register_from
  left_past zero h = refl
  left_past (suc n) h = rw (le-ltb at (length deck) h, register_from)

  pub on : (n : ℕ) (text : List ℕ) (next : ℕ) (t : Machine) → at < length deck → effect_of (command_at deck at) at m ≡ go_on text next t →
      listing_from (suc n) deck at m ≡ text ++ listing_from n deck next t
  unfolding listing_from
  on n text next t h e = rw (lt-ltb at (length deck) h, listing_from) (rw e)

  pub left_on : (n : ℕ) (text : List ℕ) (next : ℕ) (t : Machine) → at < length deck → effect_of (command_at deck at) at m ≡ go_on text next t →
      register_from (suc n) deck at m ≡ register_from n deck next t
  unfolding register_from
  left_on n text next t h e = rw (lt-ltb at (length deck) h, register_from) (rw e)

  pub last : (n : ℕ) (text : List ℕ) → at < length deck → effect_of (command_at deck at) at m ≡ stop text → listing_from (suc n) deck at m ≡ text
  unfolding listing_from
  last n text h e = rw (lt-ltb at (length deck) h, listing_from) (rw e)

  pub left_last : (n : ℕ) (text : List ℕ) → at < length deck → effect_of (command_at deck at) at m ≡ stop text →
      register_from (suc n) deck at m ≡ m.register
  unfolding register_from
  left_last n text h e = rw (lt-ltb at (length deck) h, register_from) (rw e)

-- a deck that is too long, and one that is not
module _ (register deck : List ℕ) where
  pub oversized : 65536 < length deck → deck_line 20 65536 ≡ listing_on register deck
  unfolding listing_on
  oversized h = sym (rw (lt-ltb 65536 (length deck) h, listing_on))

  pub oversized_left : 65536 < length deck → register ≡ register_after register deck
  unfolding register_after
  oversized_left h = sym (rw (lt-ltb 65536 (length deck) h, register_after))

  pub sized : length deck ≤ 65536 → listing_from (length deck) deck 0 (machine_on register) ≡ listing_on register deck
  unfolding listing_on
  sized h = sym (rw (le-ltb 65536 (length deck) h, listing_on))

  pub sized_left : length deck ≤ 65536 → register_from (length deck) deck 0 (machine_on register) ≡ register_after register deck
  unfolding register_after
  sized_left h = sym (rw (le-ltb 65536 (length deck) h, register_after))
