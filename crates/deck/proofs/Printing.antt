-- What a run leaves in out, on plain values.
use lib.Seq.{sets-eq}
use Rattle.lines.specs.Text.{Wrote}
use Rattle.deck.specs.declared.NoRoom.{NoRoom}
use Rattle.std.proofs.Common.{ℕ, ◌+◌, ◌*◌, ◌≤◌, ◌<◌, ◌≡◌, refl, sym, ap, ◌∙◌, Bool, true, false, List, ◌++◌, zero-add, arith, lt-ltb, le-ltb}
use Rattle.std.proofs.Common.{ltb-true, ltb, length, drop, length-append, Result, Ok}
use Rattle.listings.specs.Listing.{listing_on, register_after}
use Rattle.listings.specs.Withdrawals.{KeepsWithdrawn}
use Rattle.listings.proofs.Withdrawals.{deck_withdrawals}
use Rattle.deck.specs.Printing.{room, Printout, printout, none, printing_on, register_left}

-- the room of a deck
pub room_least : (bytes : ℕ) → 96 ≤ room bytes
unfolding room
room_least bytes = omega arith

pub room_sized : (bytes : ℕ) → bytes ≤ 65536 → room bytes ≡ 32 * bytes + 96
unfolding room
room_sized bytes h = omega arith

-- the room of any deck
pub room_most : (bytes : ℕ) → room bytes ≤ 2097248
unfolding room
room_most bytes = omega arith

module _ (register deck out : List ℕ) where
  pub no_room : length out < room (length deck) → printout none out ≡ printing_on register deck out
  unfolding printing_on
  no_room h = sym (rw (lt-ltb (length out) (room (length deck)) h, printing_on))

  pub no_room_left : length out < room (length deck) → register ≡ register_left register deck out
  unfolding register_left
  no_room_left h = sym (rw (lt-ltb (length out) (room (length deck)) h, register_left))

  pub left : {after : List ℕ} → room (length deck) ≤ length out → after ≡ register_after register deck → after ≡ register_left register deck out
  unfolding register_left
  left fits is = is ∙ sym (rw (le-ltb (length out) (room (length deck)) fits, register_left))

  -- either way a withdrawn number stays withdrawn
  pub keeps : {after : List ℕ} → after ≡ register_left register deck out → KeepsWithdrawn register after
  unfolding register_left
  keeps is = rw is (go (ltb (length out) (room (length deck))))
    where
      go : (b : Bool) → KeepsWithdrawn register (elim b [ true ↦ register | false ↦ register_after register deck ])
      go true = record { size = refl; withdrawn = λ x w. w; byte = λ x w. refl }
      go false = deck_withdrawals.whole register deck

  pub printed : (after text : List ℕ) (r : ℕ) → room (length deck) ≤ length out → text ≡ listing_on register deck → Wrote out 0 text after r →
      r ≤ length out → printout (Ok r) after ≡ printing_on register deck out
  unfolding printing_on
  printed after text r fits is w within =
      let long : r ≡ length text = w.stop ∙ zero-add (length text) in
      let front : after ≡ text ++ drop (length text) out =
      w.bytes ∙ sets-eq text out 0 (omega (arith, long)) ∙ ap (λ (n : ℕ). text ++ drop n out) (zero-add (length text)) in
      (λ j. printout (Ok (long j)) (front j))
      ∙ ap (λ (l : List ℕ). printout (Ok (length l)) (l ++ drop (length l) out)) is
      ∙ sym (rw (le-ltb (length out) (room (length deck)) fits, printing_on))

-- ---- for callers: what is printed stands in out

no_such : {r : ℕ} {out after : List ℕ} → printout none out ≡ printout (Ok r) after → ⊥
no_such {r} {out} {after} e = let n : ◌≡◌ {A = Result ℕ NoRoom} none (Ok r) = ap (λ (p : Printout). p.answer) e in let z : ◌≡◌ {A = ℕ} 0 1 = cc in omega arith

pub printed_within : (register deck out after : List ℕ) (r : ℕ) → printout (Ok r) after ≡ printing_on register deck out → r ≤ length after
unfolding printing_on
printed_within register deck out after r e = go (ltb (length out) (room (length deck))) refl
  where
    go : (b : Bool) → ltb (length out) (room (length deck)) ≡ b → r ≤ length after
    go true t = let p : printout (Ok r) after ≡ printout none out = e ∙ rw (t, printing_on) in absurd (no_such (sym p))
    go false t =
        let text = listing_on register deck in
        let p : printout (Ok r) after ≡ printout (Ok (length text)) (text ++ drop (length text) out) = e ∙ rw (t, printing_on) in
        let n : ◌≡◌ {A = Result ℕ NoRoom} (Ok r) (Ok (length text)) = ap (λ (q : Printout). q.answer) p in
        let m : r ≡ length text = cc in
        let a : length after ≡ length (text ++ drop (length text) out) = ap (λ (q : Printout). length q.out) p in
        omega (arith, m, a, length-append text (drop (length text) out))

-- that there is no room is said only where there is none
pub no_room_only : (register deck out after : List ℕ) → printout none after ≡ printing_on register deck out → length out < room (length deck)
unfolding printing_on
no_room_only register deck out after e = go (ltb (length out) (room (length deck))) refl
  where
    go : (b : Bool) → ltb (length out) (room (length deck)) ≡ b → length out < room (length deck)
    go true t = ltb-true _ _ t
    go false t =
        let text = listing_on register deck in
        let p : printout none after ≡ printout (Ok (length text)) (text ++ drop (length text) out) = e ∙ rw (t, printing_on) in
        absurd (no_such p)
