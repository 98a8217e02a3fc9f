-- A deck that passes the test of its bytes meets m zeros at each order: along its run the draft has as many zeros as the test counts, and its steps.
use lib.ListN.{length-replicate, replicate-append-replicate}
use Rattle.std.proofs.lemmas.Bool.{and_parts as both}
use Rattle.commands.specs.declared.Command.{Command}
use Rattle.commands.specs.declared.Command.TheVariants.{Enter, Act}
use Rattle.commands.specs.declared.Stop.{Stop}
use Rattle.std.proofs.Common.{ℕ, zero, suc, ◌+◌, ◌≤◌, min, ◌≡◌, refl, sym, ap, ◌∙◌, subst, Bool, true, false, ◌&&◌, List, [], ◌∷◌, ◌++◌, arith}
use Rattle.std.proofs.Common.{ltb-true, eqb-true, ne_eqb, ltb, eqb, length, replicate, Result, Ok, Err}
use Rattle.commands.specs.declared.Entry.{Entry}
use Rattle.commands.specs.declared.Entry.TheVariants.{Pool, Attachment, Hazard, Step, Coupon, Elapsed}
use Rattle.commands.specs.declared.Order.{Order}
use Rattle.commands.specs.declared.Order.TheVariants.{Issue, Withdraw, Open, Back, Value, Delta, Forward}
use Rattle.commands.specs.Commands.{command_at, entry_size, order_size}
use Rattle.entries.specs.Draft.{Draft, fractions, has_room, added}
use Rattle.machine.specs.Machine.{Machine, machine_on}
use Rattle.machine.specs.Transitions.{transition_of}
use Rattle.listings.specs.Effects.{with_draft}
use Rattle.listings.specs.DatesOnly.{HasZeros, OrderMeets, MeetsZeros, ZerosFrom}
use Rattle.listings.specs.DatesOnly.{command_size, none_or_all, zeros_at, enters_zeros_from, enters_zeros}
use Rattle.listings.proofs.Manners.{entered_kept, goes_on}

-- ---- what the draft holds

record Holds (g : Draft) (steps entered : ℕ) : Type 0 where
  zeros : g.elapsed ≡ replicate entered 0
  met : g.brought.sheet.elapsed ≡ fractions g.elapsed g.brought.sheet.steps
  told : g.brought.sheet.steps ≡ steps
  few : entered ≤ 3650

-- none, or as many as steps, are the fractions of a deck that enters none
zeros_all : (steps entered : ℕ) → none_or_all steps entered ≡ true → entered ≤ 3650 → fractions (replicate entered 0) steps ≡ fractions [] steps
unfolding fractions
zeros_all steps zero h few = refl
zeros_all steps (suc n) h few =
    let e : suc n ≡ steps = eqb-true (suc n) steps (rw (ne_eqb (suc n) 0 (omega arith)) at h) in
    let all : suc n ≡ min steps 3650 = omega arith in
    ap (λ (k : ℕ). replicate k 0) all

holds_zeros : (g : Draft) (steps entered : ℕ) → Holds g steps entered → none_or_all steps entered ≡ true → HasZeros g.brought.sheet
holds_zeros g steps entered k h =
    k.met
    ∙ ap (λ (l : List ℕ). fractions l g.brought.sheet.steps) k.zeros
    ∙ zeros_all g.brought.sheet.steps entered (subst (λ (s : ℕ). none_or_all s entered ≡ true) (sym k.told) h) k.few

-- one zero more
one_more : (n e : ℕ) → e ≡ 0 → replicate n 0 ++ (e ∷ []) ≡ replicate (n + 1) 0
one_more n e z = ap (λ (i : ℕ). replicate n 0 ++ (i ∷ [])) z ∙ replicate-append-replicate n 1 0

-- where one was entered, no zero is made
some_are : (l : List ℕ) (e steps : ℕ) → fractions (l ++ (e ∷ [])) steps ≡ l ++ (e ∷ [])
unfolding fractions
some_are [] e steps = refl
some_are (x ∷ l) e steps = refl

-- ---- a command

module _ (behind : ℕ → ℕ → Bool) (steps entered : ℕ) (m : Machine) (k : Holds m.draft steps entered) where
  abbrev g : Draft
  g = m.draft

  -- a draft, and the test that goes on with what it holds
  abbrev Onward : Draft → Type 0
  Onward d = (s : ℕ) × (n : ℕ) × Holds d s n × (behind s n ≡ true)

  goes_entered : (y : Entry) → has_room y g ≡ true → zeros_at (Ok (Enter y)) behind steps entered ≡ true → Onward (added y g)
  unfolding added has_room
  goes_entered (Pool n m r recovery number) room h = (m, entered, record { zeros = k.zeros; met = refl; told = refl; few = k.few }, h)
  goes_entered (Attachment a) room h = (steps, entered, record { zeros = k.zeros; met = k.met; told = k.told; few = k.few }, h)
  goes_entered (Hazard p) room h = (steps, entered, record { zeros = k.zeros; met = k.met; told = k.told; few = k.few }, h)
  goes_entered (Step v d) room h = (steps, entered, record { zeros = k.zeros; met = k.met; told = k.told; few = k.few }, h)
  goes_entered (Coupon s) room h = (steps, entered, record { zeros = k.zeros; met = k.met; told = k.told; few = k.few }, h)
  goes_entered (Elapsed e) room h =
      let t = both (eqb e 0) (behind steps (entered + 1)) h in (
        steps,
        entered + 1,
        record {
          zeros = ap (λ (l : List ℕ). l ++ (e ∷ [])) k.zeros ∙ one_more entered e (eqb-true e 0 t.0);
          met = sym (some_are g.elapsed e g.brought.sheet.steps);
          told = k.told;
          few = omega (arith, ltb-true (length g.elapsed) 3650 room, ap length k.zeros, length-replicate {A = ℕ} entered 0);
        },
        t.1,
      )

  brings : (none_or_all steps entered && behind steps entered) ≡ true → HasZeros g.brought.sheet × (behind steps entered ≡ true)
  brings h = let t = both (none_or_all steps entered) (behind steps entered) h in (holds_zeros g steps entered k t.0, t.1)

  -- an order that brings a sheet meets zeros, and the test goes on
  goes_ordered : (o : Order) → zeros_at (Ok (Act o)) behind steps entered ≡ true → OrderMeets o m × (behind steps entered ≡ true)
  goes_ordered (Issue y) h = (tt, h)
  goes_ordered (Withdraw y) h = (tt, h)
  goes_ordered Open h = brings h
  goes_ordered (Back c) h = brings h
  goes_ordered (Value j c) h = brings h
  goes_ordered (Delta j c) h = brings h
  goes_ordered (Forward i c) h = brings h

  meets : (c : Result Command Stop) → zeros_at c behind steps entered ≡ true → MeetsZeros c m
  meets (Ok (Enter y)) h = tt
  meets (Ok (Act o)) h = (goes_ordered o h).0
  meets (Err s) h = tt

-- ---- the run

module _ (deck : List ℕ) where
  abbrev behind : ℕ → ℕ → Result Command Stop → ℕ → ℕ → Bool
  behind n at c = enters_zeros_from n deck (at + command_size c)

  -- the test of a command that is read
  at_command : (n at steps entered : ℕ) → ltb at (length deck) ≡ true → enters_zeros_from (suc n) deck at steps entered ≡ true →
      (c : Result Command Stop) → command_at deck at ≡ c → zeros_at c (behind n at c) steps entered ≡ true
  unfolding enters_zeros_from
  at_command n at steps entered b h c e =
      let r = command_at deck at in
      subst (λ (c : Result Command Stop). zeros_at c (behind n at c) steps entered ≡ true) e
      (subst (λ (t : Bool). elim t [ true ↦ zeros_at r (behind n at r) steps entered | false ↦ true ] ≡ true) b h)

  zeros_from : (n at steps entered : ℕ) (m : Machine) → Holds m.draft steps entered → enters_zeros_from n deck at steps entered ≡ true →
      ZerosFrom n deck at m
  unfolding ZerosFrom
  zeros_from zero at steps entered m k h = tt
  zeros_from (suc n) at steps entered m k h = λ b.
      let test = at_command n at steps entered b h in (
        meets (behind n at (command_at deck at)) steps entered m k (command_at deck at) (test (command_at deck at) refl),
        λ text next t q.
            goes_on (λ next t. ZerosFrom n deck next t) at m (command_at deck at) text next t q
            (λ o e.
            let kept = subst (λ (g : Draft). Holds g steps entered) (sym (entered_kept o m)) k in
            let r = goes_ordered (behind n at (Ok (Act o))) steps entered m k o (test (Ok (Act o)) e) in
            zeros_from n (at + order_size o) steps entered (transition_of o m).next kept r.1)
            (λ y e room.
            let r = goes_entered (behind n at (Ok (Enter y))) steps entered m k y room (test (Ok (Enter y)) e) in
            zeros_from n (at + entry_size y) r.0 r.1 (with_draft m (added y m.draft)) r.2 r.3),
      )

  -- before the first command nothing was entered
  pub by_bytes : (register : List ℕ) → enters_zeros deck ≡ true → ZerosFrom (length deck) deck 0 (machine_on register)
  unfolding fractions
  by_bytes register h = zeros_from (length deck) 0 0 0 (machine_on register) (record { zeros = refl; met = refl; told = refl; few = omega arith }) h
