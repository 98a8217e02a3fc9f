-- A withdrawal holds for ever, through calls and runs of decks, wherever the power fails in them.
use mathlib.Core.Bool.{false≢true}
use lib.Seq.{set-get_or}
use Rattle.register.specs.Rules.{Unissued, Live}
use Rattle.commands.specs.declared.Command.{Command}
use Rattle.commands.specs.declared.Command.TheVariants.{Enter, Act}
use Rattle.commands.specs.declared.Stop.{Stop}
use Rattle.std.proofs.Common.{ℕ, zero, suc, ◌+◌, ◌≡◌, refl, sym, ap, subst, ◌∙◌, Bool, true, false, cond, ◌||◌, List, [], ◌∷◌, ◌≢◌, ◌⊎◌, inl, inr}
use Rattle.std.proofs.Common.{◌↔◌, arith, ltb, length, get_or, set, Result, Ok, Err}
use Rattle.commands.specs.declared.Entry.{Entry}
use Rattle.commands.specs.declared.Order.{Order}
use Rattle.commands.specs.declared.Order.TheVariants.{Issue, Withdraw, Open, Back, Value, Delta, Forward}
use Rattle.commands.specs.Commands.{command_at, entry_size}
use Rattle.entries.specs.Draft.{empty_draft, has_room, added}
use Rattle.render.specs.Lines.{deck_line}
use Rattle.walk.specs.Answers.{accepted}
use Rattle.walk.specs.CallLists.{issue, withdraw, State, after_write, call_result, noted, Catalogue}
use Rattle.walk.specs.OurEngine.{ours}
use Rattle.walk.specs.Power.{call, operate, Event, returned, cut_in, register_after_cut, event_leaves, withdrew, state_after_events, ever_withdrew, Shut}
use Rattle.walk.proofs.Acceptance.{issue_taken, withdraw_taken}
use Rattle.walk.proofs.Invariant.{or_cases}
use Rattle.walk.proofs.OurEngine.{ours_keeps}
use Rattle.machine.specs.Machine.{Machine, machine_on}
use Rattle.machine.specs.Transitions.{transition_of}
use Rattle.listings.specs.Effects.{Effect, stop, go_on, with_draft, entry_effect, order_effect, effect_of}
use Rattle.listings.specs.RegisterFrom.{register_from}
use Rattle.listings.specs.Listing.{register_after}
use Rattle.listings.specs.Power.{found_in_order, found_in_command, found_from, found_after, CutBetween, no_write, one_byte}
use Rattle.listings.specs.Power.{order_withdrew, command_withdrew, withdrew_from, withdrew_after, ShutInRuns, RunsForever, RunPower}
use Rattle.listings.specs.Power.{RunEvent, called, ran, cut_run, run_leaves, run_withdrew, state_after_runs, runs_withdrew}
use Rattle.listings.proofs.Withdrawals.{shut, hidden}

-- ---- what is found stands between

-- an issue is accepted where the byte is FF, a withdraw where it is A5
issues : (g : List ℕ) (y : ℕ) → (accepted (ours.issue g y).said ≡ true) ↔ Unissued g y
issues g y = issue_taken g y _ (ours_keeps.rules.issue g y)

withdraws : (g : List ℕ) (y : ℕ) → (accepted (ours.withdraw g y).said ≡ true) ↔ Live g y
withdraws g y = withdraw_taken g y _ (ours_keeps.rules.withdraw g y)

unwritten : (g : List ℕ) → CutBetween (λ byte. g) g g
unwritten g = no_write refl (λ byte. refl)

written : (taken : Bool) (g : List ℕ) (y new : ℕ) → (taken ≡ true → get_or g y 0 ≢ new) →
    CutBetween (λ byte. cond taken (set g y byte) g) g (cond taken (set g y new) g)
written true g y new h = one_byte y new (h refl) refl (λ byte. refl)
written false g y new h = unwritten g

order_between : (o : Order) (m : Machine) → CutBetween (found_in_order o m) m.register (transition_of o m).next.register
unfolding found_in_order transition_of
order_between (Issue y) m =
    let g = m.register in written (accepted (ours.issue g y).said) g y 0xA5 (λ a e. omega (arith, ((issues g y).0 a).byte, e))
order_between (Withdraw y) m =
    let g = m.register in written (accepted (ours.withdraw g y).said) g y 0x00 (λ a e. omega (arith, ((withdraws g y).0 a).byte, e))
order_between Open m = unwritten m.register
order_between (Back c) m = unwritten m.register
order_between (Value j k) m = unwritten m.register
order_between (Delta j k) m = unwritten m.register
order_between (Forward i k) m = unwritten m.register

-- the register behind a command
abbrev behind : Machine → Effect → List ℕ
behind m (stop text) = m.register
behind m (go_on text next t) = t.register

entry_behind : (e : Entry) (at : ℕ) (m : Machine) → behind m (entry_effect e at m) ≡ m.register
unfolding entry_effect
entry_behind e at m = go (has_room e m.draft)
  where
    go : (b : Bool) →
        behind m (elim b [ true ↦ go_on [] (at + entry_size e) (with_draft m (added e m.draft)) | false ↦ stop (deck_line 20 at) ]) ≡ m.register
    go true = refl
    go false = refl

command_between : (c : Result Command Stop) (at : ℕ) (m : Machine) → CutBetween (found_in_command c m) m.register (behind m (effect_of c at m))
unfolding found_in_command effect_of order_effect
command_between (Ok (Act o)) at m = order_between o m
command_between (Ok (Enter e)) at m = rw (entry_behind e at m) (unwritten m.register)
command_between (Err s) at m = unwritten m.register

between : (done : ℕ) (deck : List ℕ) (at : ℕ) (m : Machine) →
    CutBetween (found_from done deck at m) (register_from done deck at m) (register_from (suc done) deck at m)
unfolding found_from register_from
between zero deck at m = let c = command_at deck at in go (ltb at (length deck)) (effect_of c at m) (command_between c at m)
  where
    go : (b : Bool) (e : Effect) → CutBetween (found_in_command (command_at deck at) m) m.register (behind m e) →
        CutBetween (λ byte. elim b [ true ↦ found_in_command (command_at deck at) m byte | false ↦ m.register ]) m.register
        (elim b [ true ↦ elim e [ stop text ↦ m.register | go_on text next t ↦ t.register ] | false ↦ m.register ])
    go true (stop text) c = c
    go true (go_on text next t) c = c
    go false e c = unwritten m.register
between (suc done) deck at m = go (λ next t. between done deck next t) (ltb at (length deck)) (effect_of (command_at deck at) at m)
  where
    go : ((next : ℕ) (t : Machine) → CutBetween (found_from done deck next t) (register_from done deck next t) (register_from (suc done) deck next t)) →
        (b : Bool) (e : Effect) →
        CutBetween
        (λ byte. elim b [ true ↦ elim e [ stop text ↦ m.register | go_on text next t ↦ found_from done deck next t byte ] | false ↦ m.register ])
        (elim b [ true ↦ elim e [ stop text ↦ m.register | go_on text next t ↦ register_from done deck next t ] | false ↦ m.register ])
        (elim b [ true ↦ elim e [ stop text ↦ m.register | go_on text next t ↦ register_from (suc done) deck next t ] | false ↦ m.register ])
    go rest true (stop text) = unwritten m.register
    go rest true (go_on text next t) = rest next t
    go rest false e = unwritten m.register

-- ---- a number that a register does not say unissued or live

abbrev Gone : List ℕ → ℕ → Type 0
Gone g y = ¬ (Unissued g y ⊎ Live g y)

-- what every call refuses is one
shut_gone : (g : List ℕ) (y : ℕ) → Shut ours g y → Gone g y
shut_gone g y s (inl u) = false≢true (sym s.issue.0.refused ∙ (issues g y).1 u)
shut_gone g y s (inr l) = false≢true (sym s.withdraw.0.refused ∙ (withdraws g y).1 l)

-- From a register to a later one: what is withdrawn stays so, and what was withdrawn in between is.
record Lasting (before after : List ℕ) (withdrew : ℕ → Bool) : Type 0 where
  size : length after ≡ length before
  stays : (y : ℕ) → Gone before y → Gone after y
  goes : (y : ℕ) → withdrew y ≡ true → Gone after y

rests : (g : List ℕ) → Lasting g g (λ y. false)
rests g = record { size = refl; stays = λ y n. n; goes = λ y e. absurd (false≢true e) }

then : {f g h : List ℕ} {p q : ℕ → Bool} → Lasting f g p → Lasting g h q → Lasting f h (λ y. p y || q y)
then {h = h} {p = p} {q = q} a b =
    record { size = b.size ∙ a.size; stays = λ y n. b.stays y (a.stays y n); goes = λ y e. go y (or_cases (p y) (q y) e) }
  where
    go : (y : ℕ) → (p y ≡ true) ⊎ (q y ≡ true) → Gone h y
    go y (inl e) = b.stays y (a.goes y e)
    go y (inr e) = b.goes y e

-- ---- an event of the calls

event_lasts : (s : State) (v : Event) → Lasting s.register (event_leaves ours s v).register (withdrew ours s v)
unfolding state_after_events ever_withdrew
event_lasts s v =
    let p = ours_keeps.power s (v ∷ []) in
    record {
      size = p.whole;
      stays = λ y n. shut_gone _ y (p.stays y n);
      goes = λ y e. shut_gone _ y (p.shut y (ap (λ b. b || false) e));
    }

-- ---- an order is one, as far as the register goes

state_of : Machine → State
state_of m = record { register = m.register; walk = m.walk; rows = m.rooms }

-- any sheets: issue and withdraw bring none
any_sheets : Catalogue
any_sheets = record { sheet = λ y. record { sheet = empty_draft.brought.sheet; number = y; coupons = [] }; bears = λ y. refl }

cut_order_lasts : (o : Order) (m : Machine) (byte : ℕ) → Lasting m.register (found_in_order o m byte) (λ y. false)
unfolding state_of found_in_order transition_of event_leaves register_after_cut withdrew
cut_order_lasts (Issue y) m byte = event_lasts (state_of m) (cut_in (call (issue y)) byte m.walk m.rooms)
cut_order_lasts (Withdraw y) m byte = event_lasts (state_of m) (cut_in (call (withdraw y)) byte m.walk m.rooms)
cut_order_lasts Open m byte = rests m.register
cut_order_lasts (Back c) m byte = rests m.register
cut_order_lasts (Value j k) m byte = rests m.register
cut_order_lasts (Delta j k) m byte = rests m.register
cut_order_lasts (Forward i k) m byte = rests m.register

order_lasts : (o : Order) (m : Machine) → Lasting m.register (transition_of o m).next.register (order_withdrew o m)
unfolding state_of transition_of order_withdrew event_leaves operate call_result after_write withdrew noted
order_lasts (Issue y) m = event_lasts (state_of m) (returned any_sheets (call (issue y)))
order_lasts (Withdraw z) m =
    let r = event_lasts (state_of m) (returned any_sheets (call (withdraw z))) in
    record { size = r.size; stays = r.stays; goes = λ y e. r.goes y (ap (λ b. b || false) e) }
order_lasts Open m = rests m.register
order_lasts (Back c) m = rests m.register
order_lasts (Value j k) m = rests m.register
order_lasts (Delta j k) m = rests m.register
order_lasts (Forward i k) m = rests m.register

-- ---- a command, and a run of them

cut_command_lasts : (c : Result Command Stop) (m : Machine) (byte : ℕ) → Lasting m.register (found_in_command c m byte) (λ y. false)
unfolding found_in_command
cut_command_lasts (Ok (Act o)) m byte = cut_order_lasts o m byte
cut_command_lasts (Ok (Enter e)) m byte = rests m.register
cut_command_lasts (Err s) m byte = rests m.register

command_lasts : (c : Result Command Stop) (at : ℕ) (m : Machine) → Lasting m.register (behind m (effect_of c at m)) (command_withdrew c m)
unfolding command_withdrew effect_of order_effect
command_lasts (Ok (Act o)) at m = order_lasts o m
command_lasts (Ok (Enter e)) at m = rw (entry_behind e at m) (rests m.register)
command_lasts (Err s) at m = rests m.register

found_lasts : (done : ℕ) (deck : List ℕ) (at : ℕ) (m : Machine) (byte : ℕ) →
    Lasting m.register (found_from done deck at m byte) (withdrew_from done deck at m)
unfolding found_from withdrew_from
found_lasts zero deck at m byte = go (ltb at (length deck))
  where
    go : (b : Bool) → Lasting m.register (elim b [ true ↦ found_in_command (command_at deck at) m byte | false ↦ m.register ]) (λ y. false)
    go true = cut_command_lasts (command_at deck at) m byte
    go false = rests m.register
found_lasts (suc done) deck at m byte =
    let c = command_at deck at in go (λ next t. found_lasts done deck next t byte) (ltb at (length deck)) (effect_of c at m) (command_lasts c at m)
  where
    go : ((next : ℕ) (t : Machine) → Lasting t.register (found_from done deck next t byte) (withdrew_from done deck next t)) →
        (b : Bool) (e : Effect) → Lasting m.register (behind m e) (command_withdrew (command_at deck at) m) →
        Lasting m.register
        (elim b [ true ↦ elim e [ stop text ↦ m.register | go_on text next t ↦ found_from done deck next t byte ] | false ↦ m.register ])
        (λ y. elim b [
          | true ↦ command_withdrew (command_at deck at) m y || elim e [ stop text ↦ false | go_on text next t ↦ withdrew_from done deck next t y ]
          | false ↦ false
        ])
    go rest true (stop text) c = then c (rests m.register)
    go rest true (go_on text next t) c = then c (rest next t)
    go rest false e c = rests m.register

-- a run that returned leaves what is found where the next write begins
begins : {found : ℕ → List ℕ} {before after : List ℕ} → CutBetween found before after → (byte : ℕ) × (found byte ≡ before)
begins (no_write p q) = (0, q 0)
begins {before = g} (one_byte y new n p q) = (get_or g y 0, q (get_or g y 0) ∙ set-get_or g y 0)

left_lasts : (commands : ℕ) (deck : List ℕ) (at : ℕ) (m : Machine) →
    Lasting m.register (register_from commands deck at m) (withdrew_from commands deck at m)
left_lasts commands deck at m = let b = begins (between commands deck at m) in rw (sym b.1) (found_lasts commands deck at m b.0)

-- ---- every list of events

-- an oversized deck does nothing
sized : (b : Bool) {g h : List ℕ} {p : ℕ → Bool} → Lasting g h p →
    Lasting g (elim b [ true ↦ g | false ↦ h ]) (λ y. elim b [ true ↦ false | false ↦ p y ])
sized true {g = g} r = rests g
sized false r = r

run_lasts : (s : State) (v : RunEvent) → Lasting s.register (run_leaves s v).register (run_withdrew s v)
unfolding run_leaves run_withdrew register_after found_after withdrew_after
run_lasts s (called event) = event_lasts s event
run_lasts s (ran deck) = sized (ltb 65536 (length deck)) (left_lasts (length deck) deck 0 (machine_on s.register))
run_lasts s (cut_run deck done byte walk rows) = sized (ltb 65536 (length deck)) (found_lasts done deck 0 (machine_on s.register) byte)

runs_last : (l : List RunEvent) (s : State) → Lasting s.register (state_after_runs s l).register (runs_withdrew s l)
unfolding state_after_runs runs_withdrew
runs_last [] s = rests s.register
runs_last (v ∷ l) s = then (run_lasts s v) (runs_last l (run_leaves s v))

gone_shut : (g : List ℕ) (y : ℕ) → Gone g y → ShutInRuns g y
gone_shut g y n =
    record {
      calls = shut g y n;
      orders = λ o m e b. hidden o m (subst (Shut ours m.register) (sym b) (subst (λ r. Shut ours r y) (sym e) (shut g y n)));
    }

pub run_power : RunPower
run_power = record { between = between; forever = forever }
  where
    forever : (start : State) (l : List RunEvent) → RunsForever start l
    forever start l =
        let r = runs_last l start in
        record { shut = λ y e. gone_shut _ y (r.goes y e); stays = λ y n. gone_shut _ y (r.stays y n); whole = r.size }
