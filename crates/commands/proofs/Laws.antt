-- Laws of the commands for the crates above: how large operands are, and that a command that is read ends in the deck.
use lib.ListN.{get_or-eq_default, get_or-map}
use Rattle.commands.specs.Commands.{widths, operands, commands, decoded, pick, is_command, command_at, entry_size, order_size}
use Rattle.commands.proofs.Low.{one_below, two_below, four_below}
use Rattle.commands.specs.Sizes.{Bytes, Sized}
use Rattle.commands.specs.declared.Command.{Command}
use Rattle.commands.specs.declared.Command.TheVariants.{Enter, Act}
use Rattle.commands.specs.declared.Stop.{Stop}
use Rattle.commands.specs.declared.Stop.TheVariants.{Unknown, CutShort}
use Rattle.std.proofs.Common.{ℕ, zero, suc, ◌+◌, ◌-◌, ◌≤◌, ◌<◌, ◌≡◌, refl, sym, ap, ◌∙◌, subst, Bool, true, false, List, [], ◌∷◌, map, arith}
use Rattle.std.proofs.Common.{ltb-true, ltb-false, leb-true, ltb, leb, lit≤, length, get_or, Result, Ok, Err}
use Rattle.commands.specs.declared.Entry.{Entry}
use Rattle.commands.specs.declared.Entry.TheVariants.{Pool, Attachment, Hazard, Step, Coupon, Elapsed}
use Rattle.commands.specs.declared.Order.{Order}
use Rattle.commands.specs.declared.Order.TheVariants.{Issue, Withdraw, Open, Back, Value, Delta, Forward}

-- what holds of each command of a list, and of the command past its end
abbrev All : (Result Command Stop → Type 0) → List (Result Command Stop) → Type 0
All P [] = Unit {0}
All P (c ∷ l) = P c × All P l

all_at : (P : Result Command Stop → Type 0) (l : List (Result Command Stop)) (d : Result Command Stop) (i : ℕ) → All P l → P d → P (get_or l i d)
all_at P [] d i h p = p
all_at P (c ∷ l) d zero h p = h.0
all_at P (c ∷ l) d (suc i) h p = all_at P l d i h.1 p

commands_sized : (s : List ℕ) (b : ℕ) → Bytes s → All Sized (commands s b)
unfolding commands
commands_sized s b h =
    let byte = one_below s h in
    let long = four_below s h in
    let pool : Sized (get_or (commands s b) 1 (Err Unknown)) = omega (arith, byte b, two_below s h (b + 1), byte (b + 3), long (b + 4), byte (b + 8)) in
    let step : Sized (get_or (commands s b) 4 (Err Unknown)) = omega (arith, long b, long (b + 4)) in
    let back = two_below s h b in
    let value : Sized (get_or (commands s b) 10 (Err Unknown)) = omega (arith, byte b, byte (b + 1)) in
    let delta : Sized (get_or (commands s b) 11 (Err Unknown)) = omega (arith, byte b, byte (b + 1)) in
    let forward : Sized (get_or (commands s b) 12 (Err Unknown)) = omega (arith, back, byte (b + 2)) in
    (tt, (pool, (long b, (long b, (step, (long b, (byte b, (byte b, (tt, (back, (value, (delta, (forward, (long b, tt))))))))))))))

decoded_sized : (code : ℕ) (s : List ℕ) (b : ℕ) → Bytes s → Sized (decoded code s b)
decoded_sized code s b h = all_at Sized (commands s b) (Err Unknown) code (commands_sized s b h) tt

picked : (P : Result Command Stop → Type 0) (t : Bool) (a b : Result Command Stop) → (t ≡ true → P a) → P b → P (pick t a b)
picked P true a b f p = f refl
picked P false a b f p = p

-- what stands at an offset is unknown, cut short, or a command whose operands are there
cases : (P : Result Command Stop → Type 0) (s : List ℕ) (at : ℕ) → P (Err Unknown) → P (Err CutShort) → (operands (get_or s at 0) ≤ length s - (at + 1) → P (decoded (get_or s at 0) s (at + 1))) → P (command_at s at)
unfolding command_at
cases P s at unknown short whole =
    let code : ℕ = get_or s at 0 in
    let rest : ℕ = length s - (at + 1) in
    let command : Result Command Stop = decoded code s (at + 1) in
    picked P (is_command code) (pick (leb (operands code) rest) command (Err CutShort)) (Err Unknown)
    (λ _. picked P (leb (operands code) rest) command (Err CutShort) (λ e. whole (leb-true (operands code) rest e)) short)
    unknown

-- what is read is as large as the widths say
pub sized : (s : List ℕ) (at : ℕ) → Bytes s → Sized (command_at s at)
sized s at h = cases Sized s at tt tt (λ _. decoded_sized (get_or s at 0) s (at + 1) h)

-- a command has a byte at least
pub entry_some : (e : Entry) → (1 ≤ entry_size e) × (entry_size e ≤ 10)
unfolding entry_size
entry_some (Pool names steps tranches recovery number) = (lit≤ tt, lit≤ tt)
entry_some (Attachment x) = (lit≤ tt, lit≤ tt)
entry_some (Hazard p) = (lit≤ tt, lit≤ tt)
entry_some (Step discount accrual) = (lit≤ tt, lit≤ tt)
entry_some (Coupon x) = (lit≤ tt, lit≤ tt)
entry_some (Elapsed e) = (lit≤ tt, lit≤ tt)

pub order_some : (o : Order) → (1 ≤ order_size o) × (order_size o ≤ 4)
unfolding order_size
order_some (Issue number) = (lit≤ tt, lit≤ tt)
order_some (Withdraw number) = (lit≤ tt, lit≤ tt)
order_some Open = (lit≤ tt, lit≤ tt)
order_some (Back steps) = (lit≤ tt, lit≤ tt)
order_some (Value tranche count) = (lit≤ tt, lit≤ tt)
order_some (Delta tranche count) = (lit≤ tt, lit≤ tt)
order_some (Forward step count) = (lit≤ tt, lit≤ tt)

-- the size of a command that is read, and one byte where none is
abbrev size : Result Command Stop → ℕ
size (Ok (Enter e)) = entry_size e
size (Ok (Act o)) = order_size o
size (Err stop) = 1

sizes : (s : List ℕ) (b : ℕ) → map size (commands s b) ≡ map suc widths
unfolding commands entry_size order_size
sizes s b = refl

-- the sizes agree with the widths of the operands
decoded_size : (code : ℕ) (s : List ℕ) (b : ℕ) → size (decoded code s b) ≡ suc (operands code)
unfolding operands
decoded_size code s b =
    sym (get_or-map size (commands s b) code (Err Unknown))
    ∙ ap (λ (l : List ℕ). get_or l code 1) (sizes s b)
    ∙ get_or-map suc widths code 0

-- at an offset of the deck
within : (s : List ℕ) (at : ℕ) → at < length s → at + size (command_at s at) ≤ length s
within s at h =
    cases (λ (c : Result Command Stop). at + size c ≤ length s) s at (omega arith) (omega arith)
    (λ l. omega (arith, decoded_size (get_or s at 0) s (at + 1)))

-- past the end there is no command
past : (s : List ℕ) (at : ℕ) → length s ≤ at → command_at s at ≡ Err Unknown
unfolding command_at
past s at h = rw (get_or-eq_default s 0 h)

module _ (s : List ℕ) (at : ℕ) where
  fits_at : (c : Result Command Stop) (t : Bool) → ltb at (length s) ≡ t → command_at s at ≡ c → (c ≡ Err Unknown → ⊥) → at + size c ≤ length s
  fits_at c true e q ne = subst (λ (d : Result Command Stop). at + size d ≤ length s) q (within s at (ltb-true at (length s) e))
  fits_at c false e q ne = absurd (ne (sym q ∙ past s at (ltb-false at (length s) e)))

  -- a command that is read ends in the deck
  pub entry_fits : (e : Entry) → command_at s at ≡ Ok (Enter e) → at + entry_size e ≤ length s
  entry_fits e q = fits_at (Ok (Enter e)) (ltb at (length s)) refl q (λ u. let z : ◌≡◌ {A = ℕ} 0 1 = cc in omega arith)
