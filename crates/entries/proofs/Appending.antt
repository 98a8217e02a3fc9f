-- A number stored behind a list: its list has it at the end, the lists beside it stay.
use Rattle.std.proofs.Common.{ℕ, ◌+◌, ◌-◌, ◌≤◌, ◌<◌, ◌≡◌, sym, ap, ◌∙◌, cond, List, [], ◌∷◌, ◌++◌, add-one, arith, length, take, drop, set}
use Rattle.std.proofs.Common.{length-drop, length-set, leb, take-suc-set, drop-set-lt}
use lib.Seq.{take-set-le, drop-set-add}
use Rattle.sheet.specs.declared.Span.{Span}
use Rattle.sheet.specs.Spans.{list_in}
use Rattle.sheet.proofs.Spans.{list_within}
use Rattle.entries.specs.Layouts.{longer, stored}

pub stored_long : (s : Span) (x : ℕ) (numbers : List ℕ) → length (stored s x numbers) ≡ length numbers
unfolding stored
stored_long s x numbers = length-set numbers (s.at + s.length) x

-- a list whose numbers are stored anew, by what is read of them
list_as : (s : Span) (before after : List ℕ) → length after ≡ length before → take s.length (drop s.at after) ≡ take s.length (drop s.at before) →
    list_in s after ≡ list_in s before
unfolding list_in
list_as s before after e q = λ i. cond (leb (s.at + s.length) (e i)) (q i) []

pub list_grown : (s : Span) (x : ℕ) (numbers : List ℕ) → s.at + s.length < length numbers →
    list_in (longer s) (stored s x numbers) ≡ list_in s numbers ++ (x ∷ [])
unfolding stored
list_grown s x numbers h =
    let inside : s.length < length (drop s.at numbers) = omega (arith, length-drop s.at numbers) in
    list_within (longer s) (set numbers (s.at + s.length) x) (omega (arith, length-set numbers (s.at + s.length) x))
    ∙ ap (take (s.length + 1)) (drop-set-add s.at numbers s.length x)
    ∙ rw add-one (take-suc-set (drop s.at numbers) s.length x inside)
    ∙ ap (λ (l : List ℕ). l ++ (x ∷ [])) (sym (list_within s numbers (omega arith)))

-- a list that starts behind the place
pub list_behind : (s t : Span) (x : ℕ) (numbers : List ℕ) → t.at + t.length < s.at → list_in s (stored t x numbers) ≡ list_in s numbers
unfolding stored
list_behind s t x numbers h =
    list_as s numbers (set numbers (t.at + t.length) x) (length-set numbers (t.at + t.length) x)
    (ap (take s.length) (drop-set-lt s.at numbers (t.at + t.length) x h))

-- behind two places
pub list_behind_two : (s t u : Span) (x y : ℕ) (numbers : List ℕ) → t.at + t.length < s.at → u.at + u.length < s.at →
    list_in s (stored u y (stored t x numbers)) ≡ list_in s numbers
list_behind_two s t u x y numbers h k = list_behind s u y (stored t x numbers) k ∙ list_behind s t x numbers h

-- a list that ends before it
pub list_ahead : (s t : Span) (x : ℕ) (numbers : List ℕ) → s.at + s.length ≤ t.at + t.length → list_in s (stored t x numbers) ≡ list_in s numbers
unfolding stored
list_ahead s t x numbers h =
    let i : ℕ = (t.at + t.length) - s.at in
    let place : t.at + t.length ≡ s.at + i = omega arith in
    let fits : s.length ≤ i = omega arith in
    list_as s numbers (set numbers (t.at + t.length) x) (length-set numbers (t.at + t.length) x)
    (ap (λ (k : ℕ). take s.length (drop s.at (set numbers k x))) place
    ∙ ap (take s.length) (drop-set-add s.at numbers i x)
    ∙ take-set-le s.length (drop s.at numbers) i x fits)
