-- Steps left that are copied out of a table, served and copied in again: what this comes to.
use lib.Seq.{take-length}
use Rattle.std.proofs.Common.{◌≡◌, refl, sym, ap, ◌∙◌, Bool, true, false, cond, List, [], ◌∷◌, ◌++◌, ℕ, zero, suc, ◌<◌, ◌≤◌, arith, ltb, length}
use Rattle.std.proofs.Common.{get_or, take, drop, length-set, length-append, take-suc, take-suc-set, take_at, le-ltb, ltb-true, ltb-false, Result}
use Rattle.std.proofs.Common.{Err}
use Rattle.places.specs.declared.Served.{Served}
use Rattle.places.specs.declared.NotTaken.{NotTaken}
use Rattle.places.specs.Places.{taken, Outcome, as_lent, served, among_first, served_first, shown_of, stored_of}
use Rattle.places.proofs.Laws.{taken_long}
use Rattle.places.proofs.Partway.{Says, served_refused, served_taken, first_long, first_short, served_length}
use Rattle.turns.specs.declared.Turn.{Turn}
use Rattle.turns.specs.Table.{steps_of, with_left, with_steps, left_at, left_set, copied_out, copied_in}
use Rattle.turns.specs.Turns.{turned}

-- ---- lengths

pub length_copied_out : (table : List Turn) (left : List ℕ) (k : ℕ) → length (copied_out table left k) ≡ length left
length_copied_out table left zero = refl
length_copied_out table left (suc k) = length-set (copied_out table left k) k (left_at table k) ∙ length_copied_out table left k

pub length_steps : (table : List Turn) → length (steps_of table) ≡ length table
length_steps [] = refl
length_steps (t ∷ table) = ap suc (length_steps table)

-- ---- copied out

left_at_is : (table : List Turn) (k : ℕ) → left_at table k ≡ get_or (steps_of table) k 0
left_at_is [] k = refl
left_at_is (t ∷ table) zero = refl
left_at_is (t ∷ table) (suc k) = left_at_is table k

pub out_first : (table : List Turn) (left : List ℕ) (k : ℕ) → k ≤ length table → k ≤ length left →
    take k (copied_out table left k) ≡ take k (steps_of table)
out_first table left zero h g = refl
out_first table left (suc k) h g =
    let room : k < length (copied_out table left k) = rw (length_copied_out table left k) (omega arith) in
    let more : k < length (steps_of table) = rw (length_steps table) (omega arith) in
    take-suc-set (copied_out table left k) k (left_at table k) room
    ∙ ap (λ (x : List ℕ). x ++ (left_at table k ∷ [])) (out_first table left k (omega arith) (omega arith))
    ∙ ap (λ (x : ℕ). take k (steps_of table) ++ (x ∷ [])) (left_at_is table k)
    ∙ sym (take-suc (steps_of table) k 0 more)

-- ---- copied in

with_none : (table : List Turn) → with_steps table [] ≡ table
with_none [] = refl
with_none (t ∷ table) = refl

one_more : (table : List Turn) (left : List ℕ) (k : ℕ) → k < length table → k < length left →
    left_set (with_steps table (take k left)) k (get_or left k 0) ≡ with_steps table (take (suc k) left)
one_more [] left k h g = absurd (omega arith)
one_more (t ∷ table) [] k h g = absurd (omega arith)
one_more (t ∷ table) (x ∷ left) zero h g = ap (λ (y : List Turn). with_left t x ∷ y) (sym (with_none table))
one_more (t ∷ table) (x ∷ left) (suc k) h g = ap (λ (y : List Turn). with_left t x ∷ y) (one_more table left k (omega arith) (omega arith))

pub in_first : (table : List Turn) (left : List ℕ) (k : ℕ) → k ≤ length table → k ≤ length left →
    copied_in table left k ≡ with_steps table (take k left)
in_first table left zero h g = sym (with_none table)
in_first table left (suc k) h g =
    ap (λ (y : List Turn). left_set y k (get_or left k 0)) (in_first table left k (omega arith) (omega arith)) ∙ one_more table left k h g

-- Its own steps left change nothing.
pub with_own : (table : List Turn) → with_steps table (steps_of table) ≡ table
with_own [] = refl
with_own (t ∷ table) = ap (λ (y : List Turn). t ∷ y) (with_own table)

-- ---- copied out, served, and copied in again unless the call was refused

abbrev Turns : List Turn → ℕ → List ℕ → Result Served NotTaken → List Turn → List ℕ → Type 0
Turns table place list r after list₂ =
    (r ≡ (turned table place list).answer) × ((after ≡ (turned table place list).table) × (list₂ ≡ (turned table place list).list))

module _ (table : List Turn) (place : ℕ) (list : List ℕ) where
  abbrev n : ℕ
  n = length table

  abbrev o : Outcome
  o = served (steps_of table) place list

  refused : (left₂ : List ℕ) (k c : ℕ) (r : Result Served NotTaken) (after : List Turn) → o ≡ as_lent (steps_of table) list → r ≡ Err (record {}) →
      c ≡ stored_of r k → after ≡ copied_in table left₂ c → (r ≡ o.answer) × (after ≡ with_steps table o.left)
  refused left₂ k c r after e er ec et =
      let none : c ≡ 0 = ec ∙ ap (λ (x : Result Served NotTaken). stored_of x k) er in (
        er ∙ sym (ap (λ (x : Outcome). x.answer) e),
        et ∙ ap (λ (x : ℕ). copied_in table left₂ x) none ∙ sym (ap (λ (x : Outcome). with_steps table x.left) e ∙ with_own table),
      )

  accepted : (left₁ left₂ : List ℕ) (c : ℕ) (r : Result Served NotTaken) (after : List Turn) → taken (steps_of table) place (length list) ≡ true →
      n ≤ length left₂ → left₂ ≡ o.left ++ drop n left₁ → r ≡ o.answer → c ≡ stored_of r n → after ≡ copied_in table left₂ c →
      after ≡ with_steps table o.left
  accepted left₁ left₂ c r after t room el er ec et =
      let all : c ≡ n = ec ∙ ap (λ (x : Result Served NotTaken). stored_of x n) (er ∙ ap (λ (x : Outcome). x.answer) (served_taken (steps_of table) place list t)) in
      let long : length o.left ≡ n = served_length (steps_of table) place list ∙ length_steps table in
      et ∙ ap (copied_in table left₂) all ∙ in_first table left₂ n (omega arith) room
      ∙ ap (with_steps table) (ap (take n) el ∙ take_at o.left (drop n left₁) n long)

  too_long : 16 < n → taken (steps_of table) place (length list) ≡ false
  too_long h =
      let many : 16 < length (steps_of table) = rw (length_steps table) h in
      sym (taken_long (steps_of table) place (length list) (omega arith) many)

  module _ (left left₁ left₂ list₂ : List ℕ) (k c : ℕ) (r : Result Served NotTaken) (after : List Turn) (sixteen : length left ≡ 16)
      (ek : k ≡ shown_of n) (e₁ : left₁ ≡ copied_out table left k) (e₂ : Says (served_first left₁ n place list) r left₂ list₂)
      (ec : c ≡ stored_of r k) (et : after ≡ copied_in table left₂ c) where
    long : 16 < n → Turns table place list r after list₂
    long h =
        let w = ap (λ (x : Outcome). x.answer) (first_long left₁ n place list h) in
        let e = served_refused (steps_of table) place list (too_long h) in
        let s = refused left₂ k c r after e (e₂.0 ∙ w) ec et in (
          s.0,
          (
            s.1,
            e₂.1.1
                ∙ ap (λ (x : Outcome). x.list) (first_long left₁ n place list h ∙ sym (ap (λ (x : Outcome). as_lent left₁ x.list) e)),
          ),
        )

    few : n ≤ 16 → Turns table place list r after list₂
    few h = (is.0, (stores (taken (steps_of table) place (length list)) refl, is.1.1))
      where
        shows : k ≡ n
        shows = ek ∙ ap (λ (t : Bool). cond t 16 n) (le-ltb 16 n h)

        firsts : take n left₁ ≡ steps_of table
        firsts =
            ap (take n) (e₁ ∙ ap (copied_out table left) shows) ∙ out_first table left n (omega arith) (omega arith)
            ∙ ap (λ (x : ℕ). take x (steps_of table)) (sym (length_steps table)) ∙ take-length (steps_of table)

        is : (r ≡ o.answer) × ((left₂ ≡ o.left ++ drop n left₁) × (list₂ ≡ o.list))
        is =
            let w = first_short left₁ n place list h ∙ ap (λ (x : List ℕ). among_first n left₁ (served x place list)) firsts in
            (e₂.0 ∙ ap (λ (x : Outcome). x.answer) w, (e₂.1.0 ∙ ap (λ (x : Outcome). x.left) w, e₂.1.1 ∙ ap (λ (x : Outcome). x.list) w))

        room : n ≤ length left₂
        room =
            rw is.1.0 (rw length-append (let s = served_length (steps_of table) place list in omega (arith, s, length_steps table)))

        stores : (t : Bool) → taken (steps_of table) place (length list) ≡ t → after ≡ with_steps table o.left
        stores true e = accepted left₁ left₂ c r after e room is.1.0 is.0 (ec ∙ ap (stored_of r) shows) et
        stores false e =
            let s = served_refused (steps_of table) place list e in
            (refused left₂ k c r after s (is.0 ∙ ap (λ (x : Outcome). x.answer) s) ec et).1

    bridge_at : (t : Bool) → ltb 16 n ≡ t → Turns table place list r after list₂
    bridge_at true e = long (ltb-true 16 n e)
    bridge_at false e = few (ltb-false 16 n e)

pub bridge : (table : List Turn) (left left₁ left₂ list list₂ : List ℕ) (place k c : ℕ) (r : Result Served NotTaken) (after : List Turn) → length left ≡ 16 →
    k ≡ shown_of (length table) → left₁ ≡ copied_out table left k → Says (served_first left₁ (length table) place list) r left₂ list₂ →
    c ≡ stored_of r k → after ≡ copied_in table left₂ c →
    (r ≡ (turned table place list).answer) × ((after ≡ (turned table place list).table) × (list₂ ≡ (turned table place list).list))
bridge table left left₁ left₂ list list₂ place k c r after sixteen ek e₁ e₂ ec et =
    bridge_at table place list left left₁ left₂ list₂ k c r after sixteen ek e₁ e₂ ec et (ltb 16 (length table)) refl
