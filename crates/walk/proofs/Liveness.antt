-- Demand 1, where any list of calls ends: what is refused touches nothing, what meets no refusal is taken and walked back to its root.
use Rattle.std.proofs.Common.{ℕ, ◌+◌, ◌-◌, ◌≤◌, ◌≡◌, refl, ◌∙◌, ap, subst, true, false, cond, ◌&&◌, List, [], ◌∷◌, ◌++◌, arith, pos}
use mathlib.Core.Option.{some}
use Rattle.register.specs.Rules.{Live}
use Rattle.sheet.specs.Brought.{Brought}
use Rattle.sheet.specs.Limits.{Limits}
use Rattle.sheet.proofs.Limits.{limits_terms}
use Rattle.walk.specs.Answers.{accepted}
use Rattle.walk.specs.CallRules.{RegisterResult, WalkResult, says}
use Rattle.walk.specs.Engine.{Engine}
use Rattle.walk.specs.CallLists.{LentRows, own_rows, rows_lent, rows_kept, Call, issue, withdraw, opening, back, value, State, after_write, after_open, after_walk_call, call_result, History, noted, state_after, history_after, Run, end, history, answers}
use Rattle.walk.specs.Accuracy.{Walked, held_d, held_a, held_worth}
use Rattle.walk.specs.RefusalOrders.{FullRows}
use Rattle.walk.specs.Liveness.{then, RootReached, CallRule, Serves}
use Rattle.walk.specs.Promise.{Rules}
use Rattle.walk.proofs.Ordering.{Opening, OnWay}
use Rattle.walk.proofs.Acceptance.{open_taken, back_taken, value_taken}
use Rattle.walk.proofs.Steps.{clean}
use Rattle.walk.proofs.Invariant.{kept_lent}
use Rattle.walk.proofs.Accuracy.{placed}

-- ---- one call more

module _ (e : Engine) (sheets : ℕ → Brought) where
  pub after_then : (s : State) (l : List Call) (c : Call) → state_after e sheets s (l ++ (c ∷ [])) ≡ (call_result e sheets (state_after e sheets s l) c).state
  unfolding state_after
  after_then s [] c = refl
  after_then s (d ∷ l) c = after_then (call_result e sheets s d).state l c

  history_after_then : (s : State) (k : History) (l : List Call) (c : Call) → history_after e sheets s k (l ++ (c ∷ [])) ≡ noted (history_after e sheets s k l) c (call_result e sheets (state_after e sheets s l) c).said
  unfolding history_after state_after
  history_after_then s k [] c = refl
  history_after_then s k (d ∷ l) c = history_after_then (call_result e sheets s d).state (noted k d (call_result e sheets s d).said) l c

pub end_then : (e : Engine) (u : Run) (c : Call) → end e (then u c) ≡ (call_result e u.catalogue.sheet (end e u) c).state
unfolding then
end_then e u c = after_then e u.catalogue.sheet u.start u.calls c

history_then : (e : Engine) (u : Run) (c : Call) → history e (then u c) ≡ noted (history e u) c (answers e u c)
unfolding then
history_then e u c = history_after_then e u.catalogue.sheet u.start _ u.calls c

-- ---- what is refused

write_as : (s : State) (o : RegisterResult) → o.register ≡ s.register → (after_write s o).state ≡ s
unfolding after_write
write_as s o r = λ i. record { register = r i; walk = s.walk; rows = s.rows }

walk_call_as : (s : State) (t : LentRows) (o : WalkResult) → o.walk ≡ s.walk → o.rows ≡ rows_lent t s.rows → (after_walk_call s t o).state ≡ s
unfolding after_walk_call
walk_call_as s t o w l =
    let r : rows_kept t s.rows o.rows ≡ s.rows = ap (rows_kept t s.rows) l ∙ kept_lent t s.rows in
    (λ i. record { register = s.register; walk = w i; rows = r i })

open_as : (s : State) (t : LentRows) (o : WalkResult) → accepted o.said ≡ false → o.walk ≡ s.walk → o.rows ≡ rows_lent t s.rows → (after_open s t o).state ≡ s
unfolding after_open
open_as s t o e w l =
    let r : cond (accepted o.said) o.rows (rows_kept t s.rows o.rows) ≡ s.rows = rw e (ap (rows_kept t s.rows) l ∙ kept_lent t s.rows) in
    (λ i. record { register = s.register; walk = w i; rows = r i })

module _ (e : Engine) (rules : Rules e) where
  by_rule : (sheets : ℕ → Brought) (s : State) (c : Call) → CallRule e sheets s c
  unfolding CallRule
  by_rule sheets s (issue y) = rules.issue s.register y
  by_rule sheets s (withdraw y) = rules.withdraw s.register y
  by_rule sheets s (opening y t) = rules.opening (sheets y) s.register s.walk (rows_lent t s.rows)
  by_rule sheets s (back y t c) = rules.back (sheets y) s.register s.walk (rows_lent t s.rows) c
  by_rule sheets s (value y t j k) = rules.value (sheets y) s.register s.walk (rows_lent t s.rows) j k

  untouched : (sheets : ℕ → Brought) (s : State) (c : Call) → accepted (call_result e sheets s c).said ≡ false → (call_result e sheets s c).state ≡ s
  unfolding call_result after_write after_open after_walk_call
  untouched sheets s (issue y) a = write_as s (e.issue s.register y) ((rules.issue s.register y).writes.leaves a)
  untouched sheets s (withdraw y) a = write_as s (e.withdraw s.register y) ((rules.withdraw s.register y).writes.leaves a)
  untouched sheets s (opening y t) a =
      let k = (rules.opening (sheets y) s.register s.walk (rows_lent t s.rows)).leaves a in
      open_as s t (e.opening (sheets y) s.register s.walk (rows_lent t s.rows)) a k.0 k.1
  untouched sheets s (back y t c) a =
      let k = (rules.back (sheets y) s.register s.walk (rows_lent t s.rows) c).leaves a in
      walk_call_as s t (e.back (sheets y) s.register s.walk (rows_lent t s.rows) c) k.0 k.1
  untouched sheets s (value y t i j) a =
      let k = (rules.value (sheets y) s.register s.walk (rows_lent t s.rows) i j).leaves a in
      walk_call_as s t (e.value (sheets y) s.register s.walk (rows_lent t s.rows) i j) k.0 k.1

  -- ---- what is taken

  taken : (u : Run) (y : ℕ) (l : LentRows) → Limits (u.catalogue.sheet y) → FullRows (u.catalogue.sheet y).sheet (rows_lent l (end e u).rows) →
      Live (end e u).register y → answers e u (opening y l) ≡ says []
  unfolding call_result after_open
  taken u y l m r a =
      let x = u.catalogue.sheet y in
      let o = rules.opening x (end e u).register (end e u).walk (rows_lent l (end e u).rows) in
      let t : Opening x (end e u).register (rows_lent l (end e u).rows) =
      record {
        limits = m;
        lent = record { lists = m.lists; size = a.size; rows = r };
        live = rw (u.catalogue.bears y) a;
      } in
      (o.does ((open_taken x (end e u).register (end e u).walk (rows_lent l (end e u).rows) _ o).1 t)).said

  only : (u : Run) (y : ℕ) (l : LentRows) → accepted (answers e u (opening y l)) ≡ true →
      Limits (u.catalogue.sheet y) × FullRows (u.catalogue.sheet y).sheet (rows_lent l (end e u).rows) × Live (end e u).register y
  unfolding call_result after_open
  only u y l a =
      let x = u.catalogue.sheet y in
      let o = rules.opening x (end e u).register (end e u).walk (rows_lent l (end e u).rows) in
      let t = (open_taken x (end e u).register (end e u).walk (rows_lent l (end e u).rows) _ o).0 a in
      (t.limits, t.lent.rows, rw (u.catalogue.bears y) at t.live)

  -- ---- what is walked back

  module _ (u : Run) (y h : ℕ) (w : Walked e u y h) (a : Live (end e u).register y) where
    abbrev x : Brought
    x = u.catalogue.sheet y

    on_way : OnWay x (end e u).register (end e u).walk (end e u).rows
    on_way =
        let p = placed e rules u y h w in
        record {
          limits = p.stood.limits;
          lent = record { lists = p.stood.limits.lists; size = a.size; rows = p.rows.size };
          live = rw (u.catalogue.bears y) a;
          walk = record { opened = p.stood.opened; number = p.stood.number; position = omega (arith, p.place) };
          clean = rw p.position (clean x.sheet (limits_terms x p.stood.limits) h (x.sheet.steps - h) (end e u).rows (omega (arith, p.place)) p.rows);
        }

    pub goes : (c : ℕ) → h + c ≤ x.sheet.steps → answers e u (back y own_rows c) ≡ says (pos (x.sheet.steps - (h + c)) ∷ [])
    unfolding call_result after_walk_call
    goes c l =
        let p = placed e rules u y h w in
        let o = rules.back x (end e u).register (end e u).walk (end e u).rows c in
        let far : c ≤ (end e u).walk.position = omega (arith, p.place) in
        let i : (end e u).walk.position - c ≡ x.sheet.steps - (h + c) = omega (arith, p.place) in
        (o.does ((back_taken x (end e u).register (end e u).walk (end e u).rows _ c o).1 (on_way, far))).said ∙ ap (λ n. says (pos n ∷ [])) i

    tells : (j k : ℕ) → j ≤ x.sheet.tranches → k ≤ x.sheet.names → answers e u (value y own_rows j k) ≡ held_worth e u x j k
    unfolding call_result after_walk_call held_worth held_d held_a
    tells j k l m =
        let o = rules.value x (end e u).register (end e u).walk (end e u).rows j k in
        (o.does ((value_taken x (end e u).register (end e u).walk (end e u).rows _ j k o).1 (on_way, l, m))).said

    -- So the walk stands c steps further back.
    pub back_steps_on : (c : ℕ) → h + c ≤ x.sheet.steps → Walked e (then u (back y own_rows c)) y (h + c)
    back_steps_on c l =
        record {
          opened = ap (λ k. k.opened) n ∙ w.opened;
          walked = ap (λ k. k.walked) n ∙ ap (λ b. b + c) w.walked;
          own = ap (λ k. k.own) n ∙ ap (λ b. b && true) w.own;
        }
      where
        n : history e (then u (back y own_rows c))
            ≡ record { opened = (history e u).opened; walked = (history e u).walked + c; own = (history e u).own && true; gone = (history e u).gone }
        n = history_then e u (back y own_rows c) ∙ ap (noted (history e u) (back y own_rows c)) (goes c l) ∙ (unfold noted in refl)

  opened_then : (u : Run) (y : ℕ) (l : LentRows) → answers e u (opening y l) ≡ says [] → Walked e (then u (opening y l)) y 0
  opened_then u y l a = record { opened = ap (λ k. k.opened) n; walked = ap (λ k. k.walked) n; own = ap (λ k. k.own) n }
    where
      n : history e (then u (opening y l)) ≡ record { opened = some y; walked = 0; own = true; gone = (history e u).gone }
      n = history_then e u (opening y l) ∙ ap (noted (history e u) (opening y l)) a ∙ (unfold noted in refl)

  open_leaves : (u : Run) (y : ℕ) (l : LentRows) → (end e (then u (opening y l))).register ≡ (end e u).register
  unfolding call_result after_open
  open_leaves u y l = ap (λ s. s.register) (end_then e u (opening y l))

  rooted : (u : Run) (y : ℕ) (l : LentRows) → Limits (u.catalogue.sheet y) → FullRows (u.catalogue.sheet y).sheet (rows_lent l (end e u).rows) →
      Live (end e u).register y → RootReached e u y l
  unfolding then
  rooted u y l m r a =
      let steps = (u.catalogue.sheet y).sheet.steps in
      let t = taken u y l m r a in
      let w = opened_then u y l t in
      let live : Live (end e (then u (opening y l))).register y = rw (open_leaves u y l) a in
      record {
        taken = t;
        goes = λ c i. goes (then u (opening y l)) y 0 w live c (omega arith) ∙ ap (λ n. says (pos (steps - n) ∷ [])) (omega arith);
        root = subst (Walked e (then (then u (opening y l)) (back y own_rows steps)) y) (omega arith)
            (back_steps_on (then u (opening y l)) y 0 w live steps (omega arith));
      }

  pub serves : (u : Run) → Serves e u
  serves u =
      record {
        ruled = by_rule u.catalogue.sheet (end e u);
        untouched = untouched u.catalogue.sheet (end e u);
        taken = rooted u;
        only = only u;
        goes = λ y h c w a l. goes u y h w a c l;
        tells = λ y h w a j k l m. tells u y h w a j k l m;
      }
