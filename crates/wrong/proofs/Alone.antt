-- Demand 3 leaves an engine no choice in any list.
use Rattle.std.proofs.Common.{ℕ, ◌≡◌, refl, sym, ◌∙◌, ap, subst, List, [], ◌∷◌, ◌++◌}
use Rattle.sheet.specs.Brought.{Brought}
use Rattle.rows.specs.Rows.{Rows}
use Rattle.walk.specs.Engine.{Engine}
use Rattle.walk.specs.CallLists.{Call, issue, withdraw, opening, back, value, State, CallResult, after_write, after_open, after_walk_call, call_result, state_after, Catalogue, blank_state, end, answers}
use Rattle.walk.specs.Liveness.{CallRule}
use Rattle.walk.specs.Promise.{Demand3, blank_run}
use Rattle.walk.proofs.Uniqueness.{issue_once, withdraw_once, open_once, back_once_lem, value_once}
use Rattle.walk.proofs.Liveness.{after_then}
use Rattle.wrong.specs.Alone.{ListsAlone}

result_once : (e f : Engine) (sheets : ℕ → Brought) (s : State) (c : Call) → CallRule e sheets s c → CallRule f sheets s c → call_result e sheets s c ≡ call_result f sheets s c
unfolding CallRule call_result
result_once e f sheets s (issue y) p q = ap (after_write s) (issue_once _ y _ _ p q)
result_once e f sheets s (withdraw y) p q = ap (after_write s) (withdraw_once _ y _ _ p q)
result_once e f sheets s (opening y t) p q = ap (after_open s t) (open_once _ _ _ _ _ _ p q)
result_once e f sheets s (back y t c) p q = ap (after_walk_call s t) (back_once_lem _ _ _ _ c _ _ p q)
result_once e f sheets s (value y t j k) p q = ap (after_walk_call s t) (value_once _ _ _ _ j k _ _ p q)

module _ (e f : Engine) (d : Demand3 e) (b : Demand3 f) (k : Catalogue) (rows : Rows) where
  -- A call after lists that left one state.
  next : (l : List Call) (c : Call) → end e (blank_run k rows l) ≡ end f (blank_run k rows l) →
      call_result e k.sheet (end e (blank_run k rows l)) c ≡ call_result f k.sheet (end f (blank_run k rows l)) c
  unfolding blank_run
  next l c m =
      result_once e f k.sheet _ c ((d k rows l).serves.ruled c) (subst (λ s. CallRule f k.sheet s c) (sym m) ((b k rows l).serves.ruled c))
      ∙ ap (λ s. call_result f k.sheet s c) m

  -- l, then more calls
  on : (l more : List Call) → end e (blank_run k rows l) ≡ end f (blank_run k rows l) →
      state_after e k.sheet (end e (blank_run k rows l)) more ≡ state_after f k.sheet (end f (blank_run k rows l)) more
  unfolding blank_run state_after
  on l [] m = m
  on l (c ∷ more) m =
      let p = after_then e k.sheet (blank_state rows) l c in
      let q = after_then f k.sheet (blank_state rows) l c in
      let n = ap (λ (t : CallResult). t.state) (next l c m) in
      let r = on (l ++ (c ∷ [])) more (p ∙ n ∙ sym q) in
      ap (λ s. state_after e k.sheet s more) (sym p) ∙ r ∙ ap (λ s. state_after f k.sheet s more) q

  ends : (l : List Call) → end e (blank_run k rows l) ≡ end f (blank_run k rows l)
  unfolding blank_run state_after
  ends l = on [] l refl

  replies : (l : List Call) (c : Call) → answers e (blank_run k rows l) c ≡ answers f (blank_run k rows l) c
  unfolding blank_run
  replies l c = ap (λ (t : CallResult). t.said) (next l c (ends l))

pub lists_alone : ListsAlone
lists_alone e f d b k rows l = record { state = ends e f d b k rows l; said = replies e f d b k rows l }
