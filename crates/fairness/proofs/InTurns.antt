-- Walks in turns: on any register in which its number is live a walk goes on from where it stands, and the steps of its turns join to one back.
use Rattle.std.proofs.Common.{ℕ, zero, suc, ◌+◌, ◌-◌, ◌≤◌, ◌≡◌, refl, sym, ap, ◌∙◌, subst, List, [], ◌∷◌, arith, pos, eq-eqb, ne_eqb}
use Rattle.register.specs.Rules.{Live}
use Rattle.sheet.specs.Brought.{Brought}
use Rattle.sheet.specs.Terms.{Terms}
use Rattle.sheet.proofs.Limits.{limits_terms}
use Rattle.rows.specs.Rows.{Rows}
use Rattle.walk.specs.declared.Walk.{Walk}
use Rattle.walk.specs.CallRules.{says, WalkResult, BackSteps, AcceptedBack}
use Rattle.walk.specs.Engine.{Engine}
use Rattle.walk.specs.CallLists.{Run, end}
use Rattle.walk.specs.Accuracy.{Walked}
use Rattle.walk.specs.Promise.{Rules}
use Rattle.walk.specs.OurEngine.{ours}
use Rattle.walk.proofs.Ordering.{OnWay}
use Rattle.walk.proofs.Acceptance.{back_taken}
use Rattle.walk.proofs.Walking.{back_steps_once}
use Rattle.walk.proofs.Steps.{Holding, back_steps_lem, clean}
use Rattle.walk.proofs.Accuracy.{placed}
use Rattle.walk.proofs.OurRules.{ours_rules}
use Rattle.rounds.proofs.Cycle.{Same, same, other, same?}
use Rattle.rounds.proofs.Turns.{at_same, at_other, at_none}
use Rattle.fairness.specs.InTurns.{Standing, standing_in, back_of, stands_back, WalkedTurn, after_turn, after_turns, turns_had, LiveAt, WalksInTurns}

-- d steps behind c steps.
steps_join : (x : Terms) (c d i : ℕ) (a b z : Rows) → BackSteps x c i a b → BackSteps x d (i - c) b z → BackSteps x (c + d) i a z
unfolding BackSteps
steps_join x zero d i a b z e s =
    let f : i - 0 ≡ i = omega arith in
    let n : d ≡ zero + d = omega arith in
    subst (λ (k : ℕ). BackSteps x k i a z) n (subst (λ (r : Rows). BackSteps x d i r z) (sym e) (subst (λ (k : ℕ). BackSteps x d k b z) f s))
steps_join x (suc c) d i a b z (between, s, r) more =
    let f : i - suc c ≡ (i - 1) - c = omega arith in
    let n : suc (c + d) ≡ suc c + d = omega arith in
    subst (λ (k : ℕ). BackSteps x k i a z) n
    (between, s, steps_join x c d (i - 1) between b z r (subst (λ (k : ℕ). BackSteps x d k b z) f more))

module _ (e : Engine) (rules : Rules e) (u : Run) (y h : ℕ) (w : Walked e u y h) where
  abbrev x : Brought
  x = u.catalogue.sheet y

  abbrev first : Walk
  first = (end e u).walk

  -- Where the walk stands c steps further back, with these rows.
  abbrev place_at : ℕ → Rows → Standing
  place_at c rows = record { sheet = x; walk = record { «open» = first.«open»; number = first.number; position = first.position - c }; rows = rows }

  -- What stands so.
  record After (c : ℕ) (v : Standing) : Type 0 where
    rows : Rows
    is : v ≡ place_at c rows
    steps : BackSteps x.sheet c first.position (end e u).rows rows

  -- ---- a back by d from there

  module _ (c d : ℕ) (rows : Rows) (steps : BackSteps x.sheet c first.position (end e u).rows rows)
      (register : List ℕ) (live : Live register y) (far : h + c + d ≤ x.sheet.steps) where
    abbrev o : WalkResult
    o = back_of e register (place_at c rows) d

    joined : first.position + h ≡ x.sheet.steps
    joined = (placed e rules u y h w).place

    held : Holding x.sheet (h + c) (first.position - c) rows
    held =
        let p = placed e rules u y h w in
        back_steps_lem x.sheet c h first.position (end e u).rows rows (omega (arith, joined)) steps
        (subst (λ (i : ℕ). Holding x.sheet h i (end e u).rows) (sym p.position) p.rows)

    on_way : OnWay x register (place_at c rows).walk rows
    on_way =
        let p = placed e rules u y h w in
        record {
          limits = p.stood.limits;
          lent = record { lists = p.stood.limits.lists; size = live.size; rows = held.size };
          live = rw (u.catalogue.bears y) live;
          walk = record { opened = p.stood.opened; number = p.stood.number; position = omega (arith, joined) };
          clean = clean x.sheet (limits_terms x p.stood.limits) (h + c) (first.position - c) rows (omega (arith, joined)) held;
        }

    does : AcceptedBack x (place_at c rows).walk rows d o
    does =
        let rule = rules.back x register (place_at c rows).walk rows d in
        rule.does ((back_taken x register (place_at c rows).walk rows o d rule).1 (on_way, omega (arith, joined)))

    says_place : o.said ≡ says (pos (x.sheet.steps - (h + c + d)) ∷ [])
    says_place = does.said ∙ ap (λ (n : ℕ). says (pos n ∷ [])) (omega (arith, joined))

    on : After (c + d) (stands_back e register (place_at c rows) d)
    on =
        let i : first.position - c - d ≡ first.position - (c + d) = omega arith in
        let walk : o.walk ≡ (place_at (c + d) rows).walk =
        does.walk ∙ (λ t. record { «open» = first.«open»; number = first.number; position = i t }) in
        record {
          rows = o.rows;
          is = λ t. record { sheet = x; walk = walk t; rows = o.rows };
          steps = steps_join x.sheet c d first.position (end e u).rows rows o.rows steps does.rows;
        }

  -- The same of what stands so.
  back_on : (c d : ℕ) (v : Standing) → After c v → (register : List ℕ) → Live register y → h + c + d ≤ x.sheet.steps →
      After (c + d) (stands_back e register v d)
  back_on c d v a register live far =
      subst (λ (k : Standing). After (c + d) (stands_back e register k d)) (sym a.is) (on c d a.rows a.steps register live far)

  once : (c : ℕ) (a b : Standing) → After c a → After c b → a ≡ b
  once c a b p q =
      let r = back_steps_once x.sheet c first.position (end e u).rows p.rows q.rows p.steps q.steps in
      p.is ∙ ap (place_at c) r ∙ sym q.is

  after_none : After 0 (standing_in e u y)
  unfolding BackSteps
  after_none =
      let i : first.position ≡ first.position - 0 = omega arith in
      record {
        rows = (end e u).rows;
        is = λ t. record {
          sheet = x;
          walk = record { «open» = first.«open»; number = first.number; position = i t };
          rows = (end e u).rows;
        };
        steps = refl;
      }

  -- ---- turns

  -- A turn of this place is a step, and a turn of another is none.
  module _ (walks : ℕ → Standing) (turn : WalkedTurn) (turns : List WalkedTurn) (place c : ℕ) where
    abbrev Stepped : Type 0
    Stepped = (d : ℕ) × (turns_had place (turn ∷ turns) ≡ d + turns_had place turns) × After (c + d) (after_turn e walks turn place)

    turn_on : After c (walks place) → LiveAt y place (turn ∷ turns) → h + c + turns_had place (turn ∷ turns) ≤ x.sheet.steps → Stepped
    turn_on a live far = go (same? place turn.place)
      where
        go : Same place turn.place → Stepped
        go (same s) =
            let count : turns_had place (turn ∷ turns) ≡ suc (turns_had place turns) = at_same place turn.place _ s in
            (1, omega arith, rw (eq-eqb place turn.place s) (back_on c 1 (walks place) a turn.register (live.0 s) (omega arith)))
        go (other s) =
            let count : turns_had place (turn ∷ turns) ≡ turns_had place turns = at_other place turn.place _ s in
            let still : c ≡ c + 0 = omega arith in
            (0, omega arith, rw (ne_eqb place turn.place s) (subst (λ (n : ℕ). After n (walks place)) still a))

  turns_on : (walks : ℕ → Standing) (turns : List WalkedTurn) (place c : ℕ) → After c (walks place) → LiveAt y place turns →
      h + c + turns_had place turns ≤ x.sheet.steps → After (c + turns_had place turns) (after_turns e walks turns place)
  turns_on walks [] place c a live far =
      let still : c ≡ c + turns_had place [] = omega (arith, at_none place) in
      subst (λ (n : ℕ). After n (walks place)) still a
  turns_on walks (turn ∷ turns) place c a live far =
      let (d, count, stands) = turn_on walks turn turns place c a live far in
      let all : c + d + turns_had place turns ≡ c + turns_had place (turn ∷ turns) = omega arith in
      subst (λ (n : ℕ). After n (after_turns e (after_turn e walks turn) turns place)) all
      (turns_on (after_turn e walks turn) turns place (c + d) stands live.1 (omega arith))

  -- ---- from where it stands

  module _ (walks : ℕ → Standing) (turns : List WalkedTurn) (place : ℕ) (stands : walks place ≡ standing_in e u y) (live : LiveAt y place turns)
      (register : List ℕ) (live_then : Live register y) where
    abbrev had : ℕ
    had = turns_had place turns

    started : After 0 (walks place)
    started = subst (After 0) (sym stands) after_none

    stood : h + had ≤ x.sheet.steps → After had (after_turns e walks turns place)
    stood far =
        let all : 0 + had ≡ had = omega arith in
        subst (λ (n : ℕ). After n (after_turns e walks turns place)) all (turns_on walks turns place 0 started live (omega arith))

    goes_on : (c : ℕ) → h + had + c ≤ x.sheet.steps →
        (back_of e register (after_turns e walks turns place) c).said ≡ says (pos (x.sheet.steps - (h + had + c)) ∷ [])
    goes_on c far =
        let a = stood (omega arith) in
        ap (λ (v : Standing). (back_of e register v c).said) a.is ∙ says_place had c a.rows a.steps register live_then far

    same_as_one : h + had ≤ x.sheet.steps → after_turns e walks turns place ≡ stands_back e register (walks place) had
    same_as_one far =
        let all : 0 + had ≡ had = omega arith in
        let one : After had (stands_back e register (walks place) had) =
        subst (λ (n : ℕ). After n (stands_back e register (walks place) had)) all
        (back_on 0 had (walks place) started register live_then (omega arith)) in
        once had (after_turns e walks turns place) (stands_back e register (walks place) had) (stood far) one

pub walks_in_turns : (e : Engine) → Rules e → WalksInTurns e
walks_in_turns e rules =
    record {
      goes = λ u y h walks turns place m register c live far.
          goes_on e rules u y h m.walked walks turns place m.stands m.live register live c far;
      same = λ u y h walks turns place m register live far.
          same_as_one e rules u y h m.walked walks turns place m.stands m.live register live far;
    }

pub ours_walks_in_turns : WalksInTurns ours
ours_walks_in_turns = walks_in_turns ours ours_rules
