-- Demand 3, of every list of calls: what is found of the last walk, and what a withdrawn number shows.
use Rattle.std.proofs.Common.{ℕ, ◌+◌, ◌-◌, ◌*◌, ◌^◌, ◌≤◌, ◌≡◌, refl, sym, ◌∙◌, ap, subst, subst₂, true, [], ◌∷◌, arith, le_refl, get_or, pos}
use Rattle.cash.specs.Units.{B}
use Rattle.hedges.specs.Hedges.{net_value}
use Rattle.cash.proofs.Nearness.{near_as}
use Rattle.cash.proofs.Sums.{sum_cong}
use Rattle.sheet.specs.Terms.{Terms}
use Rattle.sheet.proofs.Limits.{limits_terms}
use Rattle.tree.specs.Sheet.{D, A, WholePool, spanning}
use Rattle.tree.specs.Statements.{IndexPremiums}
use Rattle.tree.proofs.Statements.{distance, additive}
use Rattle.rows.specs.Rows.{node_in}
use Rattle.sheet.specs.Brought.{Brought}
use Rattle.walk.specs.Answers.{Said, accepted}
use Rattle.walk.specs.RefusalOrders.{OnWalk}
use Rattle.walk.specs.CallRules.{says, ValueRule}
use Rattle.walk.specs.Engine.{Engine}
use Rattle.walk.specs.CallLists.{own_rows, rows_lent, value, after_walk_call, call_result, Run, end, history, answers}
use Rattle.walk.specs.Accuracy.{Walked, held_d, held_a, held_worth, ShownValue, IndexAccuracy, WalkAccuracy, Owed}
use Rattle.walk.specs.Promise.{Rules}
use Rattle.walk.proofs.Acceptance.{value_taken, ten_early}
use Rattle.walk.proofs.Steps.{Holding}
use Rattle.walk.proofs.Invariant.{Stands, zero_gone, known}

-- A list that walked h steps back on x: how its walk stands, and its rows.
pub record Place (e : Engine) (u : Run) (x : Brought) (h : ℕ) : Type 0 where
  pub stood : Stands x (history e u) (end e u)
  pub place : (end e u).walk.position + h ≡ x.sheet.steps
  pub position : (end e u).walk.position ≡ x.sheet.steps - h
  pub rows : Holding x.sheet h (x.sheet.steps - h) (end e u).rows

pub placed : (e : Engine) → Rules e → (u : Run) (y h : ℕ) → Walked e u y h → Place e u (u.catalogue.sheet y) h
placed e rules u y h w =
    let x = u.catalogue.sheet y in
    let q : Stands x (history e u) (end e u) = (known e rules u).stood y w.opened in
    let p : (end e u).walk.position + h ≡ x.sheet.steps = subst (λ n. (end e u).walk.position + n ≡ x.sheet.steps) w.walked q.place in
    let i : (end e u).walk.position ≡ x.sheet.steps - h = omega arith in
    record {
      stood = q;
      place = p;
      position = i;
      rows = subst₂ (λ a b. Holding x.sheet a b (end e u).rows) w.walked i (q.held w.own);
    }

module _ (e : Engine) (rules : Rules e) (u : Run) (y h : ℕ) (w : Walked e u y h) (x : Terms) (s : (u.catalogue.sheet y).sheet ≡ x) (j k : ℕ) (l : j ≤ x.tranches) (m : k ≤ x.names) where
  holding : Holding x h (x.steps - h) (end e u).rows
  holding = subst (λ z. Holding z h (z.steps - h) (end e u).rows) s (placed e rules u y h w).rows

  pub held_D : held_d e u x j k ≡ D x j h (x.steps - h) k
  unfolding held_d
  held_D = holding.default j k l m

  pub held_A : held_a e u x j k ≡ A x j h (x.steps - h) k
  unfolding held_a
  held_A = holding.premium j k l m

module _ (e : Engine) (rules : Rules e) (u : Run) (z h : ℕ) (w : Walked e u z h) where
  -- Who is on the walk brings its sheet.
  pub same_sheet : (y : ℕ) → OnWalk (u.catalogue.sheet y) (end e u).walk → u.catalogue.sheet y ≡ u.catalogue.sheet z
  same_sheet y o =
      let number : y ≡ z = sym (u.catalogue.bears y) ∙ sym o.number ∙ (placed e rules u z h w).stood.number ∙ u.catalogue.bears z in
      ap u.catalogue.sheet number

  shown : (y j k : ℕ) → accepted (answers e u (value y own_rows j k)) ≡ true → ShownValue e u (u.catalogue.sheet z) y j k
  unfolding call_result after_walk_call held_d held_a held_worth
  shown y j k t =
      let r : ValueRule (u.catalogue.sheet y) (end e u).register (end e u).walk (end e u).rows j k
      (e.value (u.catalogue.sheet y) (end e u).register (end e u).walk (end e u).rows j k)
      = rules.value (u.catalogue.sheet y) (end e u).register (end e u).walk (end e u).rows j k in
      let a = (value_taken (u.catalogue.sheet y) (end e u).register (end e u).walk (end e u).rows _ j k r).0 t in
      let b : u.catalogue.sheet y ≡ u.catalogue.sheet z = same_sheet y a.0.walk in
      record {
        sheet = b;
        tranche = subst (λ x. j ≤ x.sheet.tranches) b a.1;
        count = subst (λ x. k ≤ x.sheet.names) b a.2;
        said = (r.does t).said ∙ ap (λ x. worth_of x) b;
      }
    where
      worth_of : Brought → Said
      worth_of x =
          says (pos (node_in x.sheet (end e u).rows.defaults j k) ∷ pos (node_in x.sheet (end e u).rows.premiums j k)
          ∷ net_value (node_in x.sheet (end e u).rows.defaults j k) (get_or x.coupons j 0) (node_in x.sheet (end e u).rows.premiums j k) ∷ [])

  of_index : WholePool (u.catalogue.sheet z).sheet → IndexAccuracy e u (u.catalogue.sheet z).sheet h
  of_index p =
      let x = (u.catalogue.sheet z).sheet in
      let adds : IndexPremiums x = (additive x (limits_terms (u.catalogue.sheet z) (placed e rules u z h w).stood.limits)).index p in
      record {
        dates = adds.dates;
        elapsed = adds.elapsed;
        exact = adds.exact h (x.steps - h);
        held = λ k m.
            near_as (adds.computed h (x.steps - h) k m) (le_refl _)
            (ap (λ d. 2 * d) (sum_cong x.tranches _ _ (λ j l. sym (held_A e rules u z h w x refl j k (omega arith) m))))
            (ap (λ d. 2 * d) (sym (held_A e rules u z h w x refl x.tranches k (le_refl _) m)));
      }

  found : WalkAccuracy e u (u.catalogue.sheet z) h
  unfolding spanning
  found =
      let x = u.catalogue.sheet z in
      let i = x.sheet.steps - h in
      let p = placed e rules u z h w in
      let inside = limits_terms x p.stood.limits in
      record {
        steps = omega (arith, p.place);
        walk = λ t. record { «open» = p.stood.opened t; number = p.stood.number t; position = p.position t };
        default_is = held_D e rules u z h w x.sheet refl;
        premium_is = held_A e rules u z h w x.sheet refl;
        default_near = λ j k l m. near_as ((distance x.sheet inside).default j h i k m) (le_refl _) (ap (λ d. d * B ^ (2 * h + 1)) (sym (held_D e rules u z h w x.sheet refl j k l m))) refl;
        premium_near = λ j k l m. near_as ((distance x.sheet inside).premium j h i k m) (le_refl _) (ap (λ d. 2 * (d * B ^ (2 * h + 1))) (sym (held_A e rules u z h w x.sheet refl j k l m))) refl;
        shown = shown;
        defaults_add = λ v y s wy k m.
            near_as ((additive x.sheet inside).default h i k m) (le_refl _)
            (sum_cong x.sheet.tranches _ _ (λ j l. sym (held_D e rules u z h w x.sheet refl j k (omega arith) m)))
            (sym (held_D e rules v y h wy (spanning x.sheet) s 0 k (omega arith) m));
        premiums_add = λ v y s wy k m.
            near_as ((additive x.sheet inside).premium h i k m) (le_refl _)
            (ap (λ d. 2 * d) (sum_cong x.sheet.tranches _ _ (λ j l. sym (held_A e rules u z h w x.sheet refl j k (omega arith) m))))
            (ap (λ d. 2 * d) (sym (held_A e rules v y h wy (spanning x.sheet) s 0 k (omega arith) m)));
        premiums_of_index = of_index;
      }

pub owed : (e : Engine) → Rules e → (u : Run) → Owed e u
unfolding call_result after_walk_call
owed e rules u =
    record {
      found = found e rules u;
      hidden = λ y g t j k.
          let x = u.catalogue.sheet y in
          let r = rules.value x (end e u).register (end e u).walk (rows_lent t (end e u).rows) j k in
          let zero : get_or (end e u).register x.number 0 ≡ 0 = rw (u.catalogue.bears y) ((known e rules u).out y g) in
          ten_early x (end e u).register (zero_gone _ _ zero) _ _ _ refl r.judged;
    }
