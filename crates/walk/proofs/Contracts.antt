-- Each call of ours continues every list that leads to it.
use Rattle.std.proofs.Common.{ℕ, ◌≡◌, refl, sym, ◌∙◌, ap, Bool, true, false, cond, List}
use Rattle.sheet.specs.Brought.{Brought}
use Rattle.walk.specs.declared.Walk.{Walk}
use Rattle.rows.specs.Rows.{Rows}
use Rattle.walk.specs.Answers.{accepted}
use Rattle.walk.specs.Calls.{Outcome, open_call, back_call, value_call}
use Rattle.walk.specs.OurEngine.{ours, walk_result}
use Rattle.walk.specs.CallLists.{own_rows, Call, opening, back, value, State, CallResult, call_result, after_open, after_walk_call, Run, end}
use Rattle.walk.specs.Liveness.{then}
use Rattle.walk.specs.CallContracts.{Continues, Promised}
use Rattle.walk.proofs.OurRules.{ours_rules}
use Rattle.walk.proofs.FromRules.{lists}
use Rattle.walk.proofs.Liveness.{end_then}

-- What a call that only moves the walk and the rows leaves.
abbrev leaves : List ℕ → Outcome → CallResult
leaves g o = record { said = (walk_result o).said; state = record { register = g; walk = o.walk; rows = o.rows } }

continues : (u : Run) (c : Call) (g : List ℕ) (w : Walk) (l : Rows) (o : Outcome) → end ours u ≡ record { register = g; walk = w; rows = l } →
    call_result ours u.catalogue.sheet (end ours u) c ≡ leaves g o → Continues u c o
continues u c g w l o e t =
    let r : g ≡ (end ours u).register = sym (ap (λ (s : State). s.register) e) in
    record {
      before = lists ours ours_rules u;
      after = lists ours ours_rules (then u c);
      said = ap (λ (r : CallResult). r.said) t;
      left = end_then ours u c ∙ ap (λ (r : CallResult). r.state) t ∙ (λ i. record { register = r i; walk = o.walk; rows = o.rows });
    }

-- An open that was lent the walk's own rows leaves what it answers, accepted or not.
either_way : (b : Bool) (l : Rows) → cond b l l ≡ l
either_way true l = refl
either_way false l = refl

module _ (x : Brought) (g : List ℕ) (w : Walk) (l : Rows) where
  pub open_promised : {o : Outcome} → o ≡ open_call x g w l → Promised x g w l (opening x.number own_rows) o
  unfolding call_result after_open
  open_promised {o} d u q e =
      continues u _ g w l o e
      ((λ i. after_open (e i) own_rows (walk_result (open_call (q i) (e i).register (e i).walk (e i).rows)))
      ∙ (λ i. record { said = (walk_result (open_call x g w l)).said; state = record { register = g; walk = (open_call x g w l).walk; rows = either_way (accepted (walk_result (open_call x g w l)).said) (open_call x g w l).rows i } })
      ∙ sym (ap (leaves g) d))

  pub back_promised : (c : ℕ) {o : Outcome} → o ≡ back_call x g w l c → Promised x g w l (back x.number own_rows c) o
  unfolding call_result after_walk_call
  back_promised c {o} d u q e =
      continues u _ g w l o e
      ((λ i. after_walk_call (e i) own_rows (walk_result (back_call (q i) (e i).register (e i).walk (e i).rows c))) ∙ sym (ap (leaves g) d))

  pub value_promised : (j k : ℕ) {o : Outcome} → o ≡ value_call x g w l j k → Promised x g w l (value x.number own_rows j k) o
  unfolding call_result after_walk_call
  value_promised j k {o} d u q e =
      continues u _ g w l o e
      ((λ i. after_walk_call (e i) own_rows (walk_result (value_call (q i) (e i).register (e i).walk (e i).rows j k))) ∙ sym (ap (leaves g) d))
