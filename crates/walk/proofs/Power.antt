-- A withdrawal that returned holds for ever, as does a byte that says withdrawn, wherever the power fails.
-- A write only clears bits, of its own byte.
use Rattle.std.proofs.Common.{ℕ, suc, ◌≤◌, ◌<◌, ◌≡◌, refl, sym, ◌∙◌, ap, subst, Bool, true, false, cond, ◌&&◌, ◌||◌, List, [], ◌∷◌, ◌≢◌, ◌⊎◌, inl}
use Rattle.std.proofs.Common.{inr, arith, length, get_or, set, length-set, get_or-set_same, get_or-set_other, eqb, eqb-true}
use mathlib.Core.Bool.{false≢true}
use native.Mathlib.Decide.{dec_lt}
use lib.ListN.{get_or-eq_default}
use Rattle.register.specs.Rules.{Unissued, Live}
use Rattle.register.specs.Cut.{may_be_left}
use Rattle.std.proofs.lemmas.Bool.{and_parts as both}
use Rattle.sheet.specs.Brought.{Brought}
use Rattle.walk.specs.declared.Walk.{Walk}
use Rattle.rows.specs.Rows.{Rows}
use Rattle.walk.specs.Answers.{accepted}
use Rattle.walk.specs.CallRules.{RegisterResult, WalkResult, RefusalEffect, ByteWrite}
use Rattle.walk.specs.Engine.{Engine}
use Rattle.walk.specs.CallLists.{rows_lent, issue, withdraw, opening, back, value, State, after_write, after_open, after_walk_call, call_result, History, noted, no_history}
use Rattle.walk.specs.Power.{Operation, call, ratio, forward, operate, Event, returned, cut_in, register_after_cut, event_leaves, withdrew, state_after_events, ever_withdrew, ShutWrite, ShutWalk, Shut, Forever, WriteClears, Clears}
use Rattle.walk.specs.RefusalOrders.{RefusalOrder}
use Rattle.walk.specs.Accuracy.{EarlyRefusal}
use Rattle.walk.specs.Promise.{Rules}
use Rattle.walk.proofs.Acceptance.{issue_taken, withdraw_taken, issue_early, withdraw_early, ten_early}
use Rattle.walk.proofs.Invariant.{writes_zero, zero_stays, unissued_some, live_some, zero_gone, or_cases}

-- ---- what a write leaves

cut_size : (b : Bool) (g : List ℕ) (y v : ℕ) → length (cond b (set g y v) g) ≡ length g
cut_size true g y v = length-set g y v
cut_size false g y v = refl

cut_zero : (b : Bool) (g : List ℕ) (y v : ℕ) → (b ≡ true → get_or g y 0 ≢ 0) → (z : ℕ) → get_or g z 0 ≡ 0 → get_or (cond b (set g y v) g) z 0 ≡ 0
cut_zero true g y v h z e = zero_stays g y z v (h refl) e
cut_zero false g y v h z e = e

-- A byte that is neither FF nor A5 is not the one written.
cut_withdrawn : (c : Bool) (g : List ℕ) (y v : ℕ) → (c ≡ true → Unissued g y ⊎ Live g y) → (z : ℕ) → ¬ (Unissued g z ⊎ Live g z)
    → ¬ (Unissued (cond c (set g y v) g) z ⊎ Live (cond c (set g y v) g) z)
cut_withdrawn false g y v h z n k = n k
cut_withdrawn true g y v h z n k = go k
  where
    apart : z ≢ y
    apart e = n (subst (λ i. Unissued g i ⊎ Live g i) (sym e) (h refl))

    go : Unissued (set g y v) z ⊎ Live (set g y v) z → ⊥
    go (inl u) = n (inl (record { size = sym (length-set g y v) ∙ u.size; byte = sym (get_or-set_other g y z v 0 apart) ∙ u.byte }))
    go (inr u) = n (inr (record { size = sym (length-set g y v) ∙ u.size; byte = sym (get_or-set_other g y z v 0 apart) ∙ u.byte }))

cut_others : (c : Bool) (g : List ℕ) (y v z : ℕ) → z ≢ y → get_or (cond c (set g y v) g) z 0 ≡ get_or g z 0
cut_others true g y v z n = get_or-set_other g y z v 0 n
cut_others false g y v z n = refl

-- A call that returned writes as a cut that finds the byte written.
written : (g : List ℕ) (y v : ℕ) (o : RegisterResult) → ByteWrite g y v o → o.register ≡ cond (accepted o.said) (set g y v) g
written g y v o r = go (accepted o.said) refl
  where
    go : (b : Bool) → accepted o.said ≡ b → o.register ≡ cond (accepted o.said) (set g y v) g
    go true e = rw e (r.does e).1
    go false e = rw e (r.leaves e)

module _ (e : Engine) (rules : Rules e) where
  issue_over : (g : List ℕ) (y : ℕ) → accepted (e.issue g y).said ≡ true → get_or g y 0 ≢ 0
  issue_over g y a = unissued_some g y ((issue_taken g y _ (rules.issue g y)).0 a)

  withdraw_over : (g : List ℕ) (y : ℕ) → accepted (e.withdraw g y).said ≡ true → get_or g y 0 ≢ 0
  withdraw_over g y a = live_some g y ((withdraw_taken g y _ (rules.withdraw g y)).0 a)

  after_cut_size : (g : List ℕ) (o : Operation) (b : ℕ) → length (register_after_cut e g o b) ≡ length g
  unfolding register_after_cut
  after_cut_size g (call (issue y)) b = cut_size (accepted (e.issue g y).said) g y b
  after_cut_size g (call (withdraw y)) b = cut_size (accepted (e.withdraw g y).said) g y b
  after_cut_size g (call (opening y l)) b = refl
  after_cut_size g (call (back y t c)) b = refl
  after_cut_size g (call (value y t j k)) b = refl
  after_cut_size g (ratio y t j k) b = refl
  after_cut_size g (forward y q i) b = refl

  after_cut_zero : (g : List ℕ) (o : Operation) (b z : ℕ) → get_or g z 0 ≡ 0 → get_or (register_after_cut e g o b) z 0 ≡ 0
  unfolding register_after_cut
  after_cut_zero g (call (issue y)) b z p = cut_zero (accepted (e.issue g y).said) g y b (issue_over g y) z p
  after_cut_zero g (call (withdraw y)) b z p = cut_zero (accepted (e.withdraw g y).said) g y b (withdraw_over g y) z p
  after_cut_zero g (call (opening y l)) b z p = p
  after_cut_zero g (call (back y t c)) b z p = p
  after_cut_zero g (call (value y t j k)) b z p = p
  after_cut_zero g (ratio y t j k) b z p = p
  after_cut_zero g (forward y q i) b z p = p

  -- The byte that a call writes where it returns.
  abbrev byte_of : Operation → ℕ
  byte_of (call (issue y)) = 0xA5
  byte_of (call (withdraw y)) = 0x00
  byte_of (call (opening y l)) = 0
  byte_of (call (back y t c)) = 0
  byte_of (call (value y t j k)) = 0
  byte_of (ratio y t j k) = 0
  byte_of (forward y q i) = 0

  operate_writes : (sheets : ℕ → Brought) (s : State) (o : Operation) → (operate e sheets s o).state.register ≡ register_after_cut e s.register o (byte_of o)
  unfolding operate call_result after_write after_open after_walk_call register_after_cut
  operate_writes sheets s (call (issue y)) = written s.register y 0xA5 (e.issue s.register y) (rules.issue s.register y).writes
  operate_writes sheets s (call (withdraw y)) = written s.register y 0x00 (e.withdraw s.register y) (rules.withdraw s.register y).writes
  operate_writes sheets s (call (opening y l)) = refl
  operate_writes sheets s (call (back y t c)) = refl
  operate_writes sheets s (call (value y t j k)) = refl
  operate_writes sheets s (ratio y t j k) = refl
  operate_writes sheets s (forward y q i) = refl

  leaves_size : (s : State) (v : Event) → length (event_leaves e s v).register ≡ length s.register
  unfolding event_leaves
  leaves_size s (returned k o) = ap length (operate_writes k.sheet s o) ∙ after_cut_size s.register o (byte_of o)
  leaves_size s (cut_in o b w m) = after_cut_size s.register o b

  leaves_zero : (s : State) (v : Event) (z : ℕ) → get_or s.register z 0 ≡ 0 → get_or (event_leaves e s v).register z 0 ≡ 0
  unfolding event_leaves
  leaves_zero s (returned k o) z p = ap (λ g. get_or g z 0) (operate_writes k.sheet s o) ∙ after_cut_zero s.register o (byte_of o) z p
  leaves_zero s (cut_in o b w m) z p = after_cut_zero s.register o b z p

  -- ---- the withdrawal itself

  gone_zero : (g : List ℕ) (y z : ℕ) → (accepted (e.withdraw g y).said && eqb z y || false) ≡ true → get_or (e.withdraw g y).register z 0 ≡ 0
  gone_zero g y z p = go (or_cases (accepted (e.withdraw g y).said && eqb z y) false p)
    where
      go : ((accepted (e.withdraw g y).said && eqb z y) ≡ true) ⊎ (false ≡ true) → get_or (e.withdraw g y).register z 0 ≡ 0
      go (inl q) =
          let b = both (accepted (e.withdraw g y).said) (eqb z y) q in
          ap (λ r. get_or r z 0) ((rules.withdraw g y).writes.does b.0).1 ∙ writes_zero g y z (inl (eqb-true z y b.1))
      go (inr q) = absurd (false≢true q)

  open_none : (a : Bool) (k : History) (z : ℕ) → k.gone z ≡ false → (cond a k no_history).gone z ≡ true → ⊥
  open_none true k z p q = false≢true (sym p ∙ q)
  open_none false k z p q = false≢true q

  withdrew_zero : (s : State) (v : Event) (z : ℕ) → withdrew e s v z ≡ true → get_or (event_leaves e s v).register z 0 ≡ 0
  unfolding withdrew event_leaves operate call_result after_write after_open after_walk_call noted
  withdrew_zero s (returned k (call (issue y))) z p = absurd (false≢true p)
  withdrew_zero s (returned k (call (withdraw y))) z p = gone_zero s.register y z p
  withdrew_zero s (returned k (call (opening y t))) z p = absurd (open_none (accepted (e.opening (k.sheet y) s.register s.walk (rows_lent t s.rows)).said) _ z refl p)
  withdrew_zero s (returned k (call (back y t c))) z p = absurd (false≢true p)
  withdrew_zero s (returned k (call (value y t i j))) z p = absurd (false≢true p)
  withdrew_zero s (returned k (ratio y t i j)) z p = absurd (false≢true p)
  withdrew_zero s (returned k (forward y q i)) z p = absurd (false≢true p)
  withdrew_zero s (cut_in o b w m) z p = absurd (false≢true p)

  -- ---- every list of events

  all_size : (l : List Event) (s : State) → length (state_after_events e s l).register ≡ length s.register
  unfolding state_after_events
  all_size [] s = refl
  all_size (v ∷ l) s = all_size l (event_leaves e s v) ∙ leaves_size s v

  all_zero : (l : List Event) (s : State) (z : ℕ) → get_or s.register z 0 ≡ 0 → get_or (state_after_events e s l).register z 0 ≡ 0
  unfolding state_after_events
  all_zero [] s z p = p
  all_zero (v ∷ l) s z p = all_zero l (event_leaves e s v) z (leaves_zero s v z p)

  all_gone : (l : List Event) (s : State) (z : ℕ) → ever_withdrew e s l z ≡ true → get_or (state_after_events e s l).register z 0 ≡ 0
  unfolding state_after_events ever_withdrew
  all_gone [] s z p = absurd (false≢true p)
  all_gone (v ∷ l) s z p = go (all_gone l (event_leaves e s v) z) (or_cases (withdrew e s v z) (ever_withdrew e (event_leaves e s v) l z) p)
    where
      go : (ever_withdrew e (event_leaves e s v) l z ≡ true → get_or (state_after_events e (event_leaves e s v) l).register z 0 ≡ 0) →
          (withdrew e s v z ≡ true) ⊎ (ever_withdrew e (event_leaves e s v) l z ≡ true) → get_or (state_after_events e (event_leaves e s v) l).register z 0 ≡ 0
      go later (inl q) = all_zero l (event_leaves e s v) z (withdrew_zero s v z q)
      go later (inr q) = later q

  -- ---- a number that a register says withdrawn, by whatever byte

  after_cut_withdrawn : (g : List ℕ) (o : Operation) (b z : ℕ) → ¬ (Unissued g z ⊎ Live g z)
      → ¬ (Unissued (register_after_cut e g o b) z ⊎ Live (register_after_cut e g o b) z)
  unfolding register_after_cut
  after_cut_withdrawn g (call (issue y)) b z n =
      cut_withdrawn (accepted (e.issue g y).said) g y b (λ a. inl ((issue_taken g y _ (rules.issue g y)).0 a)) z n
  after_cut_withdrawn g (call (withdraw y)) b z n =
      cut_withdrawn (accepted (e.withdraw g y).said) g y b (λ a. inr ((withdraw_taken g y _ (rules.withdraw g y)).0 a)) z n
  after_cut_withdrawn g (call (opening y t)) b z n = n
  after_cut_withdrawn g (call (back y t c)) b z n = n
  after_cut_withdrawn g (call (value y t i j)) b z n = n
  after_cut_withdrawn g (ratio y t i j) b z n = n
  after_cut_withdrawn g (forward y q i) b z n = n

  leaves_withdrawn : (s : State) (v : Event) (z : ℕ) → ¬ (Unissued s.register z ⊎ Live s.register z)
      → ¬ (Unissued (event_leaves e s v).register z ⊎ Live (event_leaves e s v).register z)
  unfolding event_leaves
  leaves_withdrawn s (returned k o) z n =
      subst (λ g. ¬ (Unissued g z ⊎ Live g z)) (sym (operate_writes k.sheet s o)) (after_cut_withdrawn s.register o (byte_of o) z n)
  leaves_withdrawn s (cut_in o b w m) z n = after_cut_withdrawn s.register o b z n

  all_withdrawn : (l : List Event) (s : State) (z : ℕ) → ¬ (Unissued s.register z ⊎ Live s.register z)
      → ¬ (Unissued (state_after_events e s l).register z ⊎ Live (state_after_events e s l).register z)
  unfolding state_after_events
  all_withdrawn [] s z n = n
  all_withdrawn (v ∷ l) s z n = all_withdrawn l (event_leaves e s v) z (leaves_withdrawn s v z n)

  -- ---- refused for ever

  shut_write : (m : RefusalOrder) (g : List ℕ) (y v : ℕ) (o : RegisterResult) → EarlyRefusal m o.said → ByteWrite g y v o → ShutWrite m g o
  shut_write m g y v o a r = (a, r.leaves a.refused)

  shut_move : (m : RefusalOrder) (w : Walk) (l : Rows) (o : WalkResult) → EarlyRefusal m o.said → RefusalEffect w l o → ShutWalk m w l o
  shut_move m w l o a k = let r = k a.refused in (a, r.0, r.1)

  shut : (g : List ℕ) (y : ℕ) → ¬ (Unissued g y ⊎ Live g y) → Shut e g y
  shut g y n =
      record {
        issue = let r = rules.issue g y in shut_write _ g y 0xA5 (e.issue g y) (issue_early g y n _ r.judged) r.writes;
        withdraw = let r = rules.withdraw g y in shut_write _ g y 0x00 (e.withdraw g y) (withdraw_early g y n _ r.judged) r.writes;
        opening = λ x w l b. let r = rules.opening x g w l in shut_move _ w l (e.opening x g w l) (ten_early x g (gone x b) _ _ _ refl r.judged) r.leaves;
        back = λ x w l c b. let r = rules.back x g w l c in shut_move _ w l (e.back x g w l c) (ten_early x g (gone x b) _ _ _ refl r.judged) r.leaves;
        value = λ x w l j k b. let r = rules.value x g w l j k in shut_move _ w l (e.value x g w l j k) (ten_early x g (gone x b) _ _ _ refl r.judged) r.leaves;
        ratio = λ x w l j k b. let r = rules.ratio x g w l j k in shut_move _ w l (e.ratio x g w l j k) (ten_early x g (gone x b) _ _ _ refl r.judged) r.leaves;
        forward = λ x q i b. let r = rules.forward x g q i in let a = ten_early x g (gone x b) _ _ _ refl r.judged in (a, r.leaves a.refused);
      }
    where
      gone : (x : Brought) → x.number ≡ y → ¬ (Unissued g x.number ⊎ Live g x.number)
      gone x b = subst (λ i. ¬ (Unissued g i ⊎ Live g i)) (sym b) n

  pub power : (start : State) (l : List Event) → Forever e start l
  power start l =
      record {
        shut = λ y p. shut (state_after_events e start l).register y (zero_gone _ y (all_gone l start y p));
        stays = λ y n. shut (state_after_events e start l).register y (all_withdrawn l start y n);
        whole = all_size l start;
      }

-- ---- a write only clears bits

inside : (g : List ℕ) (y v : ℕ) → get_or g y 0 ≡ suc v → y < length g
inside g y v p = go (dec_lt y (length g))
  where
    go : Dec (y < length g) → y < length g
    go (yes m) = m
    go (no m) =
        let past : length g ≤ y = omega arith in
        absurd (omega (arith, sym (get_or-eq_default g 0 past) ∙ p))

new_byte : (r g : List ℕ) (y v w : ℕ) → r ≡ set g y v → get_or g y 0 ≡ suc w → get_or r y 0 ≡ v
new_byte r g y v w p q = ap (λ s. get_or s y 0) p ∙ get_or-set_same g y v 0 (inside g y w q)

never_all : (old new b : ℕ) → old ≡ 0xA5 → new ≡ 0x00 → may_be_left old new b ≡ true → b ≢ 0xFF
never_all old new b p q m f =
    false≢true (subst (λ z. may_be_left 0xA5 0x00 z ≡ true) f (subst (λ z. may_be_left 0xA5 z b ≡ true) q (subst (λ z. may_be_left z new b ≡ true) p m)))

-- Any call that writes `new` over a byte `old`.
write_clears : (g : List ℕ) (y old new : ℕ) (o : RegisterResult) → ByteWrite g y new o → (accepted o.said ≡ true → get_or g y 0 ≡ suc old)
    → may_be_left (suc old) new new ≡ true → WriteClears g y o
write_clears g y old new o r taken masks =
    record {
      byte = λ a. rw (new_byte o.register g y new old (r.does a).1 (taken a), taken a) masks;
      others = λ z n. ap (λ s. get_or s z 0) (written g y new o r) ∙ cut_others (accepted o.said) g y new z n;
      refused = r.leaves;
    }

pub clears : (e : Engine) → Rules e → (g : List ℕ) (y : ℕ) → Clears e g y
clears e rules g y =
    record {
      issue = write_clears g y 0xFE 0xA5 (e.issue g y) (rules.issue g y).writes (λ a. ((issue_taken g y _ (rules.issue g y)).0 a).byte) refl;
      withdraw = write_clears g y 0xA4 0x00 (e.withdraw g y) (rules.withdraw g y).writes live refl;
      withdraw_cut = λ a b l m. never_all _ _ b (live a) (new_byte _ g y 0x00 0xA4 ((rules.withdraw g y).writes.does a).1 (live a)) m;
    }
  where
    live : accepted (e.withdraw g y).said ≡ true → get_or g y 0 ≡ 0xA5
    live a = ((withdraw_taken g y _ (rules.withdraw g y)).0 a).byte
