-- The rules admit one engine: what keeps the rule of a call gives back what ours does.
use Rattle.std.proofs.Common.{ℕ, ◌+◌, ◌≤◌, ◌≡◌, refl, sym, ◌∙◌, true, false, List, inl, inr, arith, length, ext_get_or}
use Rattle.sheet.specs.Terms.{Terms}
use Rattle.sheet.specs.Brought.{Brought}
use Rattle.walk.specs.declared.Walk.{Walk}
use Rattle.rows.specs.Rows.{Rows}
use Rattle.walk.specs.Answers.{accepted}
use Rattle.walk.specs.RefusalOrders.{RefusalOrder, Judges, issue_order, withdraw_order, open_order, back_order, value_order, ratio_order, forward_order}
use Rattle.walk.specs.CallRules.{RegisterResult, WalkResult, ForwardResult, AcceptedOpen, AcceptedBack, AcceptedValue, AcceptedRatio, AcceptedForward, RefusalEffect, ByteWrite, IssueRule, WithdrawRule, OpenRule, BackRule, ValueRule, RatioRule, ForwardRule}
use Rattle.walk.specs.Engine.{Engine}
use Rattle.walk.specs.OurEngine.{ours}
use Rattle.walk.specs.Promise.{Rules}
use Rattle.walk.proofs.Judging.{numbered, Alike, judged_once}
use Rattle.walk.proofs.Walking.{row_once, rows_same, back_steps_once}
use Rattle.walk.proofs.OurRules.{ours_rules}

register_same : (a b : RegisterResult) → a.said ≡ b.said → a.register ≡ b.register → a ≡ b
register_same a b p q = λ i. record { said = p i; register = q i }

walk_same : (a b : WalkResult) → a.said ≡ b.said → a.walk ≡ b.walk → a.rows ≡ b.rows → a ≡ b
walk_same a b p q r = λ i. record { said = p i; walk = q i; rows = r i }

forward_same : (a b : ForwardResult) → a.said ≡ b.said → a.row ≡ b.row → a ≡ b
forward_same a b p q = λ i. record { said = p i; row = q i }

-- ---- refused or accepted alike

module _ (m : RefusalOrder) (n : numbered m ≡ true) where
  write_judged_once : (g : List ℕ) (y byte : ℕ) (a b : RegisterResult) → Judges m a.said → Judges m b.said → ByteWrite g y byte a → ByteWrite g y byte b → a ≡ b
  write_judged_once g y byte a b p q s t = go (judged_once m a.said b.said n p q)
    where
      go : Alike a.said b.said → a ≡ b
      go (inl (e, f, h)) = register_same a b e (s.leaves f ∙ sym (t.leaves h))
      go (inr (f, h)) = register_same a b ((s.does f).0 ∙ sym (t.does h).0) ((s.does f).1 ∙ sym (t.does h).1)

  walk_judged_once : (w : Walk) (l : Rows) (a b : WalkResult) → Judges m a.said → Judges m b.said → RefusalEffect w l a → RefusalEffect w l b
      → (accepted a.said ≡ true → accepted b.said ≡ true → a ≡ b) → a ≡ b
  walk_judged_once w l a b p q s t done = go (judged_once m a.said b.said n p q)
    where
      go : Alike a.said b.said → a ≡ b
      go (inl (e, f, h)) = walk_same a b e ((s f).0 ∙ sym (t h).0) ((s f).1 ∙ sym (t h).1)
      go (inr (f, h)) = done f h

  forward_judged_once : (r : List ℕ) (a b : ForwardResult) → Judges m a.said → Judges m b.said
      → (accepted a.said ≡ false → a.row ≡ r) → (accepted b.said ≡ false → b.row ≡ r)
      → (accepted a.said ≡ true → accepted b.said ≡ true → a ≡ b) → a ≡ b
  forward_judged_once r a b p q s t done = go (judged_once m a.said b.said n p q)
    where
      go : Alike a.said b.said → a ≡ b
      go (inl (e, f, h)) = forward_same a b e (s f ∙ sym (t h))
      go (inr (f, h)) = done f h

-- ---- accepted

accepted_open_once : (x : Brought) (a b : WalkResult) → AcceptedOpen x a → AcceptedOpen x b → a ≡ b
accepted_open_once x a b p q =
    walk_same a b (p.said ∙ sym q.said) (p.walk ∙ sym q.walk)
    (rows_same a.rows b.rows
    (row_once x.sheet a.rows.defaults b.rows.defaults p.size.defaults q.size.defaults (λ j k m n. p.default j k m n ∙ sym (q.default j k m n)))
    (row_once x.sheet a.rows.premiums b.rows.premiums p.size.premiums q.size.premiums (λ j k m n. p.premium j k m n ∙ sym (q.premium j k m n))))

accepted_back_once : (x : Brought) (w : Walk) (l : Rows) (c : ℕ) (a b : WalkResult) → AcceptedBack x w l c a → AcceptedBack x w l c b → a ≡ b
accepted_back_once x w l c a b p q =
    walk_same a b (p.said ∙ sym q.said) (p.walk ∙ sym q.walk)
    (back_steps_once x.sheet c w.position l a.rows b.rows p.rows q.rows)

accepted_value_once : (x : Brought) (w : Walk) (l : Rows) (j k : ℕ) (a b : WalkResult) → AcceptedValue x w l j k a → AcceptedValue x w l j k b → a ≡ b
accepted_value_once x w l j k a b p q = walk_same a b (p.said ∙ sym q.said) (p.walk ∙ sym q.walk) (p.rows ∙ sym q.rows)

accepted_ratio_once : (x : Brought) (w : Walk) (l : Rows) (j k : ℕ) (a b : WalkResult) → AcceptedRatio x w l j k a → AcceptedRatio x w l j k b → a ≡ b
accepted_ratio_once x w l j k a b p q = walk_same a b (p.said ∙ sym q.said) (p.walk ∙ sym q.walk) (p.rows ∙ sym q.rows)

accepted_forward_once : (x : Terms) (i : ℕ) (a b : ForwardResult) → AcceptedForward x i a → AcceptedForward x i b → a ≡ b
accepted_forward_once x i a b p q =
    forward_same a b (p.said ∙ sym q.said)
    (ext_get_or 0 a.row b.row (p.size ∙ sym q.size)
    (λ k h. let z : length a.row ≡ x.names + 1 = p.size in let m : k ≤ x.names = omega arith in p.row k m ∙ sym (q.row k m)))

-- ---- the calls: two outcomes that keep the same rule are equal

pub issue_once : (g : List ℕ) (y : ℕ) (a b : RegisterResult) → IssueRule g y a → IssueRule g y b → a ≡ b
issue_once g y a b p q = write_judged_once (issue_order g y) refl g y 0xA5 a b p.judged q.judged p.writes q.writes

pub withdraw_once : (g : List ℕ) (y : ℕ) (a b : RegisterResult) → WithdrawRule g y a → WithdrawRule g y b → a ≡ b
withdraw_once g y a b p q = write_judged_once (withdraw_order g y) refl g y 0x00 a b p.judged q.judged p.writes q.writes

pub open_once : (x : Brought) (g : List ℕ) (w : Walk) (l : Rows) (a b : WalkResult) → OpenRule x g w l a → OpenRule x g w l b → a ≡ b
open_once x g w l a b p q =
    walk_judged_once (open_order x g l) refl w l a b p.judged q.judged p.leaves q.leaves (λ y z. accepted_open_once x a b (p.does y) (q.does z))

pub back_once_lem : (x : Brought) (g : List ℕ) (w : Walk) (l : Rows) (c : ℕ) (a b : WalkResult) → BackRule x g w l c a → BackRule x g w l c b → a ≡ b
back_once_lem x g w l c a b p q =
    walk_judged_once (back_order x g w l c) refl w l a b p.judged q.judged p.leaves q.leaves (λ y z. accepted_back_once x w l c a b (p.does y) (q.does z))

pub value_once : (x : Brought) (g : List ℕ) (w : Walk) (l : Rows) (j k : ℕ) (a b : WalkResult) → ValueRule x g w l j k a → ValueRule x g w l j k b → a ≡ b
value_once x g w l j k a b p q =
    walk_judged_once (value_order x g w l j k) refl w l a b p.judged q.judged p.leaves q.leaves (λ y z. accepted_value_once x w l j k a b (p.does y) (q.does z))

pub ratio_once : (x : Brought) (g : List ℕ) (w : Walk) (l : Rows) (j k : ℕ) (a b : WalkResult) → RatioRule x g w l j k a → RatioRule x g w l j k b → a ≡ b
ratio_once x g w l j k a b p q =
    walk_judged_once (ratio_order x g w l j k) refl w l a b p.judged q.judged p.leaves q.leaves (λ y z. accepted_ratio_once x w l j k a b (p.does y) (q.does z))

pub forward_once : (x : Brought) (g r : List ℕ) (i : ℕ) (a b : ForwardResult) → ForwardRule x g r i a → ForwardRule x g r i b → a ≡ b
forward_once x g r i a b p q =
    forward_judged_once (forward_order x g r i) refl r a b p.judged q.judged p.leaves q.leaves (λ y z. accepted_forward_once x.sheet i a b (p.does y) (q.does z))

-- ---- engines

pub alone : (e f : Engine) → Rules e → Rules f → e ≡ f
alone e f p q =
    λ t. record {
      issue = λ g y. issue_once g y (e.issue g y) (f.issue g y) (p.issue g y) (q.issue g y) t;
      withdraw = λ g y. withdraw_once g y (e.withdraw g y) (f.withdraw g y) (p.withdraw g y) (q.withdraw g y) t;
      opening = λ x g w l. open_once x g w l (e.opening x g w l) (f.opening x g w l) (p.opening x g w l) (q.opening x g w l) t;
      back = λ x g w l c. back_once_lem x g w l c (e.back x g w l c) (f.back x g w l c) (p.back x g w l c) (q.back x g w l c) t;
      value = λ x g w l j k. value_once x g w l j k (e.value x g w l j k) (f.value x g w l j k) (p.value x g w l j k) (q.value x g w l j k) t;
      ratio = λ x g w l j k. ratio_once x g w l j k (e.ratio x g w l j k) (f.ratio x g w l j k) (p.ratio x g w l j k) (q.ratio x g w l j k) t;
      forward = λ x g r i. forward_once x g r i (e.forward x g r i) (f.forward x g r i) (p.forward x g r i) (q.forward x g r i) t;
    }

-- An engine that keeps the rules is ours.
pub only_one : (e : Engine) → Rules e → e ≡ ours
only_one e p = alone e ours p ours_rules
