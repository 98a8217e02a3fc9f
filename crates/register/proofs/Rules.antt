-- Issue and withdraw, as specs/Register.antt computes them, keep document 01's rules, and nothing else does.
use Rattle.std.proofs.Common.{cond, ◌≡◌, refl, sym, ◌∙◌, ap, subst, ◌≢◌, List, ℕ, eq-eqb, ne_eqb, length, get_or, set}
use native.Mathlib.Decide.{ℕ_discrete}
use Rattle.std.specs.declared.result.Result.TheVariants.{Ok, Err}
use Rattle.register.specs.declared.answers.Status.{Status}
use Rattle.register.specs.declared.answers.WriteRefusal.{WriteRefusal}
use Rattle.register.specs.Register.{status_in, WriteAnswer, number_of, Write, issue, withdraw, by_status, byte_of, answer_of, is_accepted, leaves_of}
use Rattle.register.specs.Rules.{Unissued, Live, Withdrawn, IssueEffect, WithdrawEffect}

-- The register that a call leaves where it answers a.
abbrev pub left : Write → List ℕ → ℕ → WriteAnswer → List ℕ
left w register x a = cond (is_accepted a) (set register x (byte_of w)) register

-- What a call gives back where it answers a.
abbrev Gives : Write → List ℕ → ℕ → WriteAnswer → Type 0
Gives w register x a = (number_of (answer_of w register x) ≡ number_of a) × (leaves_of w register x ≡ left w register x a)

module _ (w : Write) (register : List ℕ) (x : ℕ) where
  pub of_length : length register ≢ 256 → answer_of w register x ≡ Err WriteRefusal.Length
  of_length h = simp (ne_eqb (length register) 256 h)

  pub of_status : length register ≡ 256 → {s : Status} → status_in register x ≡ s → answer_of w register x ≡ by_status w s
  of_status h e = rw (eq-eqb (length register) 256 h) (ap (by_status w) e)

  pub of_unissued : Unissued register x → answer_of w register x ≡ by_status w Status.Unissued
  of_unissued h = of_status h.size (rw h.byte)

  pub of_live : Live register x → answer_of w register x ≡ by_status w Status.Live
  of_live h = of_status h.size (rw h.byte)

  pub of_withdrawn : Withdrawn register x → answer_of w register x ≡ by_status w Status.Withdrawn
  of_withdrawn h = of_status h.size (simp (ne_eqb (get_or register x 0) 0xFF h.not_unissued, ne_eqb (get_or register x 0) 0xA5 h.not_live))

  gives : {a : WriteAnswer} → answer_of w register x ≡ a → Gives w register x a
  gives e = (ap number_of e, ap (left w register x) e)

-- The rule of each call.
abbrev pub Rule : Write → List ℕ → ℕ → ℕ → List ℕ → Type 0
Rule issue = IssueEffect
Rule withdraw = WithdrawEffect

pub rules : (w : Write) (register : List ℕ) (x : ℕ) → Rule w register x (number_of (answer_of w register x)) (leaves_of w register x)
rules issue register x =
    record {
      wrong_length = λ h. gives issue register x (of_length issue register x h);
      withdrawn = λ h. gives issue register x (of_withdrawn issue register x h);
      live = λ h. gives issue register x (of_live issue register x h);
      unissued = λ h. gives issue register x (of_unissued issue register x h);
    }
rules withdraw register x =
    record {
      wrong_length = λ h. gives withdraw register x (of_length withdraw register x h);
      withdrawn = λ h. gives withdraw register x (of_withdrawn withdraw register x h);
      unissued = λ h. gives withdraw register x (of_unissued withdraw register x h);
      live = λ h. gives withdraw register x (of_live withdraw register x h);
    }

-- ---- one law for issue and withdraw

-- What is said of an answer and of the register that is left with it.
abbrev pub Meets : Write → List ℕ → ℕ → WriteAnswer → List ℕ → Type 0
Meets w register x a l = (a ≡ answer_of w register x) × ((l ≡ leaves_of w register x) × Rule w register x (number_of a) l)

module _ (w : Write) (register : List ℕ) (x : ℕ) where
  pub meets : {a : WriteAnswer} {l : List ℕ} → a ≡ answer_of w register x → l ≡ left w register x a → Meets w register x a l
  meets {a} e k =
      let leaves = k ∙ ap (left w register x) e in
      let rule = subst (λ (b : WriteAnswer). Rule w register x (number_of b) (leaves_of w register x)) (sym e) (rules w register x) in
      (e, (leaves, subst (Rule w register x (number_of a)) (sym leaves) rule))

  -- An answer other than Ok leaves the register.
  pub kept : (a : WriteAnswer) → (a ≡ Ok tt → ⊥) → register ≡ left w register x a
  kept (Ok tt) t = absurd (t refl)
  kept (Err WriteRefusal.Length) t = refl
  kept (Err WriteRefusal.Withdrawn) t = refl
  kept (Err WriteRefusal.Unissued) t = refl
  kept (Err WriteRefusal.Live) t = refl

  -- Every answer but 2 tells the length.
  pub of_size : {a : WriteAnswer} → a ≡ answer_of w register x → number_of a ≢ 2 → length register ≡ 256
  of_size e n = go (ℕ_discrete (length register) 256)
    where
      go : Dec (length register ≡ 256) → length register ≡ 256
      go (yes h) = h
      go (no h) = absurd (n (ap number_of (e ∙ of_length w register x h)))

-- ---- nothing else keeps the rules

-- What a register says of a number is one of four things.
pub data Says (register : List ℕ) (x : ℕ) : Type 0 where
  wrong : length register ≢ 256 → Says register x
  withdrawn : Withdrawn register x → Says register x
  unissued : Unissued register x → Says register x
  live : Live register x → Says register x

pub says : (register : List ℕ) (x : ℕ) → Says register x
says register x = go (ℕ_discrete (length register) 256) (ℕ_discrete (get_or register x 0) 0xFF) (ℕ_discrete (get_or register x 0) 0xA5)
  where
    go : Dec (length register ≡ 256) → Dec (get_or register x 0 ≡ 0xFF) → Dec (get_or register x 0 ≡ 0xA5) → Says register x
    go (no h) d e = wrong h
    go (yes h) (yes d) e = unissued (record { size = h; byte = d })
    go (yes h) (no d) (yes e) = live (record { size = h; byte = e })
    go (yes h) (no d) (no e) = withdrawn (record { size = h; not_unissued = d; not_live = e })

agree : {n m a : ℕ} {l k b : List ℕ} → (n ≡ a) × (l ≡ b) → (m ≡ a) × (k ≡ b) → (n ≡ m) × (l ≡ k)
agree (p, q) (r, s) = (p ∙ sym r, q ∙ sym s)

-- Whatever keeps the rule of a call answers and leaves what specs/Register.antt computes.
pub only : (w : Write) (register : List ℕ) (x n : ℕ) (l : List ℕ) → Rule w register x n l → (n ≡ number_of (answer_of w register x)) × (l ≡ leaves_of w register x)
only w register x n l r = go w r (rules w register x) (says register x)
  where
    go : (w : Write) {m : ℕ} {k : List ℕ} → Rule w register x n l → Rule w register x m k → Says register x → (n ≡ m) × (l ≡ k)
    go issue r s (wrong h) = agree (r.wrong_length h) (s.wrong_length h)
    go issue r s (withdrawn h) = agree (r.withdrawn h) (s.withdrawn h)
    go issue r s (unissued h) = agree (r.unissued h) (s.unissued h)
    go issue r s (live h) = agree (r.live h) (s.live h)
    go withdraw r s (wrong h) = agree (r.wrong_length h) (s.wrong_length h)
    go withdraw r s (withdrawn h) = agree (r.withdrawn h) (s.withdrawn h)
    go withdraw r s (unissued h) = agree (r.unissued h) (s.unissued h)
    go withdraw r s (live h) = agree (r.live h) (s.live h)
