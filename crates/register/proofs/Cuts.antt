-- What a cut write may leave: the bytes, what they say, and every other byte as it was.
use Rattle.std.proofs.Common.{◌≡◌, refl, sym, ◌∙◌, ap, subst, ◌≢◌, Bool, true, false, not, ◌&&◌, cond, List, ℕ, zero, suc, ◌<◌, not-suc-le-zero}
use Rattle.std.proofs.Common.{arith, eqb-true, T, eqb, lit<, length, get_or, length-set, get_or-set_same, get_or-set_other}
use mathlib.Core.Bool.{false≢true}
use native.Mathlib.Decide.{ℕ_discrete, dec_lt}
use lib.ListN.{get_or-eq_default}
use Rattle.register.specs.declared.answers.Status.{Status}
use Rattle.register.specs.Register.{status_of, WriteAnswer, Write, issue, withdraw, byte_of, answer_of, is_accepted}
use Rattle.register.specs.Cut.{may_be_left, cut_bytes, is_one_of, CutsFind}
use Rattle.register.specs.Events.{CanCut, CutLeaves, CutBounds}
use Rattle.register.proofs.Rules.{of_length, of_withdrawn, of_unissued, of_live, Says, wrong, withdrawn, unissued, live, says}

-- ---- one test, computed at each byte
abbrev equal : Bool → Bool → Bool
equal true b = b
equal false b = not b

equal_eq : (t u : Bool) → T (equal t u) → t ≡ u
equal_eq true true h = refl
equal_eq true false h = absurd h
equal_eq false true h = absurd h
equal_eq false false h = refl

abbrev all_below : (ℕ → Bool) → ℕ → Bool
all_below p zero = true
all_below p (suc n) = p n && all_below p n

both : (t u : Bool) → T (t && u) → T t × T u
both true u h = (tt, h)
both false u h = absurd h

below : (p : ℕ → Bool) (n : ℕ) → T (all_below p n) → (k : ℕ) → k < n → T (p k)
below p zero h k l = absurd (not-suc-le-zero l)
below p (suc n) h k l = let b = both (p n) (all_below p n) h in go b.0 (λ m. below p n b.1 k m) (ℕ_discrete k n)
  where
    go : T (p n) → (k < n → T (p k)) → Dec (k ≡ n) → T (p k)
    go here later (yes e) = rw e here
    go here later (no e) = later (omega (arith, e))

pub cuts_find : CutsFind
unfolding cut_bytes
cuts_find =
    record {
      issue_bytes = λ f h. equal_eq _ _ (below (λ f. equal (may_be_left 0xFF 0xA5 f) (is_one_of f (cut_bytes issue))) 256 tt f h);
      issue_says = refl;
      withdraw_bytes = λ f h. equal_eq _ _ (below (λ f. equal (may_be_left 0xA5 0x00 f) (is_one_of f (cut_bytes withdraw))) 256 tt f h);
      withdraw_says = refl;
    }

-- ---- in a register

-- The byte that each call writes over.
abbrev over : Write → ℕ
over issue = 0xFF
over withdraw = 0xA5

-- A call is accepted only over that byte.
pub accepts : (w : Write) (register : List ℕ) (x : ℕ) → is_accepted (answer_of w register x) ≡ true → (length register ≡ 256) × (get_or register x 0 ≡ over w)
accepts w register x t = go w t (says register x)
  where
    refuses : (w : Write) {a : WriteAnswer} → is_accepted (answer_of w register x) ≡ true → answer_of w register x ≡ a → is_accepted a ≡ false → ⊥
    refuses w t e f = false≢true (sym f ∙ sym (ap is_accepted e) ∙ t)

    go : (w : Write) → is_accepted (answer_of w register x) ≡ true → Says register x → (length register ≡ 256) × (get_or register x 0 ≡ over w)
    go w t (wrong h) = absurd (refuses w t (of_length w register x h) refl)
    go issue t (withdrawn h) = absurd (refuses issue t (of_withdrawn issue register x h) refl)
    go issue t (unissued h) = (h.size, h.byte)
    go issue t (live h) = absurd (refuses issue t (of_live issue register x h) refl)
    go withdraw t (withdrawn h) = absurd (refuses withdraw t (of_withdrawn withdraw register x h) refl)
    go withdraw t (unissued h) = absurd (refuses withdraw t (of_unissued withdraw register x h) refl)
    go withdraw t (live h) = (h.size, h.byte)

-- A byte that is not 00 stands in the register.
inside : (register : List ℕ) (x : ℕ) → get_or register x 0 ≢ 0 → x < length register
inside register x h = go (dec_lt x (length register))
  where
    go : Dec (x < length register) → x < length register
    go (yes l) = l
    go (no l) = absurd (h (get_or-eq_default register 0 {n = x} (omega (arith, l))))

over_not_00 : (w : Write) → over w ≢ 0
over_not_00 issue e = omega arith
over_not_00 withdraw e = omega arith

bytes_of : (w : Write) (found : ℕ) → found < 256 → may_be_left (over w) (byte_of w) found ≡ is_one_of found (cut_bytes w)
bytes_of issue = cuts_find.issue_bytes
bytes_of withdraw = cuts_find.withdraw_bytes

-- FF alone says unissued.
unissued_byte : (b : ℕ) → status_of b ≡ Status.Unissued → b ≡ 0xFF
unissued_byte b s = go (eqb b 0xFF) (eqb b 0xA5) refl s
  where
    go : (t u : Bool) → eqb b 0xFF ≡ t → cond t Status.Unissued (cond u Status.Live Status.Withdrawn) ≡ Status.Unissued → b ≡ 0xFF
    go true u e s = eqb-true b 0xFF e
    go false true e s = let z : ◌≡◌ {A = ℕ} 0 1 = cc in absurd (omega arith)
    go false false e s = let z : ◌≡◌ {A = ℕ} 0 1 = cc in absurd (omega arith)

pub cut_leaves : (register : List ℕ) (w : Write) (x found : ℕ) → CanCut register w x found → CutLeaves register w x found
cut_leaves register w x found c =
    let a = accepts w register x c.accepted in
    let m : may_be_left (over w) (byte_of w) found ≡ true = subst (λ (b : ℕ). may_be_left b (byte_of w) found ≡ true) a.1 c.left in
    let here = get_or-set_same register x found 0 (inside register x (λ z. over_not_00 w (sym a.1 ∙ z))) in
    record {
      size = length-set register x found ∙ a.0;
      byte = here;
      others = λ y h. get_or-set_other register x y found 0 h;
      one_of = sym (bytes_of w found c.byte) ∙ m;
      never_unissued = λ e s. never (subst (λ (w : Write). may_be_left (over w) (byte_of w) found ≡ true) e m) (unissued_byte found (sym (ap status_of here) ∙ s));
    }
  where
    never : may_be_left 0xA5 0x00 found ≡ true → found ≢ 0xFF
    never m e = false≢true (rw e at m)

only_clears : (w : Write) → (over w < 256) × (byte_of w < 256) × (may_be_left (over w) (byte_of w) (over w) ≡ true) × (may_be_left (over w) (byte_of w) (byte_of w) ≡ true)
only_clears issue = (lit< tt, lit< tt, refl, refl)
only_clears withdraw = (lit< tt, lit< tt, refl, refl)

pub clears : (register : List ℕ) (w : Write) (x : ℕ) → is_accepted (answer_of w register x) ≡ true → CutBounds register w x
clears register w x t =
    let (old, new, begins, ends) = only_clears w in
    let e = sym (accepts w register x t).1 in
    record {
      begins = record { accepted = t; byte = subst (λ (b : ℕ). b < 256) e old; left = subst (λ (b : ℕ). may_be_left b (byte_of w) b ≡ true) e begins };
      ends = record { accepted = t; byte = new; left = subst (λ (b : ℕ). may_be_left b (byte_of w) (byte_of w) ≡ true) e ends };
    }
