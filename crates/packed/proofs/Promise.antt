-- Our reading and writing keep the promise, and no others do.
use Rattle.std.proofs.Common.{Result, ℕ, suc, ◌≤◌, ◌<◌, ◌≡◌, refl, sym, ◌∙◌, ap, subst, ◌≢◌, ◌⊎◌, inl, inr, Bool, true, false, true≢false, List, arith, length, get_or}
use Rattle.std.specs.Prelude.{⊤}
use Rattle.std.proofs.lemmas.Bool.{cases_lt}
use native.Mathlib.Decide.{ℕ_discrete}
use Rattle.images.specs.Images.{packed_value, Digits, digits_bad, IsImage, image_of}
use Rattle.images.proofs.Digits.{good_digits, digits_good, bad_digits}
use Rattle.images.proofs.Images.{is_image, image_alone}
use Rattle.packed.specs.declared.ImageRefusal.{ImageRefusal}
use Rattle.packed.specs.Answers.{read_answer, write_answer, left_by}
use Rattle.packed.specs.Promise.{ReadResult, WriteResult, Codec, accepts, refuses, ReadRule, WriteRule, Keeps, read_by, written_by, ours}
use Rattle.packed.proofs.Answers.{read_length, read_digit, read_limit, read_value}
use Rattle.packed.proofs.Answers.{write_length, write_limit, write_value, written_within}

-- ---- the rules

-- What our calls give back, by the answer.
module _ (l : List ℕ) where
  gives : {a : Result ℕ ImageRefusal} → read_answer l ≡ a → ours.read l ≡ read_by a
  gives e = ap read_by e

  our_reading : ReadRule l (ours.read l)
  our_reading =
      record {
        wrong_length = λ h. gives (read_length l h);
        bad_digit = λ h d. gives (read_digit l h (bad_digits l h d));
        over_limit = λ h d o. gives (read_limit l h (digits_good l h d) o);
        accepted = λ h d o. gives (read_value l h (digits_good l h d) o);
      }

module _ (l : List ℕ) (v : ℕ) where
  leaves : {a : Result ⊤ ImageRefusal} → write_answer l v ≡ a → ours.write l v ≡ written_by a (left_by a l v)
  leaves e = ap (λ a. written_by a (left_by a l v)) e

  our_image : length l ≡ 4 → v ≤ 10_000_000 → ours.write l v ≡ record { number = 0; left = image_of v }
  our_image h o = leaves (write_value l v h o)

  our_writing : WriteRule l v (ours.write l v)
  our_writing =
      record {
        wrong_length = λ h. leaves (write_length l v h);
        over_limit = λ h o. leaves (write_limit l v h o);
        accepted = λ h o. (ap (λ r. r.number) (our_image h o), subst (λ r. IsImage v r.left) (sym (our_image h o)) (is_image v o));
      }

-- What gives back as ours keeps the rules.
pub read_rule : (l : List ℕ) (o : ReadResult) → o ≡ ours.read l → ReadRule l o
read_rule l o e = subst (ReadRule l) (sym e) (our_reading l)

pub write_rule : (l : List ℕ) (v : ℕ) (o : WriteResult) → o ≡ ours.write l v → WriteRule l v o
write_rule l v o e = subst (WriteRule l v) (sym e) (our_writing l v)

-- ---- nothing else keeps them

-- What four bytes or others are: one of four things.
pub data Says (l : List ℕ) : Type 0 where
  wrong : length l ≢ 4 → Says l
  bad : length l ≡ 4 → ¬ (Digits l) → Says l
  over : length l ≡ 4 → Digits l → 10_000_000 < packed_value l → Says l
  good : length l ≡ 4 → Digits l → packed_value l ≤ 10_000_000 → Says l

says : (l : List ℕ) → Says l
says l = go (ℕ_discrete (length l) 4) (digits_bad l) refl (cases_lt 10_000_000 (packed_value l))
  where
    go : Dec (length l ≡ 4) → (b : Bool) → digits_bad l ≡ b → (10_000_000 < packed_value l) ⊎ (packed_value l ≤ 10_000_000) → Says l
    go (no h) b e d = wrong h
    go (yes h) true e d = bad h (λ g. true≢false (sym e ∙ digits_good l h g))
    go (yes h) false e (inl o) = over h (good_digits l h e) o
    go (yes h) false e (inr o) = good h (good_digits l h e) o

read_once : (l : List ℕ) (a b : ReadResult) → ReadRule l a → ReadRule l b → a ≡ b
read_once l a b r s = go (says l)
  where
    go : Says l → a ≡ b
    go (wrong h) = r.wrong_length h ∙ sym (s.wrong_length h)
    go (bad h d) = r.bad_digit h d ∙ sym (s.bad_digit h d)
    go (over h d o) = r.over_limit h d o ∙ sym (s.over_limit h d o)
    go (good h d o) = r.accepted h d o ∙ sym (s.accepted h d o)

write_once : (l : List ℕ) (v : ℕ) (a b : WriteResult) → WriteRule l v a → WriteRule l v b → a ≡ b
write_once l v a b r s = go (ℕ_discrete (length l) 4) (cases_lt 10_000_000 v)
  where
    go : Dec (length l ≡ 4) → (10_000_000 < v) ⊎ (v ≤ 10_000_000) → a ≡ b
    go (no h) d = r.wrong_length h ∙ sym (s.wrong_length h)
    go (yes h) (inl o) = r.over_limit h o ∙ sym (s.over_limit h o)
    go (yes h) (inr o) =
        let number : a.number ≡ b.number = (r.accepted h o).0 ∙ sym (s.accepted h o).0 in
        let left : a.left ≡ b.left = image_alone v a.left (r.accepted h o).1 ∙ sym (image_alone v b.left (s.accepted h o).1) in
        λ i. record { number = number i; left = left i }

pub ours_alone : (c : Codec) → Keeps c → c ≡ ours
ours_alone c k =
    λ i.
    record {
      read = λ l. read_once l (c.read l) (ours.read l) (k.reading l) (our_reading l) i;
      write = λ l v. write_once l v (c.write l v) (ours.write l v) (k.writing l v) (our_writing l v) i;
    }

-- ---- each value has one image, and each accepted image gives its value back

-- What is accepted is of four bytes and digits, within the limit.
pub accepted_is : (l : List ℕ) (v : ℕ) → ours.read l ≡ accepts v → IsImage v l × (v ≤ 10_000_000)
accepted_is l v e = go (says l)
  where
    refused : {n : ℕ} → ours.read l ≡ refuses (suc n) → IsImage v l × (v ≤ 10_000_000)
    refused r = absurd (omega (arith, ap (λ o. o.number) r, ap (λ o. o.number) e))

    go : Says l → IsImage v l × (v ≤ 10_000_000)
    go (wrong h) = refused ((our_reading l).wrong_length h)
    go (bad h d) = refused ((our_reading l).bad_digit h d)
    go (over h d o) = refused ((our_reading l).over_limit h d o)
    go (good h d o) =
        let same : packed_value l ≡ v = ap (λ r. get_or r.values 0 0) (sym ((our_reading l).accepted h d o) ∙ e) in
        (record { size = h; digits = d; value = same }, omega (arith, o, same))

read_image : (v : ℕ) → v ≤ 10_000_000 → ours.read (image_of v) ≡ accepts v
read_image v o =
    let i = is_image v o in
    (our_reading (image_of v)).accepted i.size i.digits (omega (arith, o, i.value)) ∙ ap accepts i.value

written_image : (l : List ℕ) (v : ℕ) → (ours.write l v).number ≡ 0 → (v ≤ 10_000_000) × ((ours.write l v).left ≡ image_of v)
written_image l v e = let (h, o) = written_within l v e in (o, ap (λ r. r.left) (our_image l v h o))

pub ours_keeps : Keeps ours
ours_keeps =
    record {
      reading = our_reading;
      writing = our_writing;
      has_image = λ l v h o. ap (λ r. r.number) (our_image l v h o);
      one_image = λ l k v e f. image_alone v l (accepted_is l v e).0 ∙ sym (image_alone v k (accepted_is k v f).0);
      written_reads = λ l v e. let (o, i) = written_image l v e in ap ours.read i ∙ read_image v o;
      never_shared = shared;
      read_writes = λ l k v e h. let (i, o) = accepted_is l v e in
          our_image k v h o ∙ ap (λ b. record { number = 0; left = b }) (sym (image_alone v l i));
    }
  where
    shared : (l k : List ℕ) (a b : ℕ) → (ours.write l a).number ≡ 0 → (ours.write k b).number ≡ 0 →
        (ours.write l a).left ≡ (ours.write k b).left → a ≡ b
    shared l k a b p q e =
        let (o, i) = written_image l a p in
        let (u, j) = written_image k b q in
        sym (is_image a o).value ∙ ap packed_value (sym i ∙ e ∙ j) ∙ (is_image b u).value
