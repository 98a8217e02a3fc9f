-- The line of three numbers is the one that is written, and it has room.
use Rattle.std.proofs.Common.{ℕ, suc, ◌+◌, ◌≤◌, ◌<◌, ◌≡◌, refl, sym, ap, ◌∙◌, subst, List, [], ◌∷◌, ◌++◌, append_assoc, arith, lit≤, ℤ, length}
use Rattle.std.proofs.Common.{length-append, get_or, drop}
use Rattle.lines.specs.Text.{signed, field}
use Rattle.lines.proofs.Laws.{length_signed}
use Rattle.amounts.specs.Printed.{IsPrinted}
use Rattle.amounts.proofs.Printed.{printed_signed, printed_alone, printed_bytes, printed_once}
use Rattle.amounts.specs.Amounts.{figure_of}
use Rattle.totals.specs.declared.Totals.{Totals}
use Rattle.totals.specs.Sums.{Figures}
use Rattle.totals.specs.Totals.{total, gains, losses, Taken}
use Rattle.totals.proofs.Bounds.{total_small, gains_small, losses_small}
use Rattle.book.specs.Lines.{IsLine, line_of, OneLine, OneReading, book_line}

-- One law over the texts of the three numbers.
abbrev joined : List ℕ → List ℕ → List ℕ → List ℕ
joined a b c = 98 ∷ 111 ∷ 111 ∷ 107 ∷ 32 ∷ 48 ∷ 32 ∷ (a ++ (32 ∷ (b ++ (32 ∷ (c ++ (10 ∷ []))))))

line_is : (x y z : ℤ) → line_of x y z ≡ joined (signed x) (signed y) (signed z)
unfolding line_of field
line_is x y z = refl

pub one_line : (x y z : ℤ) → OneLine x y z
one_line x y z =
    record {
      line =
          record {
            first_text = signed x;
            second_text = signed y;
            third_text = signed z;
            first_printed = printed_signed x;
            second_printed = printed_signed y;
            third_printed = printed_signed z;
            whole = line_is x y z;
          };
      alone = only;
    }
  where
    only : (other : List ℕ) → IsLine x y z other → other ≡ line_of x y z
    only other l =
        l.whole ∙ ap (λ t. joined t l.second_text l.third_text) (printed_alone x l.first_text l.first_printed)
        ∙ ap (λ t. joined (signed x) t l.third_text) (printed_alone y l.second_text l.second_printed)
        ∙ ap (joined (signed x) (signed y)) (printed_alone z l.third_text l.third_printed) ∙ sym (line_is x y z)

-- ---- a line is read in one way

-- Two texts before the same mark, which stands in neither.
apart : (mark : ℕ) (a b r t : List ℕ) → ((i : ℕ) → i < length a → mark < get_or a i 0) → ((i : ℕ) → i < length b → mark < get_or b i 0) →
    a ++ (mark ∷ r) ≡ b ++ (mark ∷ t) → (a ≡ b) × (r ≡ t)
apart mark [] [] r t h k e = (refl, ap (drop 1) e)
apart mark [] (y ∷ b) r t h k e = absurd (omega (arith, k 0 (omega arith), ap (λ (l : List ℕ). get_or l 0 0) e))
apart mark (x ∷ a) [] r t h k e = absurd (omega (arith, h 0 (omega arith), ap (λ (l : List ℕ). get_or l 0 0) e))
apart mark (x ∷ a) (y ∷ b) r t h k e =
    let (same, rest) = apart mark a b r t (λ i l. h (suc i) (omega (arith, l))) (λ i l. k (suc i) (omega (arith, l))) (ap (drop 1) e) in
    let first : x ≡ y = ap (λ (l : List ℕ). get_or l 0 0) e in
    (ap (λ (n : ℕ). n ∷ a) first ∙ ap (λ (l : List ℕ). y ∷ l) same, rest)

-- The same of two numbers in print, before a mark below the digits and the sign.
number_apart : (mark : ℕ) (y z : ℤ) (a b r t : List ℕ) → mark < 45 → IsPrinted y a → IsPrinted z b → a ++ (mark ∷ r) ≡ b ++ (mark ∷ t) →
    (y ≡ z) × (a ≡ b) × (r ≡ t)
number_apart mark y z a b r t m p q e =
    let (same, rest) =
    apart mark a b r t (λ i h. omega (arith, m, printed_bytes y a p i h)) (λ i h. omega (arith, m, printed_bytes z b q i h)) e in
    (printed_once y z b (subst (IsPrinted y) same p) q, same, rest)

-- A line and what stands behind it.
abbrev behind : List ℕ → List ℕ → List ℕ → List ℕ → List ℕ
behind a b c r = a ++ (32 ∷ (b ++ (32 ∷ (c ++ (10 ∷ r)))))

joined_behind : (a b c r : List ℕ) → drop 7 (joined a b c ++ r) ≡ behind a b c r
joined_behind a b c r =
    append_assoc a (32 ∷ (b ++ (32 ∷ (c ++ (10 ∷ []))))) r
    ∙ ap (λ (l : List ℕ). a ++ (32 ∷ l)) (append_assoc b (32 ∷ (c ++ (10 ∷ []))) r)
    ∙ ap (λ (l : List ℕ). a ++ (32 ∷ (b ++ (32 ∷ l)))) (append_assoc c (10 ∷ []) r)

pub one_reading : OneReading
one_reading x y z u v w text other r t l k e =
    let read = sym (joined_behind l.first_text l.second_text l.third_text r) ∙ ap (λ (s : List ℕ). drop 7 (s ++ r)) (sym l.whole)
    ∙ ap (drop 7) e ∙ ap (λ (s : List ℕ). drop 7 (s ++ t)) k.whole
    ∙ joined_behind k.first_text k.second_text k.third_text t in
    let (xu, ft, rest) =
    number_apart 32 x u l.first_text k.first_text _ _ (lit≤ tt) l.first_printed k.first_printed read in
    let (yv, st, last) =
    number_apart 32 y v l.second_text k.second_text _ _ (lit≤ tt) l.second_printed k.second_printed rest in
    let (zw, tt', end) =
    number_apart 10 z w l.third_text k.third_text _ _ (lit≤ tt) l.third_printed k.third_printed last in
    record {
      first_same = xu;
      second_same = yv;
      third_same = zw;
      text_same =
          l.whole ∙ ap (λ s. joined s l.second_text l.third_text) ft ∙ ap (λ s. joined k.first_text s l.third_text) st
          ∙ ap (joined k.first_text k.second_text) tt' ∙ sym k.whole;
    }

-- ---- how long it is

-- A figure of 27 digits takes 29 bytes with its space and its sign.
pub line_long : (x y z : ℤ) → length (line_of x y z) ≡ 7 + length (field x) + length (field y) + length (field z)
unfolding line_of
line_long x y z =
    simp (length-append) (omega arith)

pub line_fits : (ns ws : List ℤ) → Taken ns ws → length (book_line ns ws) ≤ 94
line_fits ns ws t =
    omega (
      arith,
      line_long (total ns ws) (gains ns ws) (losses ns ws),
      length_signed 27 (total ns ws) (lit≤ tt) (total_small ns ws t),
      length_signed 27 (gains ns ws) (lit≤ tt) (gains_small ns ws t),
      length_signed 27 (losses ns ws) (lit≤ tt) (losses_small ns ws t),
    )

-- The line of the figures that are those of a book is the book's.
pub same_line : (ns ws : List ℤ) (t : Totals) → Figures ns ws t →
    line_of (figure_of t.total) (figure_of t.gains) (figure_of t.losses) ≡ book_line ns ws
same_line ns ws t f =
    ap (λ x. line_of x (figure_of t.gains) (figure_of t.losses)) f.total_is.number
    ∙ ap (λ x. line_of (total ns ws) x (figure_of t.losses)) f.gains_is.number
    ∙ ap (line_of (total ns ws) (gains ns ws)) f.losses_is.number
