-- What was written, with how long it can be.
use Rattle.std.proofs.Common.{ℕ, ◌+◌, ◌^◌, ◌≤◌, ◌<◌, ◌≡◌, sym, ap, ◌∙◌, List, [], ◌++◌, append-nil, arith, lit≤, lit<, ℤ, pos, length, w64, SFits}
use lib.Signed.{nat_abs-le}
use Rattle.lines.specs.Text.{decimal, field, Wrote}
use Rattle.lines.proofs.Laws.{wrote_text, wrote_both, wrote_long, length_decimal, length_field_pos, length_field}
use Rattle.hedges.proofs.Negated.{read, read_is}
use Rattle.commands.specs.declared.Order.{Order}
use Rattle.commands.specs.declared.Order.TheVariants.{Issue, Withdraw, Open, Back, Value, Delta, Forward}
use Rattle.std.specs.Prelude.{Result, Ok, Err}
use Rattle.answers.specs.declared.OrderRefusal.{OrderRefusal}
use Rattle.answers.specs.declared.Told.{Told}
use Rattle.answers.specs.declared.Told.TheVariants.{Done, Position, Worth, Ratio, Probability}
use Rattle.answers.specs.OrderAnswers.{told_values, answer_said}
use Rattle.render.specs.Lines.{width}
use Rattle.words.specs.Words.{word}

-- text of at most so many bytes was written
pub record Put (before : List ℕ) (at : ℕ) (text after : List ℕ) (end most : ℕ) : Type 0 where
  pub wrote : Wrote before at text after end
  pub long : length after ≡ length before
  pub short : end ≤ at + most

pub put : {before text after : List ℕ} {at end : ℕ} (most : ℕ) → Wrote before at text after end → length text ≤ most → Put before at text after end most
put most w h = record { wrote = w; long = wrote_long w; short = omega (arith, w.stop) }

-- where the end is known, and not the length
pub put_short : {before text after : List ℕ} {at end most : ℕ} → Wrote before at text after end → end ≤ at + most →
    Put before at text after end most
put_short w h = record { wrote = w; long = wrote_long w; short = h }

pub wider : {before text after : List ℕ} {at end k j : ℕ} → k ≤ j → Put before at text after end k →
    Put before at text after end j
wider h p = record { wrote = p.wrote; long = p.long; short = omega (arith, p.short, h) }

pub both : {before a mid b after : List ℕ} {at m end k j : ℕ} → Put before at a mid m k → Put mid m b after end j → Put before at (a ++ b) after end (k + j)
both p q = record { wrote = wrote_both p.wrote q.wrote; long = q.long ∙ p.long; short = omega (arith, p.short, q.short) }

pub last : {before text after : List ℕ} {at end k : ℕ} → Put before at text after end k → Put before at (text ++ []) after end k
last {text = text} p = record { wrote = wrote_text (sym (append-nil text)) p.wrote; long = p.long; short = p.short }

-- a byte and a zero in decimal, and fields of 64 bits
pub byte_long : (n : ℕ) → n < 2 ^ 8 → length (decimal n) ≤ 3
byte_long n h = length_decimal 3 n (lit≤ tt) (omega arith)

pub zero_long : length (decimal 0) ≤ 1
zero_long = length_decimal 1 0 (lit≤ tt) (lit< tt)

-- there is room for an unsigned one
pub count_fits : (n b long : ℕ) → n < 2 ^ 64 → b + 21 ≤ long → b + length (field (pos n)) ≤ long
count_fits n b long h room = omega (arith, length_field_pos n h)

pub signed_long : (z : ℤ) → SFits w64 z → length (field (read z)) ≤ 21
signed_long z f = rw (read_is z f) (length_field z (nat_abs-le z f.sfits))

pub put_byte : {before after : List ℕ} {at end : ℕ} (n : ℕ) → n < 2 ^ 8 → Wrote before at (decimal n) after end → Put before at (decimal n) after end 3
put_byte n h w = put 3 w (byte_long n h)

pub put_zero : {before after : List ℕ} {at end : ℕ} → Wrote before at (decimal 0) after end → Put before at (decimal 0) after end 1
put_zero w = put 1 w zero_long

pub put_wide : {before after : List ℕ} {at end : ℕ} (n : ℕ) → n < 2 ^ 64 → Wrote before at (field (pos n)) after end → Put before at
    (field (pos n)) after end 21
put_wide n h w = put 21 w (length_field_pos n h)

-- a signed one, which the machine reads from its bits
pub put_sign : {before after : List ℕ} {at end : ℕ} (z : ℤ) → SFits w64 z → Wrote before at (field (read z)) after end → Put before at (field z) after end 21
put_sign z f w = put 21 (wrote_text (ap field (read_is z f)) w) (length_field z (nat_abs-le z f.sfits))

pub word_long : (o : Order) → length (word o) ≤ 9
unfolding word
word_long (Issue y) = lit≤ tt
word_long (Withdraw y) = lit≤ tt
word_long Open = lit≤ tt
word_long (Back c) = lit≤ tt
word_long (Value j k) = lit≤ tt
word_long (Delta j k) = lit≤ tt
word_long (Forward i k) = lit≤ tt

-- an answer has three values at most
pub values_most : (told : Told) → length (told_values told) ≤ 3
values_most Done = lit≤ tt
values_most (Position i) = lit≤ tt
values_most (Worth w) = lit≤ tt
values_most (Ratio z) = lit≤ tt
values_most (Probability q) = lit≤ tt

pub width_most : (a : Result Told OrderRefusal) → width (answer_said a) ≤ 66
width_most (Ok told) = omega (arith, values_most told)
width_most (Err refusal) = lit≤ tt
