-- A span within the numbers, and one that reaches past them.
use native.Mathlib.Decide.{dec_le}
use borrow.Author.Tests.{lt-leb}
use Rattle.std.proofs.Common.{ℕ, ◌+◌, ◌-◌, ◌*◌, ◌≤◌, ◌<◌, ◌≡◌, refl, ◌∙◌, ap, sym, Bool, true, false, cond, List, [], arith, mul-le-mul_right, le-leb}
use Rattle.std.proofs.Common.{leb, length, take, drop, length-drop, length-take-le, Option, Some, None, Bor, inl, inr}
use Rattle.std.specs.Option.{unwrap_or}
use Rattle.std.specs.Slice.{IsGetRangeResult}
use Rattle.sheet.proofs.Parts.{part_whole}
use Rattle.sheet.specs.declared.Span.{Span}
use Rattle.sheet.specs.declared.Sheet as Declared
use Rattle.sheet.specs.Limits.{PoolInside, ListsFit}
use Rattle.sheet.specs.Spans.{list_in, brought_in, terms_in, Within, SpansWithin, SpansJudged}

pub list_within : (s : Span) (numbers : List ℕ) → Within s numbers → list_in s numbers ≡ take s.length (drop s.at numbers)
unfolding list_in
list_within s numbers h = rw (le-leb (s.at + s.length) (length numbers) h) refl

pub list_past : (s : Span) (numbers : List ℕ) → length numbers < s.at + s.length → list_in s numbers ≡ []
unfolding list_in
list_past s numbers h = rw (lt-leb (s.at + s.length) (length numbers) h) refl

pub list_long : (s : Span) (numbers : List ℕ) → Within s numbers → length (list_in s numbers) ≡ s.length
list_long s numbers h =
    ap length (list_within s numbers h) ∙ length-take-le s.length (drop s.at numbers) (omega (arith, length-drop s.at numbers))

-- one of no numbers is empty, wherever it stands
pub list_none : (at : ℕ) (numbers : List ℕ) → list_in (record { at = at; length = 0 }) numbers ≡ []
unfolding list_in
list_none at numbers = go (leb (at + 0) (length numbers))
  where
    go : (b : Bool) → cond b (take 0 (drop at numbers)) [] ≡ []
    go true = refl
    go false = refl

-- what has a number is within
some_within : (s : Span) (numbers : List ℕ) → 1 ≤ length (list_in s numbers) → Within s numbers
some_within s numbers h = go (dec_le (s.at + s.length) (length numbers))
  where
    go : Dec (s.at + s.length ≤ length numbers) → Within s numbers
    go (yes p) = p
    go (no p) = absurd (let none : length (list_in s numbers) ≡ 0 = ap length (list_past s numbers (omega arith)) in omega arith)

judged : (x : Declared.Sheet) (numbers : List ℕ) → PoolInside (terms_in x numbers) → ListsFit (brought_in x numbers) → SpansWithin x numbers
judged x numbers p f =
    record {
      attachments = some_within x.attachments numbers (omega (arith, f.0));
      starts = some_within x.starts numbers f.1.starts.0;
      hazards = some_within x.hazards numbers (omega (arith, f.1.hazards, some_hazards));
      discounts = some_within x.discounts numbers (omega (arith, f.1.discounts, p.steps.0));
      accruals = some_within x.accruals numbers (omega (arith, f.1.accruals, p.steps.0));
      elapsed = some_within x.elapsed numbers (omega (arith, f.1.elapsed, p.steps.0));
      coupons = some_within x.coupons numbers (omega (arith, f.2));
    }
  where
    some_hazards : 1 * x.pool.names ≤ length (list_in x.starts numbers) * x.pool.names
    some_hazards = mul-le-mul_right x.pool.names f.1.starts.0

pub spans_judged : SpansJudged
spans_judged = record { stated = list_long; judged = judged }
