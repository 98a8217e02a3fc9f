-- The lists of a sheet, in one lent list of numbers.
use Rattle.std.specs.Prelude.{ℕ, ◌+◌, ◌≤◌, ◌≡◌, cond, List, [], leb, length, take, drop}
use Rattle.sheet.specs.declared.Span.{Span}
use Rattle.sheet.specs.declared.Sheet as Declared
use Rattle.sheet.specs.Terms.{Terms}
use Rattle.sheet.specs.Brought.{Brought, brought}
use Rattle.sheet.specs.Limits.{PoolInside, ListsFit}

-- The list of a span: as many numbers as it states, from its start on. One that reaches past the end has none, and is empty.
unfoldable pub list_in : Span → List ℕ → List ℕ
list_in s numbers = cond (leb (s.at + s.length) (length numbers)) (take s.length (drop s.at numbers)) []

-- The sheet that a call brings with these numbers.
abbrev pub brought_in : Declared.Sheet → List ℕ → Brought
brought_in x numbers =
    brought x.pool (list_in x.attachments numbers) (list_in x.starts numbers) (list_in x.hazards numbers) (list_in x.discounts numbers)
    (list_in x.accruals numbers) (list_in x.elapsed numbers) (list_in x.coupons numbers)

-- What its values rest on.
abbrev pub terms_in : Declared.Sheet → List ℕ → Terms
terms_in x numbers = (brought_in x numbers).sheet

-- A span that ends within the numbers, and a sheet all of whose spans do.
abbrev pub Within : Span → List ℕ → Type 0
Within s numbers = s.at + s.length ≤ length numbers

pub record SpansWithin (x : Declared.Sheet) (numbers : List ℕ) : Type 0 where
  pub attachments : Within x.attachments numbers
  pub starts : Within x.starts numbers
  pub hazards : Within x.hazards numbers
  pub discounts : Within x.discounts numbers
  pub accruals : Within x.accruals numbers
  pub elapsed : Within x.elapsed numbers
  pub coupons : Within x.coupons numbers

-- What a span states is so, or its list is refused. Proved in proofs/Spans.antt.
pub record SpansJudged : Type 0 where
  -- A list within the numbers has the stated length.
  pub stated : (s : Span) (numbers : List ℕ) → Within s numbers → length (list_in s numbers) ≡ s.length
  -- Where 1 and 2 find nothing, every list is: no list of a sheet may be empty.
  pub judged : (x : Declared.Sheet) (numbers : List ℕ) → PoolInside (terms_in x numbers) → ListsFit (brought_in x numbers) → SpansWithin x numbers
