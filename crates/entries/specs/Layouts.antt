-- What a layout and its numbers stand for.
use Rattle.std.specs.Prelude.{ℕ, zero, suc, ◌+◌, ◌≤◌, min, ◌≡◌, false, List, length, get_or, set}
use Rattle.commands.specs.declared.Entry.{Entry}
use Rattle.sheet.specs.declared.Span.{Span}
use Rattle.sheet.specs.Spans.{list_in, brought_in}
use Rattle.entries.specs.declared.Layout.{Layout}
use Rattle.entries.specs.Draft.{Draft, no_pool, added}

-- Where the elapsed fractions start, and the first of them.
abbrev pub elapsed_at : ℕ
elapsed_at = 7444

abbrev pub elapsed_span : ℕ → Span
elapsed_span length = record { at = elapsed_at; length = length }

-- Those that a call brings: those entered, or else a zero a step, as far as there is room.
unfoldable pub brought_span : ℕ → ℕ → Span
brought_span zero steps = elapsed_span (min steps 3650)
brought_span (suc entered) steps = elapsed_span (suc entered)

abbrev pub draft_in : Layout → List ℕ → Draft
draft_in l numbers =
    record { pooled = l.pooled; elapsed = list_in (elapsed_span l.entered) numbers; brought = brought_in l.sheet numbers }

-- Room for 9 attachment points, 125 hazards, 3,650 discounts and as many accruals, and 9 coupons, one behind the other; then the one start,
-- and last 3,650 elapsed fractions.
abbrev pub empty_layout : Layout
empty_layout =
    record {
      pooled = false;
      entered = 0;
      sheet =
          record {
            pool = no_pool;
            attachments = record { at = 0; length = 0 };
            starts = record { at = 7443; length = 1 };
            hazards = record { at = 9; length = 0 };
            discounts = record { at = 134; length = 0 };
            accruals = record { at = 3784; length = 0 };
            elapsed = elapsed_span 0;
            coupons = record { at = 7434; length = 0 };
          };
    }

-- The lists stand where they started and are within their room; there are as many accruals as discounts.
pub record Placed (l : Layout) (numbers : List ℕ) : Type 0 where
  pub long : length numbers ≡ elapsed_at + 3650
  pub attachments_at : l.sheet.attachments.at ≡ 0
  pub hazards_at : l.sheet.hazards.at ≡ 9
  pub discounts_at : l.sheet.discounts.at ≡ 134
  pub accruals_at : l.sheet.accruals.at ≡ 3784
  pub coupons_at : l.sheet.coupons.at ≡ 7434
  pub starts_at : l.sheet.starts.at ≡ 7443
  pub elapsed_at : l.sheet.elapsed.at ≡ elapsed_at
  pub attachments_in : l.sheet.attachments.length ≤ 9
  pub hazards_in : l.sheet.hazards.length ≤ 125
  pub discounts_in : l.sheet.discounts.length ≤ 3650
  pub accruals_in : l.sheet.accruals.length ≡ l.sheet.discounts.length
  pub coupons_in : l.sheet.coupons.length ≤ 9
  pub starts_in : l.sheet.starts.length ≡ 1
  pub entered_in : l.entered ≤ 3650

-- The places of the elapsed fractions hold zeros.
abbrev pub Blank : List ℕ → Type 0
Blank numbers = (i : ℕ) → elapsed_at ≤ i → get_or numbers i 0 ≡ 0

-- They do as long as none was entered.
pub record LayoutLimits (l : Layout) (numbers : List ℕ) : Type 0 where
  pub placed : Placed l numbers
  pub blank : l.entered ≡ 0 → Blank numbers

-- What an entry leaves.
abbrev pub Leaves : Entry → Layout → List ℕ → Layout → List ℕ → Type 0
Leaves e l numbers m after = LayoutLimits m after × (draft_in m after ≡ added e (draft_in l numbers))

-- A span with an entry more, and the numbers with it.
abbrev pub longer : Span → Span
longer s = record { at = s.at; length = s.length + 1 }

unfoldable pub stored : Span → ℕ → List ℕ → List ℕ
stored s x numbers = set numbers (s.at + s.length) x
