-- What each entry does to a layout within its limits.
use Rattle.std.proofs.Common.{ℕ, ◌+◌, ◌≤◌, ◌<◌, ◌≡◌, refl, sym, ap, ◌∙◌, subst, subst₂, Bool, true, List, [], ◌∷◌, ◌++◌, arith, ltb-true, ltb, length}
use mathlib.Core.Path.{subst₃}
use Rattle.commands.specs.declared.Entry.{Entry}
use Rattle.commands.specs.declared.Entry.TheVariants.{Pool, Attachment, Hazard, Step, Coupon, Elapsed}
use Rattle.sheet.specs.declared.Pool as Declared
use Rattle.sheet.specs.declared.Span.{Span}
use Rattle.sheet.specs.declared.Sheet.{Sheet}
use Rattle.sheet.specs.Spans.{list_in}
use Rattle.sheet.proofs.Spans.{list_long}
use Rattle.sheet.specs.Brought.{brought}
use Rattle.entries.specs.declared.Layout.{Layout}
use Rattle.entries.specs.Draft.{Draft, has_room, added}
use Rattle.entries.specs.Layouts.{elapsed_at, elapsed_span, brought_span, empty_layout, draft_in, Blank, LayoutLimits, Leaves, longer, stored}
use Rattle.entries.proofs.Appending.{stored_long, list_grown, list_behind, list_behind_two, list_ahead}
use Rattle.entries.proofs.Blanks.{blank_stays, brought_at, brought_as}

-- a layout with another pool, or other spans
abbrev layout_of : Bool → ℕ → Declared.Pool → Span → Span → Span → Span → Span → Span → Span → Layout
layout_of pooled entered pool attachments starts hazards discounts accruals elapsed coupons =
    record {
      pooled = pooled;
      entered = entered;
      sheet =
          record {
            pool = pool;
            attachments = attachments;
            starts = starts;
            hazards = hazards;
            discounts = discounts;
            accruals = accruals;
            elapsed = elapsed;
            coupons = coupons;
          };
    }

abbrev pub with_pool : Layout → Declared.Pool → Span → Layout
with_pool l pool s =
    let x = l.sheet in layout_of true l.entered pool x.attachments x.starts x.hazards x.discounts x.accruals s x.coupons

-- the start and the elapsed fractions as they were
abbrev with_lists : Layout → Span → Span → Span → Span → Span → Layout
with_lists l attachments hazards discounts accruals coupons =
    let x = l.sheet in
    layout_of l.pooled l.entered x.pool attachments x.starts hazards discounts accruals x.elapsed coupons

abbrev pub with_attachments : Layout → Span → Layout
with_attachments l s = let x = l.sheet in with_lists l s x.hazards x.discounts x.accruals x.coupons

abbrev pub with_hazards : Layout → Span → Layout
with_hazards l s = let x = l.sheet in with_lists l x.attachments s x.discounts x.accruals x.coupons

abbrev pub with_steps : Layout → Span → Span → Layout
with_steps l s t = let x = l.sheet in with_lists l x.attachments x.hazards s t x.coupons

abbrev pub with_coupons : Layout → Span → Layout
with_coupons l s = let x = l.sheet in with_lists l x.attachments x.hazards x.discounts x.accruals s

abbrev pub with_elapsed : Layout → Span → Layout
with_elapsed l s =
    let x = l.sheet in
    layout_of l.pooled s.length x.pool x.attachments x.starts x.hazards x.discounts x.accruals s x.coupons

abbrev draft_of : Bool → Declared.Pool → List ℕ → List ℕ → List ℕ → List ℕ → List ℕ → List ℕ → List ℕ → List ℕ → Draft
draft_of pooled pool entered attachments starts hazards discounts accruals elapsed coupons =
    record { pooled = pooled; elapsed = entered; brought = brought pool attachments starts hazards discounts accruals elapsed coupons }

-- two drafts of the same figures, list by list
draft_as : {p : Bool} {pool : Declared.Pool} {a b c d f g h i m n o q s t v w : List ℕ} →
    a ≡ b → c ≡ d → f ≡ g → h ≡ i → m ≡ n → o ≡ q → s ≡ t → v ≡ w → draft_of p pool a c f h m o s v ≡ draft_of p pool b d g i n q t w
draft_as {p} {pool} q₁ q₂ q₃ q₄ q₅ q₆ q₇ q₈ = λ j. draft_of p pool (q₁ j) (q₂ j) (q₃ j) (q₄ j) (q₅ j) (q₆ j) (q₇ j) (q₈ j)

module _ (l : Layout) (numbers : List ℕ) (h : LayoutLimits l numbers) where
  attachments_long : length (list_in l.sheet.attachments numbers) ≡ l.sheet.attachments.length
  attachments_long = list_long l.sheet.attachments numbers (omega (arith, h))

  hazards_long : length (list_in l.sheet.hazards numbers) ≡ l.sheet.hazards.length
  hazards_long = list_long l.sheet.hazards numbers (omega (arith, h))

  discounts_long : length (list_in l.sheet.discounts numbers) ≡ l.sheet.discounts.length
  discounts_long = list_long l.sheet.discounts numbers (omega (arith, h))

  coupons_long : length (list_in l.sheet.coupons numbers) ≡ l.sheet.coupons.length
  coupons_long = list_long l.sheet.coupons numbers (omega (arith, h))

  entered_long : length (list_in (elapsed_span l.entered) numbers) ≡ l.entered
  entered_long = list_long (elapsed_span l.entered) numbers (omega (arith, h))

-- whether there is room, by the lengths of the spans
module _ {e : Entry} (l : Layout) where
  pub pool_free : {n m r recovery number : ℕ} → e ≡ Pool n m r recovery number → (numbers : List ℕ) → LayoutLimits l numbers →
      has_room (Pool n m r recovery number) (draft_in l numbers) ≡ has_room e (draft_in l numbers)
  pool_free q numbers h = sym (ap (λ (k : Entry). has_room k (draft_in l numbers)) q)

  pub attachment_free : {x : ℕ} → e ≡ Attachment x → (numbers : List ℕ) → LayoutLimits l numbers →
      ltb l.sheet.attachments.length 9 ≡ has_room e (draft_in l numbers)
  unfolding has_room
  attachment_free q numbers h =
      ap (λ (n : ℕ). ltb n 9) (sym (attachments_long l numbers h)) ∙ sym (ap (λ (k : Entry). has_room k (draft_in l numbers)) q)

  pub hazard_free : {x : ℕ} → e ≡ Hazard x → (numbers : List ℕ) → LayoutLimits l numbers →
      ltb l.sheet.hazards.length 125 ≡ has_room e (draft_in l numbers)
  unfolding has_room
  hazard_free q numbers h =
      ap (λ (n : ℕ). ltb n 125) (sym (hazards_long l numbers h)) ∙ sym (ap (λ (k : Entry). has_room k (draft_in l numbers)) q)

  pub step_free : {x y : ℕ} → e ≡ Step x y → (numbers : List ℕ) → LayoutLimits l numbers →
      ltb l.sheet.discounts.length 3650 ≡ has_room e (draft_in l numbers)
  unfolding has_room
  step_free q numbers h =
      ap (λ (n : ℕ). ltb n 3650) (sym (discounts_long l numbers h)) ∙ sym (ap (λ (k : Entry). has_room k (draft_in l numbers)) q)

  pub coupon_free : {x : ℕ} → e ≡ Coupon x → (numbers : List ℕ) → LayoutLimits l numbers →
      ltb l.sheet.coupons.length 9 ≡ has_room e (draft_in l numbers)
  unfolding has_room
  coupon_free q numbers h =
      ap (λ (n : ℕ). ltb n 9) (sym (coupons_long l numbers h)) ∙ sym (ap (λ (k : Entry). has_room k (draft_in l numbers)) q)

  pub elapsed_free : {x : ℕ} → e ≡ Elapsed x → (numbers : List ℕ) → LayoutLimits l numbers →
      ltb l.entered 3650 ≡ has_room e (draft_in l numbers)
  unfolding has_room
  elapsed_free q numbers h =
      ap (λ (n : ℕ). ltb n 3650) (sym (entered_long l numbers h)) ∙ sym (ap (λ (k : Entry). has_room k (draft_in l numbers)) q)

-- at first only the places of the fractions matter
pub empty_limits : (numbers : List ℕ) → length numbers ≡ elapsed_at + 3650 → Blank numbers → LayoutLimits empty_layout numbers
empty_limits numbers e blank = record { placed = omega arith; blank = λ _. blank }

-- an entry that is known
module _ {e y : Entry} (q : e ≡ y) (l : Layout) (numbers : List ℕ) where
  pub room_as : has_room e (draft_in l numbers) ≡ true → has_room y (draft_in l numbers) ≡ true
  room_as free = sym (ap (λ (k : Entry). has_room k (draft_in l numbers)) q) ∙ free

  pub leaves_as : {m : Layout} {after : List ℕ} → Leaves y l numbers m after → Leaves e l numbers m after
  leaves_as {m} {after} r = subst (λ (k : Entry). Leaves k l numbers m after) (sym q) r

module _ (l : Layout) (numbers : List ℕ) (h : LayoutLimits l numbers) where
  abbrev x : Sheet
  x = l.sheet

  abbrev entered : Span
  entered = elapsed_span l.entered

  pub pool_adds : (n m r recovery number : ℕ) {s : Span} → s ≡ brought_span l.entered m →
      Leaves (Pool n m r recovery number) l numbers
      (with_pool l (record { names = n; steps = m; tranches = r; recovery = recovery; number = number }) s) numbers
  unfolding added
  pool_adds n m r recovery number {s} q =
      let fixed : s.at ≡ elapsed_at = ap (λ (k : Span). k.at) q ∙ brought_at l.entered m in (
        record { placed = omega (arith, h); blank = h.blank },
        draft_as refl refl refl refl refl refl
            (ap (λ (k : Span). list_in k numbers) q ∙ brought_as l.entered m numbers h.placed.long h.placed.entered_in h.blank)
            refl,
      )

  attachment_leaves : (a : ℕ) → x.attachments.length < 9 →
      Leaves (Attachment a) l numbers (with_attachments l (longer x.attachments)) (stored x.attachments a numbers)
  unfolding added
  attachment_leaves a room =
      let t : Span = x.attachments in (
        record {
          placed = omega (arith, h, stored_long t a numbers);
          blank = λ z. blank_stays t a numbers (omega (arith, h)) (h.blank z);
        },
        draft_as (list_behind entered t a numbers (omega (arith, h)))
            (list_grown t a numbers (omega (arith, h)))
            (list_behind x.starts t a numbers (omega (arith, h)))
            (list_behind x.hazards t a numbers (omega (arith, h)))
            (list_behind x.discounts t a numbers (omega (arith, h)))
            (list_behind x.accruals t a numbers (omega (arith, h)))
            (list_behind x.elapsed t a numbers (omega (arith, h)))
            (list_behind x.coupons t a numbers (omega (arith, h))),
      )

  hazard_leaves : (p : ℕ) → x.hazards.length < 125 →
      Leaves (Hazard p) l numbers (with_hazards l (longer x.hazards)) (stored x.hazards p numbers)
  unfolding added
  hazard_leaves p room =
      let t : Span = x.hazards in (
        record {
          placed = omega (arith, h, stored_long t p numbers);
          blank = λ z. blank_stays t p numbers (omega (arith, h)) (h.blank z);
        },
        draft_as (list_behind entered t p numbers (omega (arith, h)))
            (list_ahead x.attachments t p numbers (omega (arith, h)))
            (list_behind x.starts t p numbers (omega (arith, h)))
            (list_grown t p numbers (omega (arith, h)))
            (list_behind x.discounts t p numbers (omega (arith, h)))
            (list_behind x.accruals t p numbers (omega (arith, h)))
            (list_behind x.elapsed t p numbers (omega (arith, h)))
            (list_behind x.coupons t p numbers (omega (arith, h))),
      )

  step_leaves : (v d : ℕ) → x.discounts.length < 3650 →
      Leaves (Step v d) l numbers (with_steps l (longer x.discounts) (longer x.accruals)) (stored x.accruals d (stored x.discounts v numbers))
  unfolding added
  step_leaves v d room =
      let t : Span = x.discounts in
      let u : Span = x.accruals in
      let between : List ℕ = stored t v numbers in
      let long : length between ≡ length numbers = stored_long t v numbers in
      let shut : (longer t).at + (longer t).length ≤ u.at + u.length = omega (arith, h) in
      let less : t.at + t.length < u.at = omega (arith, h) in (
        record {
          placed = omega (arith, h, stored_long u d between);
          blank = λ z. blank_stays u d between (omega (arith, h)) (blank_stays t v numbers (omega (arith, h)) (h.blank z));
        },
        draft_as (list_behind_two entered t u v d numbers (omega (arith, h)) (omega (arith, h)))
            (list_ahead x.attachments u d between (omega (arith, h)) ∙ list_ahead x.attachments t v numbers (omega (arith, h)))
            (list_behind_two x.starts t u v d numbers (omega (arith, h)) (omega (arith, h)))
            (list_ahead x.hazards u d between (omega (arith, h)) ∙ list_ahead x.hazards t v numbers (omega (arith, h)))
            (list_ahead (longer t) u d between shut ∙ list_grown t v numbers (omega (arith, h)))
            (list_grown u d between (omega (arith, h)) ∙ ap (λ (k : List ℕ). k ++ (d ∷ [])) (list_behind u t v numbers less))
            (list_behind_two x.elapsed t u v d numbers (omega (arith, h)) (omega (arith, h)))
            (list_behind_two x.coupons t u v d numbers (omega (arith, h)) (omega (arith, h))),
      )

  coupon_leaves : (s : ℕ) → x.coupons.length < 9 →
      Leaves (Coupon s) l numbers (with_coupons l (longer x.coupons)) (stored x.coupons s numbers)
  unfolding added
  coupon_leaves s room =
      let t : Span = x.coupons in (
        record {
          placed = omega (arith, h, stored_long t s numbers);
          blank = λ z. blank_stays t s numbers (omega (arith, h)) (h.blank z);
        },
        draft_as (list_behind entered t s numbers (omega (arith, h)))
            (list_ahead x.attachments t s numbers (omega (arith, h)))
            (list_behind x.starts t s numbers (omega (arith, h)))
            (list_ahead x.hazards t s numbers (omega (arith, h)))
            (list_ahead x.discounts t s numbers (omega (arith, h)))
            (list_ahead x.accruals t s numbers (omega (arith, h)))
            (list_behind x.elapsed t s numbers (omega (arith, h)))
            (list_grown t s numbers (omega (arith, h))),
      )

  elapsed_leaves : (f : ℕ) → l.entered < 3650 → Leaves (Elapsed f) l numbers (with_elapsed l (longer entered)) (stored entered f numbers)
  unfolding added
  elapsed_leaves f room =
      let grown : list_in (longer entered) (stored entered f numbers) ≡ list_in entered numbers ++ (f ∷ []) = list_grown entered f numbers (omega (arith, h)) in (
        record { placed = omega (arith, h, stored_long entered f numbers); blank = λ z. absurd (omega (arith, z)) },
        draft_as grown
            (list_ahead x.attachments entered f numbers (omega (arith, h)))
            (list_ahead x.starts entered f numbers (omega (arith, h)))
            (list_ahead x.hazards entered f numbers (omega (arith, h)))
            (list_ahead x.discounts entered f numbers (omega (arith, h)))
            (list_ahead x.accruals entered f numbers (omega (arith, h)))
            grown
            (list_ahead x.coupons entered f numbers (omega (arith, h))),
      )

module _ (e : Entry) (l : Layout) (numbers : List ℕ) (h : LayoutLimits l numbers) (free : has_room e (draft_in l numbers) ≡ true) where
  pub attachment_room : {a : ℕ} → e ≡ Attachment a → l.sheet.attachments.length < 9
  attachment_room q = ltb-true _ 9 (attachment_free l q numbers h ∙ free)

  pub hazard_room : {p : ℕ} → e ≡ Hazard p → l.sheet.hazards.length < 125
  hazard_room q = ltb-true _ 125 (hazard_free l q numbers h ∙ free)

  pub step_room : {v d : ℕ} → e ≡ Step v d → l.sheet.discounts.length < 3650
  step_room q = ltb-true _ 3650 (step_free l q numbers h ∙ free)

  pub coupon_room : {s : ℕ} → e ≡ Coupon s → l.sheet.coupons.length < 9
  coupon_room q = ltb-true _ 9 (coupon_free l q numbers h ∙ free)

  pub elapsed_room : {f : ℕ} → e ≡ Elapsed f → l.entered < 3650
  elapsed_room q = ltb-true _ 3650 (elapsed_free l q numbers h ∙ free)

  -- the span that was answered and the numbers that were left
  pub attachment_adds : {a : ℕ} {t : Span} {after : List ℕ} → e ≡ Attachment a → t ≡ longer l.sheet.attachments →
      after ≡ stored l.sheet.attachments a numbers → Leaves e l numbers (with_attachments l t) after
  attachment_adds {a} q r w =
      subst₂ (λ (t : Span) (n : List ℕ). Leaves e l numbers (with_attachments l t) n) (sym r) (sym w)
      (leaves_as q l numbers (attachment_leaves l numbers h a (attachment_room q)))

  pub hazard_adds : {p : ℕ} {t : Span} {after : List ℕ} → e ≡ Hazard p → t ≡ longer l.sheet.hazards →
      after ≡ stored l.sheet.hazards p numbers → Leaves e l numbers (with_hazards l t) after
  hazard_adds {p} q r w =
      subst₂ (λ (t : Span) (n : List ℕ). Leaves e l numbers (with_hazards l t) n) (sym r) (sym w)
      (leaves_as q l numbers (hazard_leaves l numbers h p (hazard_room q)))

  pub step_adds : {v d : ℕ} {t u : Span} {between after : List ℕ} → e ≡ Step v d → t ≡ longer l.sheet.discounts →
      between ≡ stored l.sheet.discounts v numbers → u ≡ longer l.sheet.accruals →
      after ≡ stored l.sheet.accruals d between → Leaves e l numbers (with_steps l t u) after
  step_adds {v} {d} q r w r' w' =
      subst₃ (λ (t u : Span) (n : List ℕ). Leaves e l numbers (with_steps l t u) n) (sym r) (sym r')
      (sym (w' ∙ ap (stored l.sheet.accruals d) w))
      (leaves_as q l numbers (step_leaves l numbers h v d (step_room q)))

  pub coupon_adds : {s : ℕ} {t : Span} {after : List ℕ} → e ≡ Coupon s → t ≡ longer l.sheet.coupons →
      after ≡ stored l.sheet.coupons s numbers → Leaves e l numbers (with_coupons l t) after
  coupon_adds {s} q r w =
      subst₂ (λ (t : Span) (n : List ℕ). Leaves e l numbers (with_coupons l t) n) (sym r) (sym w)
      (leaves_as q l numbers (coupon_leaves l numbers h s (coupon_room q)))

  pub elapsed_adds : {f : ℕ} {t : Span} {after : List ℕ} → e ≡ Elapsed f → t ≡ longer (elapsed_span l.entered) →
      after ≡ stored (elapsed_span l.entered) f numbers → Leaves e l numbers (with_elapsed l t) after
  elapsed_adds {f} q r w =
      subst₂ (λ (t : Span) (n : List ℕ). Leaves e l numbers (with_elapsed l t) n) (sym r) (sym w)
      (leaves_as q l numbers (elapsed_leaves l numbers h f (elapsed_room q)))
