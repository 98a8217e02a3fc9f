-- The commands of a deck, one after the other, on plain values.
use Rattle.std.proofs.Common.{ℕ, zero, suc, ◌+◌, ◌*◌, ◌≤◌, ◌<◌, ◌≡◌, sym, ap, ◌∙◌, subst, subst₂, false, List, [], ◌∷◌, ◌++◌, append_assoc}
use Rattle.std.proofs.Common.{append-nil, arith, length, get_or, take, drop-cons}
use Rattle.lines.specs.Text.{Wrote}
use Rattle.lines.proofs.Laws.{wrote_both, wrote_text, wrote_none, wrote_long}
use Rattle.commands.specs.Commands.{command_at}
use Rattle.walk.specs.Answers.{fresh}
use Rattle.sheet.specs.Spans.{list_in}
use Rattle.sheet.proofs.Spans.{list_within, list_none}
use Rattle.sheet.specs.Brought.{brought}
use Rattle.entries.specs.Draft.{no_pool, empty_draft}
use Rattle.entries.specs.Layouts.{elapsed_at, LayoutLimits, Blank}
use Rattle.entries.proofs.Entering.{empty_limits}
use Rattle.machine.specs.Machine.{Machine, machine_of}
use Rattle.execution.specs.declared.Progress.{Progress}
use Rattle.listings.specs.Effects.{effect_of}
use Rattle.execution.specs.declared.Stopped.{Stopped}
use Rattle.execution.specs.Executions.{start_progress, machine_at, GoesOn, Ends, Ended}
use Rattle.commands.specs.declared.Stop.{Stop}
use Rattle.commands.specs.Kinds.{refusal_of}
use Rattle.render.specs.Lines.{deck_line}
use Rattle.listings.specs.ListingFrom.{listing_from}
use Rattle.listings.proofs.Laws.{past, left_past, on, left_on, last, left_last}
use Rattle.listings.specs.RegisterFrom.{register_from}

-- Where the loop stands: all that is to be printed is what stands in out, up to its end, and what the rest of the deck prints; the register that is
-- to be left is what the rest leaves.
pub record Invariant (all left deck before out : List ℕ) (p : Progress) (m : Machine) : Type 0 where
  pub commands : ℕ
  pub enough : length deck ≤ p.at + commands
  pub text : List ℕ
  pub wrote : Wrote before 0 text out p.end
  pub rest : all ≡ text ++ listing_from commands deck p.at m
  pub kept : left ≡ register_from commands deck p.at m
  pub room : p.end ≤ 32 * p.at
  pub within : p.end ≤ length before

-- Where it ends: all was written, and the register is what was to be left.
abbrev pub Finished : (all left before out : List ℕ) → ℕ → List ℕ → Type 0
Finished all left before out end register = Wrote before 0 all out end × (end ≤ length before) × (register ≡ left)

-- the one start stands behind the room for entries
one_start : (numbers : List ℕ) → length numbers ≡ elapsed_at + 3650 → get_or numbers 7443 0 ≡ 1 → list_in (record { at = 7443; length = 1 }) numbers ≡ 1 ∷ []
one_start numbers long one =
    let h : 7443 < length numbers = omega arith in
    list_within (record { at = 7443; length = 1 }) numbers (omega arith) ∙ ap (take 1) (drop-cons numbers 7443 0 h) ∙ ap (λ (a : ℕ). a ∷ []) one

-- the machine at the start has no entries but that
start_machine : (numbers register ds ps row : List ℕ) → length numbers ≡ elapsed_at + 3650 → get_or numbers 7443 0 ≡ 1 →
    machine_at start_progress numbers register ds ps row ≡ machine_of empty_draft register fresh ds ps row
start_machine numbers register ds ps row long one =
    let none : (at : ℕ) → list_in (record { at = at; length = 0 }) numbers ≡ [] = λ at. list_none at numbers in
    λ t. machine_of (record {
      pooled = false;
      elapsed = none elapsed_at t;
      brought = brought no_pool (none 0 t) (one_start numbers long one t) (none 9 t) (none 134 t) (none 3784 t) (none elapsed_at t) (none 7434 t);
    }) register fresh ds ps row

pub start_limits : {p : Progress} (numbers : List ℕ) → p ≡ start_progress → length numbers ≡ elapsed_at + 3650 → Blank numbers → LayoutLimits p.layout numbers
start_limits numbers e long blank = subst (λ (q : Progress). LayoutLimits q.layout numbers) (sym e) (empty_limits numbers long blank)

pub holds_at_start : (deck out numbers register ds ps row : List ℕ) {p : Progress} → p ≡ start_progress → length numbers ≡ elapsed_at + 3650 → get_or numbers 7443 0 ≡ 1 →
    Invariant (listing_from (length deck) deck 0 (machine_of empty_draft register fresh ds ps row))
    (register_from (length deck) deck 0 (machine_of empty_draft register fresh ds ps row)) deck out out p (machine_at p numbers register ds ps row)
holds_at_start deck out numbers register ds ps row e long one =
    let m = machine_of empty_draft register fresh ds ps row in
    subst (λ (q : Progress). Invariant (listing_from (length deck) deck 0 m) (register_from (length deck) deck 0 m) deck out out q
    (machine_at q numbers register ds ps row)) (sym e)
    (record {
      commands = length deck;
      enough = omega arith;
      text = [];
      wrote = wrote_none out 0;
      rest = ap (listing_from (length deck) deck 0) (sym (start_machine numbers register ds ps row long one));
      kept = ap (register_from (length deck) deck 0) (sym (start_machine numbers register ds ps row long one));
      room = omega arith;
      within = omega arith;
    })

-- there is room for one more line
pub line_fits : {all left deck before out : List ℕ} {p : Progress} {m : Machine} → Invariant all left deck before out p m → p.at < length deck →
    32 * length deck + 96 ≤ length before → p.end + 96 ≤ length out
line_fits r h long = omega (arith, r.room, wrote_long r.wrote)

module _ (all left deck before out after : List ℕ) (p : Progress) (m : Machine) (h : p.at < length deck)
    (long : 32 * length deck + 96 ≤ length before) where
  -- a command that goes on
  module _ (t : Machine) (r : Progress) (g : GoesOn (effect_of (command_at deck p.at) p.at m) p out after r t) where
    step_on : (n : ℕ) → length deck ≤ p.at + n → (text : List ℕ) → Wrote before 0 text out p.end → all ≡ text ++ listing_from n deck p.at m →
        left ≡ register_from n deck p.at m → p.end ≤ 32 * p.at → Invariant all left deck before after r t
    step_on zero en text wr rest kept room = absurd (omega arith)
    step_on (suc n) en text wr rest kept room =
        record {
          commands = n;
          enough = omega (arith, g.onward);
          text = text ++ g.text;
          wrote = wrote_both wr g.wrote;
          rest =
              rest ∙ ap (λ (l : List ℕ). text ++ l) (on deck p.at m n g.text r.at t h g.effect_is)
              ∙ sym (append_assoc text g.text (listing_from n deck r.at t));
          kept = kept ∙ left_on deck p.at m n g.text r.at t h g.effect_is;
          room = omega (arith, g.short);
          within = omega (arith, g.room);
        }

    pub holds_on : Invariant all left deck before out p m → Invariant all left deck before after r t
    holds_on i = step_on i.commands i.enough i.text i.wrote i.rest i.kept i.room

  -- one that ends the run: its line comes last
  module _ {s : Stopped} (g : Ended (effect_of (command_at deck p.at) p.at m) p out after s) where
    step_stopped : (n : ℕ) → length deck ≤ p.at + n → (text : List ℕ) → Wrote before 0 text out p.end → all ≡ text ++ listing_from n deck p.at m →
        left ≡ register_from n deck p.at m → p.end ≤ 32 * p.at → Finished all left before after s.end m.register
    step_stopped zero en text wr rest kept room = absurd (omega arith)
    step_stopped (suc n) en text wr rest kept room = (
      wrote_text (sym (rest ∙ ap (λ (l : List ℕ). text ++ l) (last deck p.at m n (deck_line (refusal_of s.stop) p.at) h g.effect_is)))
          (wrote_both wr g.wrote),
      omega (arith, g.room),
      sym (kept ∙ left_last deck p.at m n (deck_line (refusal_of s.stop) p.at) h g.effect_is),
    )

    pub finished_stopped : Invariant all left deck before out p m → Finished all left before after s.end m.register
    finished_stopped i = step_stopped i.commands i.enough i.text i.wrote i.rest i.kept i.room

-- One whose line is still to be written, and is written behind what was printed.
module _ (all left deck before out after : List ℕ) (p : Progress) (m : Machine) (h : p.at < length deck)
    (long : 32 * length deck + 96 ≤ length before) {s : Stop} (g : Ends (effect_of (command_at deck p.at) p.at m) p out after s) {number end : ℕ}
    {printed : List ℕ} (is : number ≡ refusal_of s) (w : Wrote after p.end (deck_line number p.at) printed end) (short : end ≤ p.end + 30) where
  line : Wrote out p.end (deck_line (refusal_of s) p.at) printed end
  line =
      subst₂ (λ (o : List ℕ) (k : ℕ). Wrote o p.end (deck_line k p.at) printed end) g.unwritten is w

  ended : Ended (effect_of (command_at deck p.at) p.at m) p out printed (record { stop = s; end = end })
  ended = record { effect_is = g.effect_is; wrote = line; room = omega (arith, short) }

  step_last : (n : ℕ) → length deck ≤ p.at + n → (text : List ℕ) → Wrote before 0 text out p.end → all ≡ text ++ listing_from n deck p.at m →
      left ≡ register_from n deck p.at m → p.end ≤ 32 * p.at → Finished all left before printed end m.register
  step_last = step_stopped all left deck before out printed p m h long ended

  pub finished_last : Invariant all left deck before out p m → Finished all left before printed end m.register
  finished_last i = step_last i.commands i.enough i.text i.wrote i.rest i.kept i.room

pub finished_all : {all left deck before out : List ℕ} {p : Progress} {m : Machine} → Invariant all left deck before out p m → length deck ≤ p.at →
    Finished all left before out p.end m.register
finished_all {deck = deck} {p = p} {m = m} i h = (
  wrote_text (sym (i.rest ∙ ap (λ (l : List ℕ). i.text ++ l) (past deck p.at m i.commands h) ∙ append-nil i.text)) i.wrote,
  i.within,
  sym (i.kept ∙ left_past deck p.at m i.commands h),
)
