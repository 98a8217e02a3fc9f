-- No wrong back walks in turns as alone: the sheet of document 01 is opened, and has one turn or two.
use Rattle.std.proofs.Common.{ℕ, ◌≡◌, refl, sym, ap, ◌∙◌, false, List, [], ◌∷◌, arith, length, get_or, set, replicate, pos, nat_abs}
use Rattle.cash.specs.Units.{B}
use Rattle.register.specs.Rules.{Live}
use Rattle.register.specs.Events.{blank_register}
use Rattle.sheet.specs.Terms.{sum_of}
use Rattle.sheet.specs.Dates.{next_accrual}
use Rattle.sheet.specs.Brought.{Brought}
use Rattle.sheet.specs.Limits.{Limits}
use Rattle.tree.specs.Trials.{worked}
use Rattle.rows.specs.Tables.{any}
use Rattle.rows.specs.Rows.{Rows}
use Rattle.refusals.specs.Tests.{pool_bad, periods_bad, lists_bad, recovery_bad, attachments_bad, starts_bad, hazards_bad, discounts_bad, accruals_bad}
use Rattle.refusals.specs.Tests.{elapsed_bad, coupons_bad, first, sheet_tests}
use Rattle.refusals.proofs.Limits.{limits}
use Rattle.walk.specs.declared.Walk.{Walk}
use Rattle.walk.specs.Answers.{fresh, Said, accepted}
use Rattle.walk.specs.CallRules.{says, WalkResult, BackSteps}
use Rattle.walk.specs.CallLists.{own_rows, opening, after_open, call_result, noted, state_after, history_after, Catalogue, Run, history, no_history}
use Rattle.walk.specs.Accuracy.{Walked}
use Rattle.walk.specs.OurEngine.{ours}
use Rattle.walk.proofs.Ordering.{Opening}
use Rattle.walk.proofs.Acceptance.{open_taken}
use Rattle.walk.proofs.OurRules.{ours_rules}
use Rattle.rounds.specs.Rounds.{turns_at}
use Rattle.fairness.specs.InTurns.{Standing, standing_in, back_of, WalkedTurn, LiveAt, Among, WalksInTurns}
use Rattle.fairness.specs.WrongBacks.{back_by, others_refused, rows_lost, steps_lost, NoneInTurns}
use Rattle.fairness.proofs.InTurns.{ours_walks_in_turns}

-- The number 7 live, and 8 withdrawn too.
abbrev live : List ℕ
live = set blank_register 7 0xA5

abbrev gone : List ℕ
gone = set live 8 0x00

is_live_lem : Live live 7
is_live_lem = record { size = refl; byte = refl }

is_live_too : Live gone 7
is_live_too = record { size = refl; byte = refl }

-- The sheet is opened.
abbrev sheets : Catalogue
sheets = record { sheet = λ y. record { sheet = worked; number = y; coupons = 0 ∷ 0 ∷ [] }; bears = λ y. refl }

abbrev rows : Rows
rows = record { defaults = replicate 6 0; premiums = replicate 6 0 }

abbrev opened : Run
opened = record { catalogue = sheets; start = record { register = live; walk = fresh; rows = rows }; whole = refl; calls = opening 7 own_rows ∷ [] }

within : Limits (sheets.sheet 7)
unfolding B sum_of next_accrual any pool_bad periods_bad lists_bad recovery_bad attachments_bad starts_bad hazards_bad
    discounts_bad accruals_bad elapsed_bad coupons_bad first sheet_tests
within = ((limits (sheets.sheet 7) false).0 refl).0

accepted_open : (ours.opening (sheets.sheet 7) live fresh rows).said ≡ says []
accepted_open =
    let rule = ours_rules.opening (sheets.sheet 7) live fresh rows in
    (rule.does ((open_taken (sheets.sheet 7) live fresh rows _ rule).1 taken)).said
  where
    taken : Opening (sheets.sheet 7) live rows
    taken =
        record {
          limits = within;
          lent = record { lists = within.lists; size = refl; rows = record { defaults = refl; premiums = refl } };
          live = is_live_lem;
        }

-- What then stands at every place.
abbrev stand : Standing
stand = standing_in ours opened 7

-- It has these turns, on any engine with our open.
module _ (f : Brought → List ℕ → Walk → Rows → ℕ → WalkResult) where
  walked : Walked (back_by f) opened 7 0
  unfolding history_after state_after call_result after_open noted
  walked = record { opened = ap (λ k. k.opened) n; walked = ap (λ k. k.walked) n; own = ap (λ k. k.own) n }
    where
      n : history (back_by f) opened ≡ noted no_history (opening 7 own_rows) (says [])
      n = ap (noted no_history (opening 7 own_rows)) accepted_open

  among : (turns : List WalkedTurn) → LiveAt 7 0 turns → Among (back_by f) opened 7 0 (λ p. stand) turns 0
  unfolding state_after call_result after_open
  among turns l = record { walked = walked; stands = refl; live = l }

-- What our back by 1 answers there, and how long its rows are.
ours_says : (back_of ours live stand 1).said ≡ says (pos 1 ∷ [])
unfolding turns_at
ours_says = ours_walks_in_turns.goes opened 7 0 (λ p. stand) [] 0 (among ours.back [] tt) live 1 is_live_lem (omega arith)

ours_long : length (back_of ours live stand 1).rows.defaults ≡ 6
unfolding BackSteps
ours_long =
    let (between, step, same) = ((ours_rules.back (sheets.sheet 7) live stand.walk stand.rows 1).does (ap accepted ours_says)).rows in
    ap (λ (l : Rows). length l.defaults) (sym same) ∙ step.size.defaults

-- Where the number 8 is withdrawn, the next turn is refused.
not_others_refused : WalksInTurns others_refused → ⊥
unfolding turns_at
not_others_refused w =
    let said = w.goes opened 7 0 (λ p. stand) [] 0 (among _ [] tt) gone 1 is_live_too (omega arith) in
    let z : ◌≡◌ {A = ℕ} 9 0 = ap (λ (s : Said). s.number) said in
    omega arith

-- Two turns come to one step.
not_steps_lost : WalksInTurns steps_lost → ⊥
unfolding turns_at
not_steps_lost w =
    let turn : WalkedTurn = record { place = 0; register = live } in
    let said = w.goes opened 7 0 (λ p. stand) (turn ∷ []) 0 (among _ (turn ∷ []) (λ s. is_live_lem, tt)) live 1 is_live_lem (omega arith) in
    let z : ◌≡◌ {A = ℕ} 1 0 = ap (λ (s : Said). nat_abs (get_or s.values 0 (pos 0))) (sym ours_says ∙ said) in
    omega arith

-- Where the number 8 is withdrawn, a turn leaves no rows, and where it is not, a back by 1 does.
not_rows_lost : WalksInTurns rows_lost → ⊥
unfolding turns_at
not_rows_lost w =
    let turn : WalkedTurn = record { place = 0; register = gone } in
    let stands = w.same opened 7 0 (λ p. stand) (turn ∷ []) 0 (among _ (turn ∷ []) (λ s. is_live_too, tt)) live is_live_lem (omega arith) in
    let z : ◌≡◌ {A = ℕ} 0 6 = ap (λ (s : Standing). length s.rows.defaults) stands ∙ ours_long in
    omega arith

pub none_in_turns : NoneInTurns
none_in_turns = record { others_refused = not_others_refused; rows_lost = not_rows_lost; steps_lost = not_steps_lost }
