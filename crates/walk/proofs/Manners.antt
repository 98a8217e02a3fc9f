-- A manner that agrees with ours in what it goes by agrees in every call.
use Rattle.std.proofs.Common.{ℕ, ◌-◌, ◌*◌, ◌≡◌, refl, sym, ◌∙◌, ap, Bool, ◌||◌, List, [], ◌∷◌, ◌++◌, leb, ltb, eqb, nat_abs}
use Rattle.refusals.specs.declared.Refusal.{Refusal}
use Rattle.std.specs.Prelude.{Result, Ok, Err, ⊤}
use Rattle.sheet.specs.Brought.{Brought}
use Rattle.sheet.specs.Limits.{Limits}
use Rattle.rows.specs.Rows.{Rows, soiled, distribution_row}
use Rattle.refusals.specs.declared.Refusal.TheVariants.{NoWalk, OverCeiling, OutOfSteps, OffTree, FlatHedge, OffScale}
use Rattle.refusals.specs.Tests.{Test, first, sheet_tests}
use Rattle.refusals.proofs.FirstTest.{joined_refused, joined_fine}
use Rattle.admission.specs.LentTests.{rows_bad, row_bad, off_walk, ten_tests, walk_tests}
use Rattle.figures.specs.Answer.{Done, Position}
use Rattle.figures.specs.Nodes.{jump}
use Rattle.walk.specs.declared.Walk.{Walk}
use Rattle.walk.specs.RefusalOrders.{LentFit, OnWalk}
use Rattle.walk.specs.Calls.{or_outcome, or_forward_outcome, twelve_tests, open_tests, back_tests, value_tests, ratio_tests, forward_tests, rolls}
use Rattle.walk.specs.Calls.{open_call, back_call, value_call, ratio_call, forward_call}
use Rattle.walk.specs.Manners.{Manner, ten_by, twelve_by, open_by, back_by, value_by, ratio_by, forward_by, CeilingsAsked, CallsAlike}
use Rattle.walk.proofs.Judging.{stands_fine}
use Rattle.walk.proofs.Ordering.{rows_lent_fine, walk_fine, ten_stands, ten_holds}

module _ (m : Manner) (x : Brought) (Lent : List ℕ → Walk → Rows → Type 0)
    (checks : (lent : Bool) (more : List Test) → first (sheet_tests x lent more) ≡ first (m.checks x lent more))
    (over : (register : List ℕ) (walk : Walk) (rows : Rows) → Lent register walk rows → CeilingsAsked x register walk rows →
    soiled x.sheet walk.position rows.defaults rows.premiums ≡ m.over x.sheet walk.position rows)
    (rolled : (i c : ℕ) (rows : Rows) → rolls x i c rows ≡ m.rolled x.sheet i c rows)
    (spread : (i : ℕ) → distribution_row x.sheet i ≡ m.spread x.sheet i) where
  ten : (register : List ℕ) (lent : Bool) (more : List Test) → first (ten_tests x register lent more) ≡ first (ten_by m x register lent more)
  unfolding ten_tests ten_by
  ten register lent more = checks lent _

  -- the checks before 12, and then more
  module _ (register : List ℕ) (walk : Walk) (rows : Rows) where
    eleven : List Test → List Test
    eleven more = ten_tests x register (rows_bad x register rows) ((off_walk x walk.«open» walk.number walk.position, NoWalk) ∷ more)

    joined : (more : List Test) → eleven more ≡ eleven [] ++ more
    unfolding eleven ten_tests sheet_tests
    joined more = refl

    -- what stands behind them counts only where they find nothing
    behind : (a b : List Test) → (first (eleven []) ≡ Ok tt → first a ≡ first b) → first (eleven a) ≡ first (eleven b)
    behind a b same = go (first (eleven [])) refl
      where
        go : (f : Result ⊤ Refusal) → first (eleven []) ≡ f → first (eleven a) ≡ first (eleven b)
        go (Ok tt) e =
            ap first (joined a) ∙ joined_fine (eleven []) a e ∙ same e ∙ sym (joined_fine (eleven []) b e) ∙ ap first (sym (joined b))
        go (Err f) e =
            ap first (joined a) ∙ joined_refused (eleven []) a f e ∙ sym (joined_refused (eleven []) b f e) ∙ ap first (sym (joined b))

    twelve : (more : List Test) → Lent register walk rows → first (twelve_tests x register walk rows more) ≡ first (twelve_by m x register walk rows more)
    unfolding walk_tests twelve_by eleven
    twelve more l =
        behind _ _ (λ e. ap (λ (b : Bool). first ((b, OverCeiling) ∷ more)) (over register walk rows l e))
        ∙ ten register _ _

  opening_is : (register : List ℕ) (walk : Walk) (rows : Rows) → open_call x register walk rows ≡ open_by m x register walk rows
  unfolding open_call open_tests open_by
  opening_is register walk rows = rw (ten register (rows_bad x register rows) []) refl

  back_is : (register : List ℕ) (walk : Walk) (rows : Rows) (c : ℕ) → Lent register walk rows → back_call x register walk rows c ≡ back_by m x register walk rows c
  unfolding back_call back_tests back_by
  back_is register walk rows c l t =
      or_outcome (twelve register walk rows ((ltb walk.position c, OutOfSteps) ∷ []) l t) walk rows
      (record {
        answer = Position (walk.position - c);
        walk = record { «open» = walk.«open»; number = walk.number; position = walk.position - c };
        rows = rolled walk.position c rows t;
      })

  value_is : (register : List ℕ) (walk : Walk) (rows : Rows) (j k : ℕ) → Lent register walk rows → value_call x register walk rows j k ≡ value_by m x register walk rows j k
  unfolding value_call value_tests value_by
  value_is register walk rows j k l = rw (twelve register walk rows ((ltb x.sheet.tranches j || ltb x.sheet.names k, OffTree) ∷ []) l) refl

  ratio_is : (register : List ℕ) (walk : Walk) (rows : Rows) (j k : ℕ) → Lent register walk rows → ratio_call x register walk rows j k ≡ ratio_by m x register walk rows j k
  unfolding ratio_call ratio_tests ratio_by
  ratio_is register walk rows j k l =
      rw (twelve register walk rows
      ((ltb x.sheet.tranches j || leb x.sheet.names k, OffTree) ∷ (eqb (nat_abs (jump x rows x.sheet.tranches k)) 0, FlatHedge)
      ∷ (leb (1_000_000 * nat_abs (jump x rows x.sheet.tranches k)) (nat_abs (jump x rows j k)), OffScale) ∷ []) l) refl

  forward_is : (register row : List ℕ) (i : ℕ) → forward_call x register row i ≡ forward_by m x register row i
  unfolding forward_call forward_tests forward_by
  forward_is register row i t =
      or_forward_outcome (ten register (row_bad x register row) ((ltb x.sheet.steps i, OutOfSteps) ∷ []) t) row (record { answer = Done; row = spread i t })

  pub calls_alike : CallsAlike m x Lent
  calls_alike = record { opening = opening_is; back = back_is; value = value_is; ratio = ratio_is; forward = forward_is }

-- Where 12 is asked, the sheet is within limits and the walk is its own.
pub ceilings_asked : (x : Brought) (g : List ℕ) (w : Walk) (l : Rows) → CeilingsAsked x g w l → Limits x × OnWalk x w
ceilings_asked x g w l asked =
    let off : List Test = (off_walk x w.«open» w.number w.position, NoWalk) ∷ [] in
    let stands = ten_stands x g (rows_bad x g l) (LentFit x g l) off ((OnWalk x w, 11) ∷ []) (rows_lent_fine x g l) (λ k. k.size) (walk_fine x w, refl, λ k. tt) in
    let h = (ten_holds x g (LentFit x g l) ((OnWalk x w, 11) ∷ []) (λ k. k.lists)).0 ((stands_fine _ _ stands).0 asked) in
    (h.0, h.3.0)
