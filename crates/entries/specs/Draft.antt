-- The sheet as commands 01 to 05 and 0D enter it (document 01, 'Deck and printing program', and T-01).
use Rattle.std.specs.Prelude.{ℕ, min, Bool, true, false, not, List, [], ◌∷◌, ◌++◌, ltb, length, replicate}
use Rattle.commands.specs.declared.Entry.{Entry}
use Rattle.commands.specs.declared.Entry.TheVariants.{Pool, Attachment, Hazard, Step, Coupon, Elapsed}
use Rattle.sheet.specs.declared.Pool as Declared
use Rattle.sheet.specs.Brought.{Brought, brought}

-- Whether there was a pool command, the elapsed fractions as entered, and the sheet that a call would bring.
pub record Draft : Type 0 where
  pub pooled : Bool
  pub elapsed : List ℕ
  pub brought : Brought

-- Without a pool command n, m, r, R and the number are 0.
abbrev pub no_pool : Declared.Pool
no_pool = record { names = 0; steps = 0; tranches = 0; recovery = 0; number = 0 }

-- No command enters a period: there is the one from step 1 on. (T-06)
abbrev pub empty_draft : Draft
empty_draft = record { pooled = false; elapsed = []; brought = brought no_pool [] (1 ∷ []) [] [] [] [] [] }

-- The fractions of a sheet with m steps. A deck that enters none has m zeros. (T-01)
-- No more than 3,650: a pool of more steps is refused by 1 before any list is looked at.
unfoldable pub fractions : List ℕ → ℕ → List ℕ
fractions [] steps = replicate (min steps 3650) 0
fractions (e ∷ l) steps = e ∷ l

-- 20, too many: a second pool; more than 9 attachment points or coupons, 125 hazards, 3,650 steps or elapsed fractions.
unfoldable pub has_room : Entry → Draft → Bool
has_room (Pool n m r recovery number) g = not g.pooled
has_room (Attachment a) g = ltb (length g.brought.sheet.attachments) 9
has_room (Hazard p) g = ltb (length g.brought.sheet.hazards) 125
has_room (Step v d) g = ltb (length g.brought.sheet.discounts) 3650
has_room (Coupon s) g = ltb (length g.brought.coupons) 9
has_room (Elapsed e) g = ltb (length g.elapsed) 3650

-- The figures of a sheet but for its lists.
abbrev pub pool_of : Brought → Declared.Pool
pool_of x =
    record {
      names = x.sheet.names;
      steps = x.sheet.steps;
      tranches = x.sheet.tranches;
      recovery = x.sheet.recovery;
      number = x.number;
    }

-- The draft with an entry more: a pool's figures, or a number behind its list, a step's behind two.
unfoldable pub added : Entry → Draft → Draft
added (Pool n m r recovery number) g =
    let x = g.brought in
    let pool : Declared.Pool = record { names = n; steps = m; tranches = r; recovery = recovery; number = number } in
    record {
      pooled = true;
      elapsed = g.elapsed;
      brought =
          brought pool x.sheet.attachments x.sheet.starts x.sheet.hazards x.sheet.discounts x.sheet.accruals
          (fractions g.elapsed m)
          x.coupons;
    }
added (Attachment a) g =
    let x = g.brought in
    record {
      pooled = g.pooled;
      elapsed = g.elapsed;
      brought =
          brought (pool_of x) (x.sheet.attachments ++ (a ∷ [])) x.sheet.starts x.sheet.hazards x.sheet.discounts
          x.sheet.accruals x.sheet.elapsed x.coupons;
    }
added (Hazard p) g =
    let x = g.brought in
    record {
      pooled = g.pooled;
      elapsed = g.elapsed;
      brought =
          brought (pool_of x) x.sheet.attachments x.sheet.starts (x.sheet.hazards ++ (p ∷ [])) x.sheet.discounts
          x.sheet.accruals x.sheet.elapsed x.coupons;
    }
added (Step v d) g =
    let x = g.brought in
    record {
      pooled = g.pooled;
      elapsed = g.elapsed;
      brought =
          brought (pool_of x) x.sheet.attachments x.sheet.starts x.sheet.hazards (x.sheet.discounts ++ (v ∷ []))
          (x.sheet.accruals ++ (d ∷ []))
          x.sheet.elapsed x.coupons;
    }
added (Coupon s) g =
    let x = g.brought in
    record {
      pooled = g.pooled;
      elapsed = g.elapsed;
      brought =
          brought (pool_of x) x.sheet.attachments x.sheet.starts x.sheet.hazards x.sheet.discounts
          x.sheet.accruals x.sheet.elapsed (x.coupons ++ (s ∷ []));
    }
added (Elapsed e) g =
    let x = g.brought in
    let elapsed = g.elapsed ++ (e ∷ []) in
    record {
      pooled = g.pooled;
      elapsed = elapsed;
      brought =
          brought (pool_of x) x.sheet.attachments x.sheet.starts x.sheet.hazards x.sheet.discounts
          x.sheet.accruals elapsed x.coupons;
    }
