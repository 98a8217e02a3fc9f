-- No fraction from step i + 1 on is above the accrual of its next premium date, and `next` is that of step i + 1.
use Rattle.std.proofs.Common.{◌-◌, ◌≡◌, sym, arith, lt-ltb, le-ltb, drop}
use Rattle.sheet.specs.Dates.{next_accrual}
use Rattle.rows.proofs.Search.{any_hit}
use Rattle.faults.proofs.Elapsed.{next_none, next_down, clear_none, clear_down, clear_all}
use Rattle.faults.proofs.elapsed_over.Goals as goal

pub loop-i-init : goal.loop-i-init
loop-i-init c = (next_none _ c.requires, clear_none _ _)

pub returns-then-next-elapsed : goal.returns-then-next-elapsed
returns-then-next-elapsed c =
    let accruals = c.args.accruals.now in
    let i = c.loop-i.i in
    let next : c.next_date-next.result ≡ next_accrual (drop (i - 1) accruals) = next_down accruals i _ (omega arith) (omega arith) c.loop-i.invariant.0 c.next_date-next.ensures in
    sym (any_hit _ _ (i - 1) (omega arith) (lt-ltb _ _ (rw (← next) c.if-next-elapsed.true)))

pub loop-i-preserved : goal.loop-i-preserved
loop-i-preserved c =
    let accruals = c.args.accruals.now in
    let i = c.loop-i.i in
    let next : c.next_date-next.result ≡ next_accrual (drop (i - 1) accruals) = next_down accruals i _ (omega arith) (omega arith) c.loop-i.invariant.0 c.next_date-next.ensures in
    (next, clear_down _ _ _ c.loop-i.invariant.1 (le-ltb _ _ (rw (← next) c.if-next-elapsed.false)))

pub returns : goal.returns
returns c = clear_all _ _ _ (omega arith) c.loop-i.invariant.1
