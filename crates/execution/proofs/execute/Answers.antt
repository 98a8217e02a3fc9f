-- `execution::execute` meets its contract: each way out is what was read there, and what the function of its command ensures.
use Rattle.std.proofs.Common.{refl, sym, ap, ◌∙◌, Ok}
use Rattle.std.proofs.lemmas.Result.{err_from_is_err_and}
use Rattle.machine.specs.Machine.{Machine}
use Rattle.execution.specs.Executions.{machine_at}
use Rattle.listings.proofs.Laws.{stop_effect, enter_effect, act_effect}
use Rattle.execution.proofs.execute.Goals as goal

pub returns-in_err-entry-clause-executes : goal.returns-in_err-entry-clause-executes
returns-in_err-entry-clause-executes c =
    let a = c.args in
    let machine : Machine = machine_at a.from a.numbers.now a.register.now a.defaults.now a.premiums.now a.row.now in
    let p = err_from_is_err_and c.from_residual.result c.from_residual.ensures.1 in
    rw (p.1, p.2) (record { effect_is = stop_effect a.from.at machine (sym c.in_err-entry.ensures); unwritten = refl })

pub returns-in-Enter-clause-executes : goal.returns-in-Enter-clause-executes
returns-in-Enter-clause-executes c =
    let a = c.args in
    let machine : Machine = machine_at a.from a.numbers.now a.register.now a.defaults.now a.premiums.now a.row.now in
    let read = sym c.in_ok-entry.ensures ∙ ap Ok c.in-Enter.is in
    rw (enter_effect a.from.at machine read)
    (c.enter.ensures.executes a.register.now a.defaults.now a.premiums.now a.row.now a.out.now)

pub returns-in-Act-clause-executes : goal.returns-in-Act-clause-executes
returns-in-Act-clause-executes c =
    let a = c.args in
    let machine : Machine = machine_at a.from a.numbers.now a.register.now a.defaults.now a.premiums.now a.row.now in
    let read = sym c.in_ok-entry.ensures ∙ ap Ok c.in-Act.is in
    rw (act_effect a.from.at machine read) c.obey.ensures.executes
