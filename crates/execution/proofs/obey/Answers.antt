-- `execution::obey` meets its contract.
use Rattle.std.proofs.Common.{refl, arith}
use Rattle.commands.proofs.Laws.{order_some}
use Rattle.execution.specs.Executions.{machine_at}
use Rattle.execution.proofs.EffectLaws.{order_executed}
use Rattle.execution.proofs.obey.Goals as goal

pub overflow_add-result : goal.overflow_add-result
overflow_add-result c = omega (arith, order_some c.args.order, c.order_size.ensures, c.requires.at_bound)

pub put_line-requires : goal.put_line-requires
put_line-requires c = omega (arith, c.requires.end_in_bounds)

pub returns : goal.returns
returns c = record {
  lengths = c.act-response.ensures.lengths;
  layout = refl;
  executes = order_executed c.args.order c.args.from c.args.from.layout _ _ c.act-response.result.answer
      (machine_at c.args.from c.args.numbers.now c.args.register.now c.args.defaults.now c.args.premiums.now
      c.args.row.now)
      _ c.act-response.ensures.acts c.put_line.ensures.writes c.put_line.ensures.short c.order_size.ensures;
}
