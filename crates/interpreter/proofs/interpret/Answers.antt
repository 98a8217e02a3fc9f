-- `interpreter::interpret` meets its contract. The loop's invariant: all that is to be printed is what stands in out and what the rest
use Rattle.std.proofs.Common.{refl, ◌∙◌, arith}
use Rattle.interpreter.proofs.LoopInvariant.{start_limits, holds_at_start, line_fits, holds_on, finished_stopped, finished_all}
use Rattle.interpreter.proofs.interpret.Goals as goal

pub start-progress-requires : goal.start-progress-requires
start-progress-requires c = tt

pub loop-progress-init : goal.loop-progress-init
loop-progress-init c = (
  holds_at_start c.args.deck.now c.args.out.now c.args.numbers.now c.args.register.now c.args.defaults.now
      c.args.premiums.now c.args.row.now c.start-progress.ensures c.requires.numbers_len.0 c.requires.numbers_len.1,
  start_limits c.args.numbers.now c.start-progress.ensures c.requires.numbers_len.0 c.requires.numbers_len.2,
  c.requires.room_lengths,
  refl,
)

pub execute_and_print-executed-requires : goal.execute_and_print-executed-requires
execute_and_print-executed-requires c =
    let i = c.loop-progress.invariant in
    record {
      at_in_bounds = c.loop-progress-test.true;
      layout_limits = i.1;
      room_lengths = i.2;
      end_in_bounds = line_fits i.0 c.loop-progress-test.true c.requires.deck_in_bounds;
    }

pub returns-in-Err : goal.returns-in-Err
returns-in-Err c =
    let printed =
    finished_stopped _ _ _ _ _ _ _ _ c.loop-progress-test.true c.requires.deck_in_bounds c.in-Err.ensures.executes c.loop-progress.invariant.0 in
    record { writes = printed.0; within = printed.1; leaves = c.in-Err.ensures.stays ∙ printed.2 }

pub loop-progress-smaller : goal.loop-progress-smaller
loop-progress-smaller c = omega (arith, c.loop-progress-test.true, c.in-Ok.ensures.executes.onward)

pub loop-progress-preserved : goal.loop-progress-preserved
loop-progress-preserved c = (
  holds_on _ _ _ _ _ _ _ _ c.loop-progress-test.true c.requires.deck_in_bounds _ c.in-Ok.next c.in-Ok.ensures.executes c.loop-progress.invariant.0,
  c.in-Ok.ensures.limits,
  c.in-Ok.ensures.lengths,
  c.execute_and_print-executed.auto.register ∙ c.loop-progress.invariant.3,
)

pub returns : goal.returns
returns c = let printed = finished_all c.loop-progress.invariant.0 c.loop-progress-test.false in record { writes = printed.0; within = printed.1; leaves = printed.2 }
