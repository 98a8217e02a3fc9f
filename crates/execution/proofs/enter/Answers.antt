-- `execution::enter` meets its contract.
use Rattle.std.proofs.Common.{refl, sym, ◌∙◌, arith}
use Rattle.commands.proofs.Laws.{entry_some}
use Rattle.execution.specs.Executions.{machine_at}
use Rattle.execution.proofs.EffectLaws.{entry_executed, full_effect}
use Rattle.execution.proofs.enter.Goals as goal

pub add-layout-requires : goal.add-layout-requires
add-layout-requires c =
    let free = sym (c.has_room.ensures c.args.numbers.now c.requires.layout_limits) ∙ c.if-not-has_room.false in
    record { layout_limits = c.requires.layout_limits; free = free }

pub overflow_add-result : goal.overflow_add-result
overflow_add-result c = omega (arith, entry_some c.args.entry, c.entry_size.ensures, c.requires.at_bound)

pub returns-then-not-has_room : goal.returns-then-not-has_room
returns-then-not-has_room c =
    let from = c.args.from in
    let numbers = c.args.numbers.now in
    let full = sym (c.has_room.ensures numbers c.requires.layout_limits) ∙ c.if-not-has_room.true in
    record {
      limits = c.requires.layout_limits;
      executes = λ register ds ps row out. record {
        effect_is = full_effect c.args.entry from.at (machine_at from numbers register ds ps row) full;
        unwritten = refl;
      };
    }

pub returns : goal.returns
returns c =
    let from = c.args.from in
    let numbers = c.args.numbers.now in
    let free = sym (c.has_room.ensures numbers c.requires.layout_limits) ∙ c.if-not-has_room.false in
    record {
      limits = c.add-layout.ensures.limits;
      executes = λ register ds ps row out.
          entry_executed c.args.entry from _ _ numbers _ out register ds ps row free c.add-layout.ensures.adds c.entry_size.ensures;
    }
