-- `issuing::withdraw` meets its contract: an accepted withdrawal lasts.
use Rattle.std.proofs.Common.{refl}
use Rattle.register.proofs.Lasting.{lasts}
use Rattle.issuing.proofs.withdraw.Goals as goal

pub returns-clause-lasts : goal.returns-clause-lasts
returns-clause-lasts c e = lasts c.args.register.now c.args.number (c.in_ok-judge.ensures.withdraws refl) c.store.ensures
