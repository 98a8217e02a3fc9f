-- `commands::command_at` meets its contract: each return is what the tests before it pick.
use Rattle.std.proofs.Common.{◌∙◌, arith}
use Rattle.std.proofs.lemmas.Result.{err_from_is_err_and}
use Rattle.commands.proofs.Rest.{unknown, cut_short, whole}
use Rattle.commands.proofs.command_at.Goals as goal

pub returns-in_err-kind : goal.returns-in_err-kind
returns-in_err-kind c =
    let none = c.in_err-kind.ensures in
    let p = err_from_is_err_and c.from_residual.result c.from_residual.ensures.1 in
    rw (p.1, p.2, none.1) (unknown c.args.deck.now c.args.at none.0)

pub returns-then-deck-at : goal.returns-then-deck-at
returns-then-deck-at c =
    cut_short c.args.deck.now c.args.at c.in_ok-kind.kind c.in_ok-kind.ensures (omega (arith, c.operands_of.ensures, c.if-deck-at.true))

pub returns : goal.returns
returns c =
    c.decode.ensures
    ∙ whole c.args.deck.now c.args.at c.in_ok-kind.kind c.in_ok-kind.ensures (omega (arith, c.operands_of.ensures, c.if-deck-at.false))
