use Rattle.turns.proofs.Copies.{bridge}
use Rattle.turns.proofs.serve_with.Goals as goal

pub returns : goal.returns
returns c =
    bridge _ _ _ _ c.args.list.now _ c.args.place _ _ _ _ c.requires c.shown-shown.ensures c.copy_out.ensures
    c.serve_first-answer.ensures c.stored-stored.ensures c.copy_in.ensures
