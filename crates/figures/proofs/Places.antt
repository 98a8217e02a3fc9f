-- Where a node stands in a row, and the figures of one that can be read.
use Rattle.std.proofs.Common.{◌≡◌, sym, ◌∙◌, ap, subst, List, ℕ, ◌+◌, ◌*◌, add-one, arith, get_or}
use Rattle.hedges.specs.declared.Node.{Node}
use Rattle.hedges.specs.Hedges.{Figures}
use Rattle.sheet.specs.Terms.{Terms}
use Rattle.sheet.specs.Brought.{Brought}
use Rattle.sheet.specs.Limits.{TranchesWithin}
use Rattle.tree.proofs.Sheets.{loss_most}
use Rattle.rows.specs.Tables.{entry}
use Rattle.rows.specs.Rows.{Rows, node_in}
use Rattle.tranches.proofs.Losses.{width_most}
use Rattle.figures.specs.Nodes.{node_of, Readable}

-- ---- where a node stands in a row

-- An entry is read at its place.
pub node_place : (x : Terms) (row : List ℕ) (j k : ℕ) {n : ℕ} → n ≡ x.names → get_or row (j * (n + 1) + k) 0 ≡ node_in x row j k
unfolding node_in entry
node_place x row j k e = ap (λ (n : ℕ). get_or row (j * (n + 1) + k) 0) e ∙ ap (λ (w : ℕ). get_or row (j * w + k) 0) (add-one x.names)

-- ---- the figures of a node that can be read

pub node_figures : (x : Brought) (l : Rows) (j k : ℕ) {n : Node} → TranchesWithin x.sheet → Readable x l j k → n ≡ node_of x.sheet l j k → Figures n
unfolding node_of
node_figures x l j k t r e =
    subst Figures (sym e)
    (record {
      loss = omega (arith, loss_most x.sheet j k r.count, width_most x.sheet t j);
      default = r.default;
      premium = r.premium;
    })
