-- `verify::tree_is` meets its contract.
-- Assumes nothing.
use lib.ListN.{take}
use Rattle.rows.specs.Rows.{tree_at}
use Rattle.verify.proofs.Turns.{tree_differs, tree_same}
use Rattle.verify.proofs.tree_is.Goals as goal

pub returns-in-None : goal.returns-in-None
returns-in-None c =
    let a = c.args in
    tree_differs _ (tree_at a.rules.now 0 a.fields (take a.n a.sets.now)) (rw c.of-rows.ensures at c.in-None.ensures)

pub returns-in-Some : goal.returns-in-Some
returns-in-Some c =
    let a = c.args in
    tree_same _ (tree_at a.rules.now 0 a.fields (take a.n a.sets.now)) (rw c.of-rows.ensures at c.in-Some.ensures)
