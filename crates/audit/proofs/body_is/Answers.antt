-- `audit::body_is` meets its contract: the rows, and then the tree.
-- Assumes nothing.
use mathlib.Core.Bool.{not}
use mathlib.Core.Path.{ap, ◌∙◌}
use lib.ListN.{length}
use Prim.Native.Nat.{suc}
use native.Mathlib.Omega.{arith}
use Rattle.table.specs.Rows.{kind_of}
use Rattle.layout.proofs.Parts.{scratch_few, part_long}
use Rattle.audit.proofs.Laws.{body_wrong, body_right}
use Rattle.audit.proofs.body_is.Goals as goal

pub returns-then-not-table_is : goal.returns-then-not-table_is
returns-then-not-table_is c =
    let a = c.args in
    body_wrong (kind_of a.shape.now) a.words.now a.c a.n _ c.rows-rows.ensures _ c.table_is.ensures (ap not c.if-not-table_is.true)

pub tree_is-requires : goal.tree_is-requires
tree_is-requires c =
    let a = c.args in
    let h = a.shape.now.shaped in
    (ap length c.part.ensures ∙ part_long (kind_of a.shape.now) a.words.now a.c c.requires.3, c.requires.2, omega (arith, c.requires.1, h.few), scratch_few (suc a.n) c.requires.0 (omega (arith, c.requires.1)))

pub returns : goal.returns
returns c =
    let a = c.args in
    body_right (kind_of a.shape.now) a.words.now a.c a.n _ c.rows-rows.ensures _ c.table_is.ensures (ap not c.if-not-table_is.false) _ c.part.ensures _ c.tree_is.ensures
