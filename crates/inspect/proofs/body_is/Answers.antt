-- `inspect::body_is` meets its contract: the rows, then the blocks, and then the cells.
-- Assumes nothing.
use mathlib.Core.Bool.{not}
use mathlib.Core.Path.{ap, ◌∙◌}
use Prim.Native.Nat.{suc}
use native.Mathlib.Omega.{arith}
use lib.ListN.{length, length-take, length-drop}
use Rattle.table.specs.Rows.{kind_of}
use Rattle.layout.proofs.Parts.{scratch_few}
use Rattle.inspect.proofs.Laws.{rows_here, wrong_table, wrong_blocks, right_body}
use Rattle.inspect.proofs.body_is.Goals as goal

pub table_is-requires : goal.table_is-requires
table_is-requires c = record { shaped = c.args.shape.now.shaped; fit = c.requires.1; whole = ap length c.rows-rows.ensures ∙ rows_here (kind_of c.args.shape.now) c.args.image.now c.requires.2 }

pub returns-then-not-table_is : goal.returns-then-not-table_is
returns-then-not-table_is c = wrong_table (kind_of c.args.shape.now) c.args.image.now c.args.n _ c.rows-rows.ensures _ c.table_is.ensures (ap not c.if-not-table_is.true)

pub blocks_are-requires : goal.blocks_are-requires
blocks_are-requires c = (simp (length-take, length-drop) (omega (arith, c.requires.3)), omega (arith, c.requires.1, c.args.shape.now.shaped.few), scratch_few (suc c.args.n) c.requires.0 (omega (arith, c.requires.1)))

pub returns-then-not-blocks_are : goal.returns-then-not-blocks_are
returns-then-not-blocks_are c = wrong_blocks (kind_of c.args.shape.now) c.args.image.now c.args.n _ c.rows-rows.ensures _ c.rows_end.ensures.0 _ _ c.table_is.ensures (ap not c.if-not-table_is.false) c.blocks_are.ensures (ap not c.if-not-blocks_are.true)

pub cells_fit-requires : goal.cells_fit-requires
cells_fit-requires c =
    let b = c.blocks_are.auto in
    let g = scratch_few (suc c.args.n) c.requires.0 (omega (arith, c.requires.1)) in
    (omega (arith, c.requires.1, c.args.shape.now.shaped.few), record { places = omega (arith, g.places, b.sets); room = omega (arith, g.room, b.ends) })

pub returns : goal.returns
returns c = right_body (kind_of c.args.shape.now) c.args.image.now c.args.n _ c.rows-rows.ensures _ c.rows_end.ensures.0 _ _ _ c.table_is.ensures (ap not c.if-not-table_is.false) c.blocks_are.ensures (ap not c.if-not-blocks_are.false) c.cells_fit.ensures
