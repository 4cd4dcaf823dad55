-- `plant::plant` meets its contract: the rules' places are written into the scratch, and the tree is planted behind the rows.
-- Assumes nothing.
use native.Mathlib.Omega.{arith}
use Rattle.table.specs.Rows.{kind_of}
use Rattle.plant.proofs.Planting.{plantable, sets_planted}
use Rattle.plant.proofs.plant.Goals as goal

pub build-requires : goal.build-requires
build-requires c =
    let a = c.args in
    plantable (kind_of a.shape.now) a.c a.words.now _ c.rows_end-from.ensures.0 c.requires.2 a.n _ c.places.ensures c.places.auto.out c.requires.0 c.requires.1 (omega (arith, c.args.shape.now.shaped.ends, c.args.shape.now.shaped.narrow)) c.requires.3

pub returns : goal.returns
returns c =
    let a = c.args in
    sets_planted (kind_of a.shape.now) a.c a.words.now _ c.rows_end-from.ensures.0 c.requires.2 a.n _ c.places.ensures _ c.build.ensures
