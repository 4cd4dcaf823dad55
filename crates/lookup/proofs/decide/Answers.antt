-- `lookup::decide` meets its contract: the part of the words that is walked is that with the cells.
-- Assumes nothing.
use mathlib.Core.Path.{ap, ◌∙◌}
use Rattle.table.specs.Rows.{kind_of}
use Rattle.lookup.specs.Walk.{found_in}
use Rattle.lookup.proofs.Steps.{part_is}
use Rattle.lookup.proofs.decide.Goals as goal

pub returns : goal.returns
returns c =
    let a = c.args in
    let k = kind_of a.shape.now in
    c.found_in.ensures ∙ ap (found_in k a.words.now) (c.walk.ensures ∙ part_is k a.words.now a.values.now _ _ c.requires.0 c.rows_end-from.ensures.0)
