-- `moves::put` meets its contract: words moved up, and a row written where they were.
-- Assumes nothing.
use mathlib.Core.Path.{◌∙◌}
use Rattle.moves.proofs.Copies.{put_moved}
use Rattle.moves.proofs.put.Goals as goal

pub returns : goal.returns
returns c =
    let a = c.args in
    put_moved a.width a.at c.move_up.ensures c.copy.ensures (c.copy.auto.out ∙ c.move_up.auto.rows)
