-- `image::rank` meets its contract: the sum of the four tests is the count. Assumes nothing.
use native.Mathlib.Omega.{arith}
use Rattle.image.proofs.Steps.{rank_sum}
use Rattle.image.proofs.rank.Goals as goal

pub returns : goal.returns
returns c =
    let a = c.args in
    (rank_sum a.blocks.now a.at a.value _ _ _ _ c.below.ensures.0 c.below-2.ensures.0 c.below-3.ensures.0 c.below-4.ensures.0, omega arith)
