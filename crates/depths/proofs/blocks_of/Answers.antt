-- `depths::blocks_of` meets its contract: what is gone through is the tree of the places that are written.
-- Assumes nothing.
use Rattle.depths.proofs.blocks_of.Goals as goal

pub returns : goal.returns
returns c = rw (c.of-rows.ensures, c.places.ensures) at c.of_chain.ensures
