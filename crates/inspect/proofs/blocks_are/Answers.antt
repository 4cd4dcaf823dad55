-- `inspect::blocks_are` meets its contract: what is compared is the tree of the places that are written.
-- Assumes nothing.
use Rattle.inspect.proofs.blocks_are.Goals as goal

pub returns : goal.returns
returns c = rw c.places.ensures at c.tree_is.ensures
