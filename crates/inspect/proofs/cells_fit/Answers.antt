-- `inspect::cells_fit` meets its contract: what is counted is the tree of the places that are written, and no more than a store's cells.
-- Assumes nothing.
use Rattle.layout.proofs.Parts.{counted}
use Rattle.inspect.proofs.cells_fit.Goals as goal

pub returns : goal.returns
returns c = counted _ _ 65536 (rw (c.of-rows.ensures, c.places.ensures) at c.count_chain.ensures)
