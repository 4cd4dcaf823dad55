-- `reamstork_read` meets its contract: what is read, given to C.
-- Assumes nothing.
use Rattle.reamstork.proofs.Read.{given_to_c}
use Rattle.reamstork.proofs.reamstork_read.Goals as goal

pub returns : goal.returns
returns c = given_to_c _ _ _ _ _ _ c.read.ensures c.for_c.ensures
