-- `cells::end_of` answers the end of a cell of the part. Assumes nothing.
use Rattle.cells.proofs.Lent.{end_at_lem}
use Rattle.cells.proofs.end_of.Goals as goal

pub returns : goal.returns
returns c = let a = c.args in end_at_lem a.base a.words.now a.k
