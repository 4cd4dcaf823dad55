-- `build::build_run` leaves a run of all ends of the rules in the field.
-- Assumes nothing.
use Rattle.cells.proofs.Lent.{lent, laid_back}
use Rattle.build.proofs.build_run.Goals as goal

pub lay_run-requires : goal.lay_run-requires
lay_run-requires c = let written = rw c.of.ensures at c.ends_of-n.ensures.2 in rw (lent _ _ c.requires.0, written) c.requires.1

pub returns : goal.returns
returns c = let written = rw c.of.ensures at c.ends_of-n.ensures.2 in laid_back _ _ c.requires.0 (rw written at c.lay_run.ensures)
