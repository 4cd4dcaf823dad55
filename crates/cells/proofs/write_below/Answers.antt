-- `cells::write_below` leaves two words of the part written, and the rules. Assumes nothing.
use native.Mathlib.Omega.{arith}
use Rattle.cells.proofs.Lent.{hangs_at}
use Rattle.cells.proofs.write_below.Goals as goal

pub returns : goal.returns
returns c = hangs_at _ _ _ _ _ _ (omega arith) (omega arith)
