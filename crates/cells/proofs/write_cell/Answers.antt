-- `cells::write_cell` leaves the four words written. Assumes nothing.
use native.Mathlib.Nat.{add-zero}
use Rattle.cells.proofs.write_cell.Goals as goal

pub returns : goal.returns
returns c = simp add-zero
