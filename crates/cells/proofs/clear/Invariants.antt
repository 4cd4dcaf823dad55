-- `cells::clear` leaves the part of a store with no tree. The loop's invariant: the cells from `cell` on are the free chain, and zeros stand before them. Assumes nothing.
use Rattle.cells.proofs.Blank.{Clearing}
use Rattle.cells.proofs.clear.Given as goal

abbrev pub invariant-loop-cell : goal.invariant-loop-cell
invariant-loop-cell l = Clearing l.words l.c l.cell
