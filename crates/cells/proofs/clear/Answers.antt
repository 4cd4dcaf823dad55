-- `cells::clear` leaves the part of a store with no tree. The loop's invariant: the cells from `cell` on are the free chain, and zeros stand before them. Assumes nothing.
use native.Mathlib.Omega.{arith}
use Rattle.cells.proofs.Runs.{back_room}
use Rattle.cells.proofs.Blank.{clear_start, clear_turn, clear_next, clear_end}
use Rattle.cells.proofs.clear.Goals as goal

pub loop-cell-init : goal.loop-cell-init
loop-cell-init c = let p = c.requires in clear_start _ _ _ (c.fill.ensures.after (λ y e. e)) p.0 p.1

pub give_cell-requires : goal.give_cell-requires
give_cell-requires c = back_room (clear_turn c.loop-cell.invariant c.loop-cell-test.true)

pub loop-cell-preserved : goal.loop-cell-preserved
loop-cell-preserved c = rw c.give_cell.ensures (clear_next c.loop-cell.invariant c.loop-cell-test.true (omega (arith, c.loop-cell.auto.cell)))

pub returns : goal.returns
returns c = clear_end c.loop-cell.invariant (omega (arith, c.loop-cell-test.false))
