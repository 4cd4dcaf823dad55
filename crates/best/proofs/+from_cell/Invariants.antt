-- `best::from_cell` meets its contract. The invariant: what is found so far and the rest of the chain say what the whole says. The measures are the fields that are left, and the cells that may still be read.
-- Assumes nothing.
use Prim.Native.Nat.{◌-◌}
use Rattle.best.proofs.Steps.{Going}
use Rattle.best.proofs.+from_cell.Given as goal

abbrev pub invariant-loop-n : goal.invariant-loop-n
invariant-loop-n l = Going l.part l.c l.left l.k l.goal l.initial.out l.out l.next l.i l.n l.low

abbrev pub decreases-loop-n : goal.decreases-loop-n
decreases-loop-n l = l.c - l.n

abbrev pub decreases-from_cell : goal.decreases-from_cell
decreases-from_cell l = l.left
