-- `reach::from_cell` meets its contract. The invariant: nothing is written, nothing is found before the rest of the chain. The measures are the fields that are left, and the cells that may still be read.
-- Assumes nothing.
use Prim.Native.Nat.{◌-◌}
use Rattle.reach.proofs.Steps.{Going}
use Rattle.reach.proofs.+from_cell.Given as goal

abbrev pub invariant-loop-n : goal.invariant-loop-n
invariant-loop-n l = Going l.place l.part l.c l.left l.k l.initial.out l.out l.i l.n l.low

abbrev pub decreases-loop-n : goal.decreases-loop-n
decreases-loop-n l = l.c - l.n

abbrev pub decreases-from_cell : goal.decreases-from_cell
decreases-from_cell l = l.left
