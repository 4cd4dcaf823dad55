-- `moves::copy` meets its contract. The invariants: the words are copied as far as there are any, and then zeros are written.
-- Assumes nothing.
use Prim.Native.Nat.{◌-◌}
use Rattle.table.specs.Rows.{Copied}
use Rattle.moves.proofs.copy.Given as goal

abbrev pub invariant-loop-i : goal.invariant-loop-i
invariant-loop-i l = Copied l.from l.start l.initial.out l.out l.at l.i
