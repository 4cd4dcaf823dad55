-- `moves::take_out` meets its contract. The invariant: up to word i the words are moved.
-- Assumes nothing.
use Prim.Native.Nat.{◌-◌}
use Rattle.moves.proofs.Copies.{Sinking}
use Rattle.moves.proofs.take_out.Given as goal

abbrev pub invariant-loop-i : goal.invariant-loop-i
invariant-loop-i l = Sinking l.initial.rows l.rows l.width l.at l.i
