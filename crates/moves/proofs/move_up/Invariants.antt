-- `moves::move_up` meets its contract. The invariant: from word i on the words are moved.
-- Assumes nothing.
use Prim.Native.Nat.{◌≤◌, ◌+◌}
use Rattle.moves.proofs.Copies.{Rising}
use Rattle.moves.proofs.move_up.Given as goal

abbrev pub invariant-loop-i : goal.invariant-loop-i
invariant-loop-i l = (l.at + l.width ≤ l.i) × Rising l.initial.rows l.rows l.width l.i
