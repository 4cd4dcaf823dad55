-- `moves::take_out` meets its contract: an invariant.
-- Assumes nothing.
use native.Mathlib.Omega.{arith}
use Rattle.moves.proofs.Copies.{sunk}
use Rattle.moves.proofs.take_out.Goals as goal

pub returns : goal.returns
returns c = let l = c.loop-i in sunk l.invariant l.auto.rows (omega (arith, l.auto.rows, l.auto.i-end))
