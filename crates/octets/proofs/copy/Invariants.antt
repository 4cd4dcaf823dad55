-- `octets::copy` meets its contract. The invariant: so far the first i bytes were copied.
-- Assumes nothing.
use mathlib.Core.Path.{◌≡◌}
use Prim.Native.Nat.{◌≤◌}
use lib.ListN.{length}
use lib.Seq.{paste}
use Rattle.octets.proofs.copy.Given as goal

abbrev pub invariant-loop-i : goal.invariant-loop-i
invariant-loop-i l = (l.i ≤ length l.from) × (length l.to ≡ length l.initial.to) × (l.to ≡ paste l.initial.to l.at l.from l.i)
