-- `front::write_head` meets its contract. The invariant: the words up to word i are written.
-- Assumes nothing.
use Prim.Native.Nat.{◌≤◌, ◌-◌}
use mathlib.Core.Path.{◌≡◌}
use mathlib.Core.List.{◌∷◌}
use lib.ListN.{length, take, replicate}
use Rattle.front.proofs.write_head.Given as goal

abbrev pub invariant-loop-i : goal.invariant-loop-i
invariant-loop-i l = (3 ≤ l.i) × (l.i ≤ length l.head) × (length l.head ≡ length l.initial.head) × (take l.i l.head ≡ l.c ∷ l.n ∷ l.mark ∷ replicate (l.i - 3) 0)
