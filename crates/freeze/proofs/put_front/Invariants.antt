-- `freeze::put_front` meets its contract. The invariant: the words passed are written. Assumes nothing.
use Rattle.freeze.proofs.Front.{Fronted}
use Rattle.freeze.proofs.put_front.Given as goal

abbrev pub invariant-loop-i : goal.invariant-loop-i
invariant-loop-i l = Fronted l.front l.words l.i
