-- `stands::last_is` meets its contract. The invariant: the cells from `k` to `i` stand, and nothing is below them.
-- Assumes nothing.
use Rattle.stands.proofs.Steps.{Compared}
use Rattle.stands.proofs.last_is.Given as goal

abbrev pub invariant-loop-i : goal.invariant-loop-i
invariant-loop-i l = Compared l.words l.c l.rules l.set l.field 1 l.k l.run l.i l.run.past
