-- `stands::run_of` meets its contract. The invariant: the cells from `k` to `next` have the ends that the iterator has handed out.
-- Assumes nothing.
use Rattle.stands.proofs.Steps.{Going}
use Rattle.stands.proofs.run_of.Given as goal

abbrev pub invariant-loop-end : goal.invariant-loop-end
invariant-loop-end l = Going l.words l.c l.ends l.k l.next l.head l.end-iterator.iter.rest.now
