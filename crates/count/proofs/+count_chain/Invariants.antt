-- `count::count_chain` meets its contract. It calls itself, and the number of fields left falls. The loop's invariant is `Counted`.
-- Assumes nothing.
use Rattle.count.proofs.Counted.{Counted}
use Rattle.count.proofs.+count_chain.Given as goal

abbrev pub invariant-loop-i : goal.invariant-loop-i
invariant-loop-i l = Counted l.rows l.fn.sets l.sets l.ends l.n l.field l.left l.room l.count l.i

abbrev pub decreases-count_chain : goal.decreases-count_chain
decreases-count_chain l = l.left
