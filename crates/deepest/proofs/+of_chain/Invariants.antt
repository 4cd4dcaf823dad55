-- `deepest::of_chain` meets its contract. It calls itself, and the number of fields left falls. The loop's invariant is `Going`.
-- Assumes nothing.
use Rattle.deepest.proofs.Steps.{Going}
use Rattle.deepest.proofs.+of_chain.Given as goal

abbrev pub invariant-loop-i : goal.invariant-loop-i
invariant-loop-i l = Going l.rows l.fn.sets l.fn.out l.sets l.ends l.out l.n l.field l.left l.own l.goal l.best l.i

abbrev pub decreases-of_chain : goal.decreases-of_chain
decreases-of_chain l = l.left
