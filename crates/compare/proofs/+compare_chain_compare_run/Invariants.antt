-- `compare::compare_chain` and `compare::compare_run` meet their contracts. They call each other, and the number of fields left falls: the measures are twice that number, and one more for a chain. The loop's invariant is `Comparing`: the run stands by its ends, and the cells from `k` to `i` stand with all that is below them, which ends before cell `b`.
-- Assumes nothing.
use Prim.Native.Nat.{◌+◌, ◌*◌}
use Rattle.compare.proofs.Turns.{Comparing}
use Rattle.compare.proofs.+compare_chain_compare_run.Given as goal

abbrev pub invariant-compare_run-loop-i : goal.invariant-compare_run-loop-i
invariant-compare_run-loop-i l = Comparing l.words l.c l.rules l.initial.sets l.sets l.initial.ends l.ends l.n l.field l.left l.k l.run l.i l.b

abbrev pub decreases-compare_chain : goal.decreases-compare_chain
decreases-compare_chain l = 2 * l.left + 1

abbrev pub decreases-compare_run : goal.decreases-compare_run
decreases-compare_run l = 2 * l.left
