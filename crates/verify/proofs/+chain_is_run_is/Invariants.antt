-- `verify::chain_is` and `verify::run_is` meet their contracts. They call each other, and the number of fields left falls: the measures are twice that number, and one more for a chain. The loop's invariant is `Looking`: the ends stand, the links of the first `i` of them, and what is below these, which ends before block `b`.
-- Assumes nothing.
use Prim.Native.Nat.{◌+◌, ◌*◌}
use Rattle.verify.proofs.Turns.{Looking}
use Rattle.verify.proofs.+chain_is_run_is.Given as goal

abbrev pub invariant-run_is-loop-i : goal.invariant-run_is-loop-i
invariant-run_is-loop-i l = Looking l.words l.rows l.initial.sets l.sets l.initial.ends l.ends l.n l.field l.left l.a l.chain.ends l.chain.lowest.first l.i l.b

abbrev pub decreases-chain_is : goal.decreases-chain_is
decreases-chain_is l = 2 * l.left + 1

abbrev pub decreases-run_is : goal.decreases-run_is
decreases-run_is l = 2 * l.left
