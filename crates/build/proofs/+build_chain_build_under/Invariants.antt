-- `build::build_chain` and `build::build_under` leave the tree of the rules in the first free cells. They call each other, and the number of fields left falls: the measures are twice that number, and one more for a chain. The loop's invariant is `Filled`: below the cells before `k` all stands.
-- Assumes nothing.
use Prim.Native.Nat.{◌+◌, ◌*◌}
use Rattle.build.proofs.Chains.{Filled}
use Rattle.build.proofs.+build_chain_build_under.Given as goal

abbrev pub invariant-build_under-loop-k : goal.invariant-build_under-loop-k
invariant-build_under-loop-k l = Filled l.base l.initial.words l.words l.initial.sets l.sets l.initial.ends l.ends l.n l.lowest l.c l.field l.left l.first l.k

abbrev pub decreases-build_chain : goal.decreases-build_chain
decreases-build_chain l = 2 * l.left + 1

abbrev pub decreases-build_under : goal.decreases-build_under
decreases-build_under l = 2 * l.left
