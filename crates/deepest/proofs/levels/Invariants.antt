-- `deepest::levels` meets its contract. The invariant: the levels passed are counted. Assumes nothing.
use Rattle.deepest.proofs.Steps.{Passed}
use Rattle.deepest.proofs.levels.Given as goal

abbrev pub invariant-loop-left : goal.invariant-loop-left
invariant-loop-left l = Passed l.m l.n l.left

abbrev pub decreases-loop-left : goal.decreases-loop-left
decreases-loop-left l = l.left
