-- `levels::upper_is` meets its contract. The invariant: the levels passed are right, and what is to stand above them is the same.
-- Assumes nothing.
use Rattle.blocks.proofs.Writing.{Climbs}
use Rattle.levels.proofs.upper_is.Given as goal

abbrev pub invariant-loop-above : goal.invariant-loop-above
invariant-loop-above l = Climbs l.words l.words l.fn.chain.root l.fn.chain.lowest.first l.fn.chain.ends l.level.first l.level.count

abbrev pub decreases-loop-above : goal.decreases-loop-above
decreases-loop-above l = l.level.count
