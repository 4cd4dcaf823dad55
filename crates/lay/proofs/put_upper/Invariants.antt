-- `lay::put_upper` meets its contract. The invariant: the lowest level that stands is right, and what is to be laid above it is the same. Assumes nothing.
use Rattle.blocks.proofs.Writing.{Climbs}
use Rattle.lay.proofs.put_upper.Given as goal

abbrev pub invariant-loop-above : goal.invariant-loop-above
invariant-loop-above l = Climbs l.initial.words l.words l.fn.chain.root l.fn.chain.lowest.first l.fn.chain.ends l.level.first l.level.count

abbrev pub decreases-loop-above : goal.decreases-loop-above
decreases-loop-above l = l.level.count
