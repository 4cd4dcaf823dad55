-- `blocks::blocks_for` meets its contract. The invariant: the levels passed are counted. Assumes nothing.
use Rattle.blocks.proofs.Writing.{Counts}
use Rattle.blocks.proofs.blocks_for.Given as goal

abbrev pub invariant-loop-level : goal.invariant-loop-level
invariant-loop-level l = Counts l.m l.level l.total

abbrev pub decreases-loop-level : goal.decreases-loop-level
decreases-loop-level l = l.level
