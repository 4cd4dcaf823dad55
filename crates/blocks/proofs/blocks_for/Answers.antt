-- `blocks::blocks_for` meets its contract. The invariant: the levels passed are counted. Assumes nothing.
use native.Mathlib.Omega.{arith}
use Rattle.blocks.proofs.Writing.{counts_start, counts_on, counts_done}
use Rattle.blocks.proofs.blocks_for.Goals as goal

pub loop-level-init : goal.loop-level-init
loop-level-init c = counts_start _ _ (omega (arith, c.div_ceil-level.ensures))

pub loop-level-preserved : goal.loop-level-preserved
loop-level-preserved c = counts_on _ _ _ c.loop-level.invariant c.loop-level-test.true _ (omega (arith, c.div_ceil-level-in-loop-level.ensures))

pub returns : goal.returns
returns c = counts_done _ _ _ c.loop-level.invariant c.loop-level-test.false
