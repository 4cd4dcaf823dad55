-- `blocks::Chain::at` meets its contract: the lowest level is among the chain's blocks. Assumes nothing.
use native.Mathlib.Omega.{arith}
use Rattle.blocks.specs.Blocks.{depth}
use Rattle.blocks.proofs.Levels.{few_blocks}
use Rattle.blocks.proofs.Writing.{size_parts}
use Rattle.blocks.proofs.Chain.at.Goals as goal

pub overflow_add-first : goal.overflow_add-first
overflow_add-first c = omega (arith, few_blocks c.args.ends, c.blocks_for.ensures)

pub overflow_sub-first : goal.overflow_sub-first
overflow_sub-first c = omega (arith, size_parts (depth c.args.ends) c.args.ends, c.blocks_for.ensures)

pub invariant_of-result : goal.invariant_of-result
invariant_of-result c = record { size = omega arith; total = omega (arith, size_parts (depth c.args.ends) c.args.ends, c.blocks_for.ensures) }
