-- `lay::clear` meets its contract. The invariant: the blocks passed are written. Assumes nothing.
use native.Mathlib.Omega.{arith}
use Rattle.blocks.specs.Blocks.{top_end}
use Rattle.blocks.proofs.Chains.{blanks_none, blanks_more}
use Rattle.lay.proofs.clear.Goals as goal

pub loop-j-init : goal.loop-j-init
loop-j-init c = blanks_none top_end 0 _ _

pub loop-j-preserved : goal.loop-j-preserved
loop-j-preserved c = blanks_more top_end 0 (omega arith) c.loop-j.invariant c.blank.ensures
