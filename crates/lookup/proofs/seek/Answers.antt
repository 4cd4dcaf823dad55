-- `lookup::seek` meets its contract. The invariant: with c less the cells read still to read, the walk from here says what the whole walk of the field says.
-- Assumes nothing.
use Rattle.std.proofs.Common.{rules, arith, sym, ◌∙◌}
use Rattle.lookup.proofs.Steps.{seek_lost, seek_here, seek_next, seek_spent}
use Rattle.lookup.proofs.seek.Goals as goal

-- lost: a link outside the cells
pub returns-then-c-k : goal.returns-then-c-k
returns-then-c-k c = sym (c.loop-reads.invariant ∙ seek_lost _ _ _ _ _ _ (search rules))

-- down
pub returns-then-value-part : goal.returns-then-value-part
returns-then-value-part c = sym (c.loop-reads.invariant ∙ seek_here _ _ _ _ _ _ (omega arith) (search rules) (search rules))

-- the next cell
pub loop-reads-preserved : goal.loop-reads-preserved
loop-reads-preserved c = c.loop-reads.invariant ∙ seek_next _ _ _ _ _ _ _ (omega arith) (search rules) (search rules)

-- lost: c cells were read
pub returns : goal.returns
returns c = sym (c.loop-reads.invariant ∙ seek_spent _ _ _ _ _ _ (omega arith))
