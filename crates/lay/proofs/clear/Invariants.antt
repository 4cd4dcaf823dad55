-- `lay::clear` meets its contract. The invariant: the blocks passed are written. Assumes nothing.
use Rattle.blocks.specs.Blocks.{top_end}
use Rattle.blocks.specs.Written.{Level}
use Rattle.lay.proofs.clear.Given as goal

abbrev pub invariant-loop-j : goal.invariant-loop-j
invariant-loop-j l = Level l.initial.words l.words l.level.first l.j (λ i. top_end) (λ i. 0)
