-- `lay::put_links` meets its contract. The invariant: the places passed are written. Assumes nothing.
use Rattle.blocks.proofs.Writing.{Linked}
use Rattle.lay.proofs.put_links.Given as goal

abbrev pub invariant-loop-j : goal.invariant-loop-j
invariant-loop-j l = Linked l.initial.words l.words l.above.first l.above.count l.below.first l.below.count l.j
