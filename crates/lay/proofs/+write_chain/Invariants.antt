-- `lay::write_chain` meets its contract: the number of fields left falls with each call. The loop's invariant is `Turn`.
-- Assumes nothing.
use Rattle.std.specs.Iterator.Adapters.{enumerate_source, enumerate_count}
use Rattle.lay.specs.Chain.{cells_on}
use Rattle.lay.proofs.Turns.{Turn}
use Rattle.lay.proofs.+write_chain.Given as goal

abbrev pub invariant-loop-i : goal.invariant-loop-i
invariant-loop-i l =
    let s = enumerate_source l.i-iterator in
    (goal.iterator-loop-i).can_next l.i-iterator × (goal.iterator-loop-i).is_finite l.i-iterator
    × Turn l.part l.c l.left l.k l.a l.chain.ends l.lowest.count l.lowest.first l.initial.words l.words (enumerate_count l.i-iterator) (cells_on s.part.now s.c s.left s.next) l.b

abbrev pub decreases-write_chain : goal.decreases-write_chain
decreases-write_chain l = l.left
