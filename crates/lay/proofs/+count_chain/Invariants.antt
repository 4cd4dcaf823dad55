-- `lay::count_chain` meets its contract: the number of fields left falls with each call. The loop's invariant is `Counted`.
-- Assumes nothing.
use Rattle.lay.specs.Chain.{cells_on}
use Rattle.lay.proofs.Turns.{Counted}
use Rattle.lay.proofs.+count_chain.Given as goal

abbrev pub invariant-loop-cell : goal.invariant-loop-cell
invariant-loop-cell l =
    let s = l.cell-iterator in
    (goal.iterator-loop-cell).can_next s × (goal.iterator-loop-cell).is_finite s × Counted l.part l.c l.left l.k l.m (cells_on s.part.now s.c s.left s.next) l.total

abbrev pub decreases-count_chain : goal.decreases-count_chain
decreases-count_chain l = l.left
