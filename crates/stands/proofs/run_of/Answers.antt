-- `stands::run_of` meets its contract. The invariant: the cells from `k` to `next` have the ends that the iterator has handed out.
-- Assumes nothing.
use Rattle.stands.proofs.Steps.{going_start, going_end, going_full, going_no, going_on}
use Rattle.stands.proofs.run_of.Goals as goal
use Rattle.stands.proofs.run_of.Goals.{then-c-next-via-then-c-next, then-c-next-via-else-c-next+then-not-head_is}

pub loop-end-init : goal.loop-end-init
loop-end-init c = rw (c.into_iter-end-iterator.ensures.into_iter_gives, c.rev-end-items.ensures.source, c.iter.ensures.rest) (going_start _ _ _ _ c.requires.1)

-- no cell is left, or the end or the next of a cell is wrong
pub returns-then-c-next : goal.returns-then-c-next
returns-then-c-next c =
    elim c.then-c-next.branch [
      | then-c-next-via-then-c-next w ↦ going_full c.loop-end.invariant _ _ c.in-Some.ensures.steps w.if-c-next.true
      | then-c-next-via-else-c-next+then-not-head_is w ↦ going_no c.loop-end.invariant _ _ c.in-Some.ensures.steps w.head_is.ensures w.if-not-head_is.true
    ]

pub loop-end-preserved : goal.loop-end-preserved
loop-end-preserved c = going_on c.loop-end.invariant _ _ c.in-Some.ensures.steps c.head_is.ensures c.if-c-next.false c.if-not-head_is.false

pub returns : goal.returns
returns c = going_end c.loop-end.invariant c.in-None.ensures.steps.0
