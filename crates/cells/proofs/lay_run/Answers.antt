-- `cells::lay_run` leaves a run of the ends. The loop's invariant: the run of the ends that the iterator has handed out stands.
-- Assumes nothing.
use native.Mathlib.Omega.{arith}
use lib.ListN.{length-set}
use Rattle.cells.proofs.Lay.{laying, lay_room, lay_built, laid}
use Rattle.cells.proofs.lay_run.Goals as goal

pub loop-end-init : goal.loop-end-init
loop-end-init c = λ a n q s. rw (c.into_iter-end-iterator.ensures.into_iter_gives, c.rev-end-items.ensures.source, c.iter.ensures.rest) (laying _ s)

pub take_cell-k-requires : goal.take_cell-k-requires
take_cell-k-requires c = let r = c.requires in omega (arith, lay_room (c.loop-end.invariant r.a r.more r.q r.state) _ _ c.in-Some.ensures.steps)

pub write_cell-requires : goal.write_cell-requires
write_cell-requires c = let r = c.requires in rw (c.take_cell-k.ensures.1, c.take_cell-k.ensures.0) (simp length-set (lay_room (c.loop-end.invariant r.a r.more r.q r.state) _ _ c.in-Some.ensures.steps))

pub loop-end-preserved : goal.loop-end-preserved
loop-end-preserved c = λ a n q s. rw (c.write_cell.ensures, c.take_cell-k.ensures.1, c.take_cell-k.ensures.0) (lay_built (c.loop-end.invariant a n q s) _ _ c.in-Some.ensures.steps)

pub returns : goal.returns
returns c = λ a n q s. laid (c.loop-end.invariant a n q s) c.in-None.ensures.steps.0
