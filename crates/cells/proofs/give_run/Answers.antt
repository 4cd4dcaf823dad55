-- `cells::give_run` leaves all cells of the run free. The loop's invariant: what is left of the run stands in front of the free cells, and together they are as many as before. The measure is the first free cell, which comes down.
-- Assumes nothing.
use mathlib.Core.Path.{refl}
use native.Mathlib.Omega.{arith}
use Rattle.cells.proofs.Runs.{lasts, back_room, back_less, given, all_given}
use Rattle.cells.proofs.give_run.Goals as goal

pub loop-k-init : goal.loop-k-init
loop-k-init c = λ a n q s b. record { n = n; s = s; rows = b; sum = refl }

pub word_of-next-requires : goal.word_of-next-requires
word_of-next-requires c = let r = c.requires in omega (arith, back_room (lasts (c.loop-k.invariant r.a r.n r.q r.s r.rows) c.loop-k-test.true).state)

pub give_cell-requires : goal.give_cell-requires
give_cell-requires c = let r = c.requires in back_room (lasts (c.loop-k.invariant r.a r.n r.q r.s r.rows) c.loop-k-test.true).state

pub loop-k-smaller : goal.loop-k-smaller
loop-k-smaller c = let r = c.requires in rw c.give_cell.ensures (back_less (lasts (c.loop-k.invariant r.a r.n r.q r.s r.rows) c.loop-k-test.true).state)

pub loop-k-preserved : goal.loop-k-preserved
loop-k-preserved c = λ a n q s b. rw (c.give_cell.ensures, c.word_of-next.ensures) (given (lasts (c.loop-k.invariant a n q s b) c.loop-k-test.true))

pub returns : goal.returns
returns c = λ a n q s b. all_given (c.loop-k.invariant a n q s b) c.loop-k-test.false
