-- `lay::count_chain` meets its contract: the number of fields left falls with each call. The loop's invariant is `Counted`.
-- Assumes nothing.
use native.Mathlib.Omega.{arith}
use native.Mathlib.Nat.{pos_of_ne-zero}
use Rattle.lay.proofs.Turns.{none_left, last_left, counted_start, counted_done, counted_in, counted_room, counted_on}
use Rattle.lay.proofs.+count_chain.Goals as goal

pub returns-then-left-eq0 : goal.returns-then-left-eq0
returns-then-left-eq0 t c = none_left _ _ _ _ c.if-left-eq0.true

pub returns-then-left-eq1 : goal.returns-then-left-eq1
returns-then-left-eq1 t c = last_left _ _ _ _ c.if-left-eq1.true c.chain_length-m.ensures.0 c.blocks_for-total.ensures

pub loop-cell-init : goal.loop-cell-init
loop-cell-init t c =
    let e = c.chain_at-cell-items.ensures in
    (tt, tt, rw (c.into_iter-cell-iterator.ensures.into_iter_gives, e.0, e.1, e.2, e.3) (counted_start _ _ _ _ _ _ (pos_of_ne-zero c.if-left-eq0.false) c.requires.3 c.chain_length-m.ensures.0 c.blocks_for-total.ensures))

pub word_of-requires : goal.word_of-requires
word_of-requires t c = omega (arith, counted_in _ _ _ _ _ c.loop-cell.invariant.2 c.in-Some.ensures.steps)

pub count_chain-below-requires : goal.count_chain-below-requires
count_chain-below-requires t c =
    let o = c.loop-cell.invariant.2 in
    (omega (arith, o.some), (c.requires.0, c.requires.1, omega arith, rw c.word_of.ensures (omega (arith, counted_room _ _ _ _ _ o c.in-Some.ensures.steps))))

pub overflow_add-total : goal.overflow_add-total
overflow_add-total t c = omega (arith, counted_room _ _ _ _ _ c.loop-cell.invariant.2 c.in-Some.ensures.steps, rw c.word_of.ensures at c.count_chain-below.ensures)

pub loop-cell-preserved : goal.loop-cell-preserved
loop-cell-preserved t c = (tt, tt, counted_on _ _ _ _ _ c.loop-cell.invariant.2 c.in-Some.ensures.steps _ (rw c.word_of.ensures at c.count_chain-below.ensures))

pub returns : goal.returns
returns t c = counted_done _ _ _ _ _ c.loop-cell.invariant.2 c.in-None.ensures.steps.0
