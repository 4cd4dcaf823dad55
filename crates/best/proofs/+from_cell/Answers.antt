-- `best::from_cell` meets its contract. The invariant: what is found so far and the rest of the chain say what the whole says. The measures are the fields that are left, and the cells that may still be read.
-- Assumes nothing.
use Prim.Native.Nat.{◌+◌, ◌-◌, ◌<◌}
use mathlib.Core.Path.{sym, ◌∙◌}
use mathlib.Core.Logic.{inl, inr}
use native.Mathlib.Omega.{arith}
use borrow.Author.Rules.{rules}
use Rattle.search.proofs.Written.{some}
use Rattle.best.proofs.Steps.{leaf_met, leaf_not, going_start, going_better, going_worse, going_end, ask_some, got_small}
use Rattle.best.proofs.+from_cell.Goals as goal
use Rattle.best.proofs.+from_cell.Goals.{then-under-got, else-under-got}

pub returns-then-goal-le1 : goal.returns-then-goal-le1
returns-then-goal-le1 t c = leaf_met _ _ _ _ _ _ c.if-left-eq0.true c.requires.3 c.if-goal-le1.true

pub returns-then-left-eq0 : goal.returns-then-left-eq0
returns-then-left-eq0 t c = leaf_not _ _ _ _ _ _ c.if-left-eq0.true c.if-goal-le1.false

pub loop-n-init : goal.loop-n-init
loop-n-init t c = let p = c.requires in going_start _ _ _ _ _ _ (some _ c.if-left-eq0.false) p.3 p.4

pub shape_of-out-then-c-i : goal.shape_of-out-then-c-i
shape_of-out-then-c-i t c = c.loop-n.invariant.size ∙ sym c.requires.3

pub returns-then-c-i : goal.returns-then-c-i
returns-then-c-i t c = going_end _ _ _ _ _ _ _ _ _ _ _ c.loop-n.invariant (inl c.if-c-i.true)

pub overflow_cast-at : goal.overflow_cast-at
overflow_cast-at t c = omega (arith, c.if-c-i.false, c.well_formed)

pub overflow_mul-at : goal.overflow_mul-at
overflow_mul-at t c = omega (arith, c.if-c-i.false, c.well_formed)

pub overflow_add-at : goal.overflow_add-at
overflow_add-at t c = omega (arith, c.if-c-i.false, c.well_formed)

pub overflow_add-below : goal.overflow_add-below
overflow_add-below t c = omega (arith, c.if-c-i.false, c.well_formed)

pub offset_bounds-part-at : goal.offset_bounds-part-at
offset_bounds-part-at t c = omega (arith, c.if-c-i.false, c.well_formed)

pub bounds-part-at : goal.bounds-part-at
bounds-part-at t c = omega (arith, c.if-c-i.false, c.requires)

pub overflow_add-n : goal.overflow_add-n
overflow_add-n t c = omega (arith, c.loop-n-test.true, c.well_formed)

pub overflow_sub-left : goal.overflow_sub-left
overflow_sub-left t c = omega (arith, c.if-left-eq0.false)

pub slice_bounds-from_cell-count : goal.slice_bounds-from_cell-count
slice_bounds-from_cell-count t c = omega (arith, c.loop-n.invariant.size, c.if-left-eq0.false)

pub slice_bounds-from_cell-start : goal.slice_bounds-from_cell-start
slice_bounds-from_cell-start t c = omega (arith, c.loop-n.invariant.size, c.if-left-eq0.false)

pub from_cell-got-requires : goal.from_cell-got-requires
from_cell-got-requires t c =
    let l = c.loop-n in
    let p : 0 < c.ask-under.result = rw c.ask-under.ensures (ask_some l.next (l.n + 1)) in
    search rules

pub overflow_add-next : goal.overflow_add-next
overflow_add-next t c =
    let p = c.requires in
    omega (arith, got_small _ _ _ _ _ _ _ _ _ _ _ c.loop-n.invariant c.loop-n-test.true c.if-c-i.false _ c.ask-under.ensures _ _ c.from_cell-got.ensures p.1 p.2 c.if-under-got.true)

pub bounds-out-0 : goal.bounds-out-0
bounds-out-0 t c = omega (arith, c.out-1.given, c.loop-n.invariant.size, c.if-left-eq0.false)

pub offset_bounds-part-at-in-loop-n : goal.offset_bounds-part-at-in-loop-n
offset_bounds-part-at-in-loop-n t c = omega (arith, c.if-c-i.false, c.well_formed)

pub bounds-part-at-in-loop-n : goal.bounds-part-at-in-loop-n
bounds-part-at-in-loop-n t c = omega (arith, c.if-c-i.false, c.requires)

pub overflow_add-low : goal.overflow_add-low
overflow_add-low t c = omega (arith, c.wide-low.ensures)

pub overflow_add-i : goal.overflow_add-i
overflow_add-i t c = omega (arith, c.if-c-i.false, c.well_formed)

pub offset_bounds-part-at-in-loop-n-2 : goal.offset_bounds-part-at-in-loop-n-2
offset_bounds-part-at-in-loop-n-2 t c = omega (arith, c.if-c-i.false, c.well_formed)

pub bounds-part-at-in-loop-n-2 : goal.bounds-part-at-in-loop-n-2
bounds-part-at-in-loop-n-2 t c = omega (arith, c.if-c-i.false, c.requires)

pub loop-n-smaller : goal.loop-n-smaller
loop-n-smaller t c = omega (arith, c.loop-n-test.true)

pub loop-n-preserved : goal.loop-n-preserved
loop-n-preserved t c =
    (elim c.if-under-got.branch [
      | then-under-got w ↦ rw (w.out-is, w.next-is, c.wide-low.ensures.0)
          (going_better _ _ _ _ _ _ _ _ _ _ _ c.loop-n.invariant c.loop-n-test.true c.if-c-i.false _ c.ask-under.ensures _ _ c.from_cell-got.ensures w.if-under-got.true (some _ c.if-left-eq0.false) (c.out-1.given.1 ∙ c.loop-n.invariant.size) _ w.narrow.ensures)
      | else-under-got w ↦ rw (w.out-is, w.next-is, c.wide-low.ensures.0)
          (going_worse _ _ _ _ _ _ _ _ _ _ _ c.loop-n.invariant c.loop-n-test.true c.if-c-i.false _ c.ask-under.ensures _ _ c.from_cell-got.ensures w.if-under-got.false)
    ])

pub shape_of-out : goal.shape_of-out
shape_of-out t c = c.loop-n.invariant.size ∙ sym c.requires.3

pub returns : goal.returns
returns t c = going_end _ _ _ _ _ _ _ _ _ _ _ c.loop-n.invariant (inr c.loop-n-test.false)
