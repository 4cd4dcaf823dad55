-- `reach::from_cell` meets its contract. The invariant: nothing is written, nothing is found before the rest of the chain. The measures are the fields that are left, and the cells that may still be read.
-- Assumes nothing.
use mathlib.Core.Path.{ap, ◌∙◌}
use mathlib.Core.Logic.{inl, inr}
use lib.ListN.{length, length-set}
use Rattle.search.proofs.Written.{some}
use Rattle.reach.proofs.Steps.{leaf, going_start, going_on, going_found, going_end}
use Rattle.reach.proofs.+from_cell.Goals as goal

pub returns-then-left-eq0 : goal.returns-then-left-eq0
returns-then-left-eq0 t c = leaf _ _ _ _ _ _ c.if-left-eq0.true c.requires.2

pub loop-n-init : goal.loop-n-init
loop-n-init t c = going_start _ _ _ _ _ _ (some _ c.if-left-eq0.false) c.requires.2

pub shape_of-out-then-c-i : goal.shape_of-out-then-c-i
shape_of-out-then-c-i t c = ap length c.loop-n.invariant.same

pub returns-then-c-i : goal.returns-then-c-i
returns-then-c-i t c = going_end _ _ _ _ _ _ _ _ _ _ c.loop-n.invariant (inl c.if-c-i.true)

pub shape_of-out-then-from_cell : goal.shape_of-out-then-from_cell
shape_of-out-then-from_cell t c = simp length-set (c.out-1.given.1 ∙ ap length c.loop-n.invariant.same)

pub returns-then-from_cell : goal.returns-then-from_cell
returns-then-from_cell t c = going_found _ _ _ _ _ _ _ _ _ _ c.loop-n.invariant c.loop-n-test.true c.if-c-i.false _ _ c.from_cell.ensures c.if-from_cell.true (some _ c.if-left-eq0.false) _ c.narrow.ensures

pub loop-n-preserved : goal.loop-n-preserved
loop-n-preserved t c = rw c.wide-low.ensures.0 (going_on _ _ _ _ _ _ _ _ _ _ c.loop-n.invariant c.loop-n-test.true c.if-c-i.false _ _ c.from_cell.ensures c.if-from_cell.false)

pub shape_of-out : goal.shape_of-out
shape_of-out t c = ap length c.loop-n.invariant.same

pub returns : goal.returns
returns t c = going_end _ _ _ _ _ _ _ _ _ _ c.loop-n.invariant (inr c.loop-n-test.false)
