-- `table::ranges_right` meets its contract. The invariant: the fields that are left decide.
-- Assumes nothing.
use native.Mathlib.Omega.{arith}
use mathlib.Core.Path.{sym, ◌∙◌}
use borrow.Author.Rules.{rules}
use Rattle.table.proofs.Laws.{right_end, right_crossed, right_above, right_on}
use Rattle.table.proofs.ranges_right.Goals as goal

pub returns-then-end-low : goal.returns-then-end-low
returns-then-end-low c =
    let l = c.loop-top in
    let a = c.args in
    sym (l.invariant.1 ∙ right_crossed a.rows.now a.place a.tops.now l.f _ _ (omega arith) (rw c.of-table.ensures at c.low.ensures) (rw c.of-table.ensures at c.high-end.ensures) c.if-end-low.true)

pub returns-then-top-end : goal.returns-then-top-end
returns-then-top-end c =
    let l = c.loop-top in
    let a = c.args in
    sym (l.invariant.1 ∙ right_above a.rows.now a.place a.tops.now l.f _ _ (omega arith) (rw c.of-table.ensures at c.low.ensures) (rw c.of-table.ensures at c.high-end.ensures) c.if-end-low.false (rw (sym l.invariant.0) at c.if-top-end.true))

pub loop-top-preserved : goal.loop-top-preserved
loop-top-preserved c =
    let l = c.loop-top in
    let a = c.args in
    (search rules, l.invariant.1 ∙ right_on a.rows.now a.place a.tops.now l.f _ _ (omega arith) (rw c.of-table.ensures at c.low.ensures) (rw c.of-table.ensures at c.high-end.ensures) c.if-end-low.false (rw (sym l.invariant.0) at c.if-top-end.false))

pub returns : goal.returns
returns c =
    let l = c.loop-top in
    let a = c.args in
    sym (l.invariant.1 ∙ right_end a.rows.now a.place a.tops.now l.f (omega arith))
