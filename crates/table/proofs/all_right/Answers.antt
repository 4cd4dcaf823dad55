-- `table::all_right` meets its contract. The invariant: the rules that are left decide.
-- Assumes nothing.
use native.Mathlib.Omega.{arith}
use mathlib.Core.Path.{sym, ◌∙◌}
use Rattle.table.specs.Rows.{kind_of}
use Rattle.table.proofs.Laws.{rules_done, all_wrong, all_on}
use Rattle.table.proofs.all_right.Goals as goal

pub returns-then-not-right : goal.returns-then-not-right
returns-then-not-right c =
    let l = c.loop-p in
    let a = c.args in
    sym (l.invariant ∙ all_wrong (kind_of a.shape.now) a.n a.rows.now l.p _ (omega arith) c.row_start.ensures.0 _ c.right.ensures c.if-not-right.true)

pub loop-p-preserved : goal.loop-p-preserved
loop-p-preserved c =
    let l = c.loop-p in
    let a = c.args in
    l.invariant ∙ all_on (kind_of a.shape.now) a.n a.rows.now l.p _ (omega arith) c.row_start.ensures.0 _ c.right.ensures c.if-not-right.false

pub returns : goal.returns
returns c =
    let l = c.loop-p in
    let a = c.args in
    sym (l.invariant ∙ rw (rules_done (kind_of a.shape.now) a.n a.rows.now l.p (omega arith)))
