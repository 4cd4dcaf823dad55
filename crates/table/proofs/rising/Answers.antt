-- `table::rising` meets its contract. The invariant: the rules that are left decide.
-- Assumes nothing.
use native.Mathlib.Omega.{arith}
use mathlib.Core.Path.{sym, ◌∙◌}
use Rattle.table.specs.Rows.{kind_of}
use Rattle.table.proofs.Laws.{rules_done, rising_low, rising_high, rising_on}
use Rattle.table.proofs.rising.Goals as goal

pub returns-then-x-least : goal.returns-then-x-least
returns-then-x-least c =
    let l = c.loop-p in
    let a = c.args in
    sym (l.invariant ∙ rising_low (kind_of a.shape.now) a.n a.rows.now l.p _ _ (omega arith) c.row_start.ensures.0 (rw c.of-table.ensures at c.number-x.ensures) l.least c.if-x-least.true)

pub returns-then-x-gt65534 : goal.returns-then-x-gt65534
returns-then-x-gt65534 c =
    let l = c.loop-p in
    let a = c.args in
    sym (l.invariant ∙ rising_high (kind_of a.shape.now) a.n a.rows.now l.p _ _ (omega arith) c.row_start.ensures.0 (rw c.of-table.ensures at c.number-x.ensures) l.least c.if-x-least.false c.if-x-gt65534.true)

pub loop-p-preserved : goal.loop-p-preserved
loop-p-preserved c =
    let l = c.loop-p in
    let a = c.args in
    l.invariant ∙ rising_on (kind_of a.shape.now) a.n a.rows.now l.p _ _ (omega arith) c.row_start.ensures.0 (rw c.of-table.ensures at c.number-x.ensures) l.least c.if-x-least.false c.if-x-gt65534.false

pub returns : goal.returns
returns c =
    let l = c.loop-p in
    let a = c.args in
    sym (l.invariant ∙ rw (rules_done (kind_of a.shape.now) a.n a.rows.now l.p (omega arith)))
