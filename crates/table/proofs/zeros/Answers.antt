-- `table::zeros` meets its contract. The invariant: every word so far is 0.
-- Assumes nothing.
use native.Mathlib.Omega.{arith}
use Rattle.table.proofs.Laws.{says_yes, says_no, zeros_more}
use Rattle.table.proofs.zeros.Goals as goal

pub returns-then-rows-i-ne0 : goal.returns-then-rows-i-ne0
returns-then-rows-i-ne0 c =
    let l = c.loop-i in
    says_no (λ h. c.if-rows-i-ne0.true (h l.i (omega arith) (omega arith)))

pub loop-i-preserved : goal.loop-i-preserved
loop-i-preserved c =
    let l = c.loop-i in
    let a = c.args in
    zeros_more a.rows.now a.from l.i l.invariant c.if-rows-i-ne0.false

pub returns : goal.returns
returns c = says_yes (λ j a b. c.loop-i.invariant j a (omega arith))
