-- `table::blank` meets its contract. The invariant: every row so far is blank.
-- Assumes nothing.
use mathlib.Core.Bool.{not}
use mathlib.Core.Path.{ap}
use native.Mathlib.Omega.{arith}
use Rattle.model.proofs.Grid.{row_ends}
use Rattle.table.proofs.Laws.{says_yes, says_no, said_yes, said_no, blank_on, blank_not}
use Rattle.table.proofs.blank.Goals as goal

pub zeros-requires : goal.zeros-requires
zeros-requires c = (omega arith, omega (arith, c.row_start-at.ensures.0, c.requires.3, row_ends c.args.shape.now.width c.loop-p.p c.args.to (omega arith)))

pub returns-then-not-zeros : goal.returns-then-not-zeros
returns-then-not-zeros c =
    let l = c.loop-p in
    let a = c.args in
    says_no (blank_not a.shape.now.width a.rows.now a.used _ l.p c.row_start-at.ensures.0 a.from a.to (omega arith) (omega arith) (said_no c.zeros.result c.zeros.ensures (ap not c.if-not-zeros.true)))

pub loop-p-preserved : goal.loop-p-preserved
loop-p-preserved c =
    let l = c.loop-p in
    let a = c.args in
    blank_on a.shape.now.width a.rows.now a.used _ l.p c.row_start-at.ensures.0 a.from l.invariant (said_yes c.zeros.result c.zeros.ensures (ap not c.if-not-zeros.false))

pub returns : goal.returns
returns c = says_yes (λ p j a b. c.loop-p.invariant p j a (omega arith))
