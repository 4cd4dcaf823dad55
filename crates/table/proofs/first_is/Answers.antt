-- `table::first_is` meets its contract. The invariant: every word so far is the default's.
-- Assumes nothing.
use mathlib.Core.Path.{sym, ◌∙◌}
use native.Mathlib.Omega.{arith}
use Rattle.table.specs.Rows.{kind_of}
use Rattle.table.proofs.Laws.{says_yes, says_no, first_more}
use Rattle.table.proofs.first_is.Goals as goal

pub loop-j-init : goal.loop-j-init
loop-j-init c = λ i h. absurd (omega arith)

pub returns-then-rows-j : goal.returns-then-rows-j
returns-then-rows-j c = says_no (λ h. c.if-rows-j.true (h c.loop-j.j c.loop-j-test.true ∙ sym c.default_word.ensures))

pub loop-j-preserved : goal.loop-j-preserved
loop-j-preserved c =
    let l = c.loop-j in
    let a = c.args in
    first_more (kind_of a.shape.now) a.rows.now l.j l.invariant (c.if-rows-j.false ∙ c.default_word.ensures)

pub returns : goal.returns
returns c = says_yes (λ j b. c.loop-j.invariant j (omega (arith, c.loop-j-test.false)))
