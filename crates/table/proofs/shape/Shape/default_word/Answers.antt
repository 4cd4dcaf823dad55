-- `table::default_word` meets its contract.
-- Assumes nothing.
use mathlib.Core.Path.{sym, ◌∙◌}
use Rattle.table.specs.Rows.{kind_of}
use Rattle.table.proofs.Laws.{row_number, row_action, default_low, default_high}
use Rattle.table.proofs.shape.Shape.default_word.Goals as goal

pub returns-then-j-eq0 : goal.returns-then-j-eq0
returns-then-j-eq0 c = rw c.if-j-eq0.true (sym (row_number _))

pub returns-then-j-eq1 : goal.returns-then-j-eq1
returns-then-j-eq1 c = rw c.if-j-eq1.true (sym (row_action _))

pub returns-then-j-eq0-2 : goal.returns-then-j-eq0-2
returns-then-j-eq0-2 c = let a = c.args in sym (default_low (kind_of a.self.now) a.action a.j c.if-j-eq0.false c.if-j-eq1.false c.if-j-eq0-2.true)

pub returns : goal.returns
returns c = let a = c.args in c.word.ensures ∙ sym (default_high (kind_of a.self.now) a.action a.j c.if-j-eq0.false c.if-j-eq1.false c.if-j-eq0-2.false)
