-- `decide::delete_from` meets its contract: one law for each answer.
-- Assumes nothing.
use mathlib.Core.Path.{sym, ◌∙◌}
use Rattle.table.specs.Rows.{kind_of, table_in}
use Rattle.decide.proofs.Answers.{gone_1, gone_4, gone_0}
use Rattle.decide.proofs.delete_from.Goals as goal

-- the number is too high
pub returns-then-number-gt65534 : goal.returns-then-number-gt65534
returns-then-number-gt65534 c =
    let a = c.args in
    (gone_1 a.number (table_in (kind_of a.shape.now) a.n a.rows.now) c.if-number-gt65534.true, tt)

-- it does not stand
pub returns-then-not-stands_behind : goal.returns-then-not-stands_behind
returns-then-not-stands_behind c =
    let a = c.args in
    (gone_4 a.number (table_in (kind_of a.shape.now) a.n a.rows.now) c.if-number-gt65534.false (sym c.stands_behind.ensures ∙ c.if-not-stands_behind.true), tt)

-- it does
pub returns : goal.returns
returns c =
    let a = c.args in
    (gone_0 a.number (table_in (kind_of a.shape.now) a.n a.rows.now) c.if-number-gt65534.false (sym c.stands_behind.ensures ∙ c.if-not-stands_behind.false), c.before-place.ensures.0)
