-- `table::right` meets its contract: a rule of a row is right by its ranges and its ports.
-- Assumes nothing.
use mathlib.Core.Path.{sym, ◌∙◌}
use Rattle.table.specs.Rows.{kind_with}
use Rattle.table.proofs.Laws.{rule_right_lem}
use Rattle.table.proofs.right.Goals as goal

pub returns-then-not-ranges_right : goal.returns-then-not-ranges_right
returns-then-not-ranges_right c =
    let a = c.args in
    λ most width head mark. sym (rule_right_lem (kind_with a.tops.now a.ports most width head mark) a.rows.now a.place ∙ rw (sym c.ranges_right.ensures ∙ c.if-not-ranges_right.true))

pub returns : goal.returns
returns c =
    let a = c.args in
    λ most width head mark. c.ports_right.ensures most width head mark ∙ sym (rule_right_lem (kind_with a.tops.now a.ports most width head mark) a.rows.now a.place ∙ rw (sym c.ranges_right.ensures ∙ c.if-not-ranges_right.false))
