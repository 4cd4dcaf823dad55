-- `table::ports_right` meets its contract: the range of the mark, or those of the two ports.
-- Assumes nothing.
use Rattle.table.specs.Rows.{kind_with}
use Rattle.table.proofs.Laws.{mark_none, first_narrow, by_second}
use Rattle.table.proofs.ports_right.Goals as goal

-- 0 to 0 in the mark
pub returns-then-asks : goal.returns-then-asks
returns-then-asks c = let a = c.args in λ most width head mark. mark_none (kind_with a.tops.now a.ports most width head mark) c.requires.1 a.rows.now a.place c.asks.ensures c.if-asks.true

-- the destination port is narrow
pub returns-then-not-asks : goal.returns-then-not-asks
returns-then-not-asks c =
    let a = c.args in
    λ most width head mark. first_narrow (kind_with a.tops.now a.ports most width head mark) c.requires.1 a.rows.now a.place c.asks.ensures c.if-asks.false c.word.ensures c.asks-2.ensures c.if-not-asks.true

-- it is full: the source port says
pub returns : goal.returns
returns c =
    let a = c.args in
    λ most width head mark. by_second (kind_with a.tops.now a.ports most width head mark) c.requires.1 a.rows.now a.place c.asks.ensures c.if-asks.false c.word.ensures c.asks-2.ensures c.if-not-asks.false c.word-top.ensures c.asks-3.ensures
