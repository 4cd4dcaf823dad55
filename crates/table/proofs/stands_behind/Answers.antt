-- `table::stands_behind` meets its contract.
-- Assumes nothing.
use Rattle.table.specs.Rows.{kind_of}
use Rattle.table.proofs.Place.{none_behind, number_behind}
use Rattle.table.proofs.stands_behind.Goals as goal

pub returns-then-n-p : goal.returns-then-n-p
returns-then-n-p c = let a = c.args in none_behind (kind_of a.shape.now) a.n a.rows.now a.p a.x c.requires.1 c.requires.2 c.if-n-p.true

pub returns : goal.returns
returns c =
    let a = c.args in
    number_behind (kind_of a.shape.now) a.n a.rows.now a.p a.x c.requires.1 c.requires.2 c.if-n-p.false _ _ c.row_start.ensures.0 (rw c.of.ensures at c.number.ensures)
