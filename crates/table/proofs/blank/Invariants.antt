-- `table::blank` meets its contract. The invariant: every row so far is blank.
-- Assumes nothing.
use Rattle.table.specs.Rows.{Blank}
use Rattle.table.proofs.blank.Given as goal

abbrev pub invariant-loop-p : goal.invariant-loop-p
invariant-loop-p l = Blank l.shape.width l.rows l.used l.from l.p
