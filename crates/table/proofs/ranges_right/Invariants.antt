-- `table::ranges_right` meets its contract. The invariant: the fields that are left decide.
-- Assumes nothing.
use mathlib.Core.Path.{◌≡◌}
use Rattle.table.proofs.Laws.{RightFrom}
use Rattle.table.proofs.ranges_right.Given as goal

abbrev pub invariant-loop-top : goal.invariant-loop-top
invariant-loop-top l = (l.f ≡ l.top-index) × (RightFrom l.rows l.place l.tops 0 ≡ RightFrom l.rows l.place l.tops l.f)
