-- `table::all_right` meets its contract. The invariant: the rules that are left decide.
-- Assumes nothing.
use mathlib.Core.Path.{◌≡◌}
use lib.ListN.{drop}
use Rattle.model.specs.Table.{all_right}
use Rattle.table.specs.Rows.{kind_of, table_in}
use Rattle.table.proofs.all_right.Given as goal

abbrev pub invariant-loop-p : goal.invariant-loop-p
invariant-loop-p l = (all_right (kind_of l.shape) (table_in (kind_of l.shape) l.n l.rows).rules ≡ all_right (kind_of l.shape) (drop l.p (table_in (kind_of l.shape) l.n l.rows).rules))
