-- `table::rising` meets its contract. The invariant: the rules that are left decide.
-- Assumes nothing.
use mathlib.Core.Path.{◌≡◌}
use lib.ListN.{drop}
use Rattle.model.specs.Table.{rising_from}
use Rattle.table.specs.Rows.{kind_of, table_in}
use Rattle.table.proofs.rising.Given as goal

abbrev pub invariant-loop-p : goal.invariant-loop-p
invariant-loop-p l = (rising_from 0 (table_in (kind_of l.shape) l.n l.rows).rules ≡ rising_from l.least (drop l.p (table_in (kind_of l.shape) l.n l.rows).rules))
