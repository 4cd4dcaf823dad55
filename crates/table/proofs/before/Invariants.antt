-- `table::before` meets its contract. The invariant: no rule behind place p is ahead of the number.
-- Assumes nothing.
use Prim.Native.Nat.{◌≤◌}
use mathlib.Core.Path.{◌≡◌}
use Rattle.model.specs.Table.{Kind}
use Rattle.table.specs.Rows.{table_in, ahead}
use Rattle.table.proofs.before.Given as goal

abbrev pub invariant-loop-p : goal.invariant-loop-p
invariant-loop-p l = (k : Kind) → k.width ≡ l.width → ahead l.x (table_in k l.n l.rows).rules ≤ l.p
