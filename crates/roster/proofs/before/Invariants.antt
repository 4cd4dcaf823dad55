-- `roster::before` meets its contract. The invariant: no rule behind place p of the set is ahead of the number.
-- Assumes nothing.
use Prim.Native.Nat.{◌≤◌}
use Rattle.model.specs.Table.{Kind, Table}
use Rattle.table.specs.Rows.{ahead}
use Rattle.roster.specs.Inner.{Named}
use Rattle.roster.proofs.before.Given as goal

abbrev pub invariant-loop-p : goal.invariant-loop-p
invariant-loop-p l = (k : Kind) (t : Table) → Named k l.rows l.n l.set t → ahead l.x t.rules ≤ l.p
