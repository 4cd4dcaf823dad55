-- `lists::apply_all` meets its contract. The invariant: the front is that of a table in which the edits that are left are accepted, and come to the table after all of them.
-- Assumes nothing.
use Prim.Native.Nat.{ℕ, ◌+◌, ◌-◌, ◌*◌}
use lib.ListN.{length}
use Rattle.model.specs.Table.{Table}
use Rattle.table.specs.Rows.{kind_of}
use Rattle.series.specs.Edits.{edited_all, edits_from}
use Rattle.lists.specs.Inner.{Fronts}
use Rattle.lists.proofs.Applied.{Still}
use Rattle.lists.proofs.apply_all.Given as goal

abbrev pub invariant-loop-i : goal.invariant-loop-i
invariant-loop-i l = (c : ℕ) (t : Table) → Fronts (kind_of l.shape) c t (edits_from (length l.shape.tops.now) (l.shape.width + 1) l.count l.edits 0) l.initial.front → Still (kind_of l.shape) c (edits_from (length l.shape.tops.now) (l.shape.width + 1) (l.count - l.i) l.edits ((l.shape.width + 1) * l.i)) l.front (edited_all t (edits_from (length l.shape.tops.now) (l.shape.width + 1) l.count l.edits 0))
