-- `series::first_refusal` meets its contract. The invariant: the edits before are accepted, the set names the table that they leave, and what the others answer in it is what the whole list answers.
-- Assumes nothing.
use mathlib.Core.List.{◌++◌}
use Prim.Native.Nat.{◌+◌, ◌-◌, ◌*◌, ◌≤◌}
use lib.ListN.{length}
use Rattle.table.specs.Rows.{kind_of, table_in}
use Rattle.series.specs.Edits.{first_refusal, edits_from}
use Rattle.series.proofs.Decided.{Going}
use Rattle.series.proofs.first_refusal.Given as goal

abbrev pub invariant-loop-i : goal.invariant-loop-i
invariant-loop-i l =
    (l.m ≤ l.shape.most)
    × Going (kind_of l.shape) l.c (l.rows ++ l.edits) l.m l.set l.i (edits_from (length l.shape.tops.now) (l.shape.width + 1) (l.count - l.i) l.edits ((l.shape.width + 1) * l.i)) (first_refusal (kind_of l.shape) l.c 0 (table_in (kind_of l.shape) l.n l.rows) (edits_from (length l.shape.tops.now) (l.shape.width + 1) l.count l.edits 0))
