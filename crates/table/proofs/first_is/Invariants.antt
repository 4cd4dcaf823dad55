-- `table::first_is` meets its contract. The invariant: every word so far is the default's.
-- Assumes nothing.
use Prim.Native.Nat.{ℕ, ◌<◌}
use mathlib.Core.Path.{◌≡◌}
use lib.ListN.{get_or}
use Rattle.model.specs.Table.{default_rule}
use Rattle.table.specs.Rows.{kind_of, row_word}
use Rattle.table.proofs.first_is.Given as goal

abbrev pub invariant-loop-j : goal.invariant-loop-j
invariant-loop-j l = (i : ℕ) → i < l.j → get_or l.rows i 0 ≡ row_word (default_rule (kind_of l.shape) (get_or l.rows 1 0)) i
