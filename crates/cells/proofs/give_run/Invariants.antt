-- `cells::give_run` leaves all cells of the run free. The loop's invariant: what is left of the run stands in front of the free cells, and together they are as many as before. The measure is the first free cell, which comes down.
-- Assumes nothing.
use Prim.Native.Nat.{ℕ, ◌+◌}
use mathlib.Core.List.{List}
use Rattle.cells.specs.Text.{Run, len}
use Rattle.cells.specs.States.{first_free, Rows}
use Rattle.cells.proofs.Runs.{Giving}
use Rattle.cells.proofs.give_run.Given as goal

abbrev pub invariant-loop-k : goal.invariant-loop-k
invariant-loop-k l = (a n : ℕ) (q : List ℕ) (s : Run) → Rows l.initial.words l.initial.k l.c a n q s → Giving l.words l.k l.c a q (len s + n)

abbrev pub decreases-loop-k : goal.decreases-loop-k
decreases-loop-k l = first_free l.words
