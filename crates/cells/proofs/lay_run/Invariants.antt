-- `cells::lay_run` leaves a run of the ends. The loop's invariant: the run of the ends that the iterator has handed out stands.
-- Assumes nothing.
use Prim.Native.Nat.{ℕ, ◌+◌}
use mathlib.Core.List.{List}
use lib.ListN.{length}
use Rattle.cells.specs.Text.{frees}
use Rattle.cells.specs.States.{State}
use Rattle.cells.proofs.Lay.{Laying}
use Rattle.cells.proofs.lay_run.Given as goal

abbrev pub invariant-loop-end : goal.invariant-loop-end
invariant-loop-end l = (a n : ℕ) (q : List ℕ) → State l.initial.words l.c a a q (frees a (length l.ends + n)) → Laying l.words l.ends l.lowest l.c a n q l.end-iterator.iter.rest.now
