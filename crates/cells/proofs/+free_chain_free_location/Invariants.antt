-- `cells::free_chain` and `cells::free_location` leave a chain, and what is below a location, as free cells. They call each other, and the number of fields left falls: the measures are twice that number, and one more for a chain. The loop's invariant is `Going`; its measure is the steps that are left of the walk up the chain.
-- Assumes nothing.
use Prim.Native.Nat.{ℕ, ◌+◌, ◌*◌}
use mathlib.Core.Path.{◌≡◌}
use mathlib.Core.List.{List}
use Rattle.model.specs.Rules.{Tree}
use Rattle.cells.specs.Text.{width, under}
use Rattle.cells.specs.Planted.{Deep}
use Rattle.cells.specs.declared.Below.{Below}
use Rattle.cells.specs.States.{TreeHeld}
use Rattle.cells.proofs.Free.{Going, left_of}
use Rattle.cells.proofs.+free_chain_free_location.Given as goal

abbrev pub invariant-free_chain-loop-k : goal.invariant-free_chain-loop-k
invariant-free_chain-loop-k l = (x : Below) (a n : ℕ) (q : List ℕ) (t : Tree ℕ) → x.down ≡ l.first → Deep t l.fields → TreeHeld l.initial.words x l.c a n q t → Going l.words l.fields l.k l.first l.c a (a + width t) q (under t + n)

abbrev pub decreases-free_chain-loop-k : goal.decreases-free_chain-loop-k
decreases-free_chain-loop-k l = left_of l.c l.k

abbrev pub decreases-free_chain : goal.decreases-free_chain
decreases-free_chain l = 2 * l.fields + 1

abbrev pub decreases-free_location : goal.decreases-free_location
decreases-free_location l = 2 * l.fields
