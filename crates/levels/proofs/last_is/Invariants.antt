-- `levels::last_is` meets its contract. The invariant is `Looks`: the links of the first `i` ends stand, and nothing is below them.
-- Assumes nothing.
use Prim.Native.Nat.{◌+◌}
use Rattle.blocks.specs.Blocks.{parts}
use Rattle.levels.proofs.Chain.{Looks}
use Rattle.levels.proofs.last_is.Given as goal

abbrev pub invariant-loop-i : goal.invariant-loop-i
invariant-loop-i l =
    let h = l.chain in
    Looks l.words l.rows l.field 1 l.set h.root h.ends h.lowest.first l.i (h.lowest.first + parts h.ends)
