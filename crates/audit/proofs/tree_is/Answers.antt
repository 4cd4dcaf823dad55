-- `audit::tree_is` meets its contract: what is compared is the tree of the places that are written.
-- Assumes nothing.
use native.Mathlib.Omega.{arith}
use Prim.Native.Nat.{◌+◌}
use Rattle.layout.proofs.Parts.{scratch_few}
use Rattle.audit.proofs.tree_is.Goals as goal

pub part_is-requires : goal.part_is-requires
part_is-requires c =
    let a = c.args in
    let h = a.shape.now.shaped in
    let g = scratch_few (a.n + 1) c.requires.3 (omega arith) in
    (c.requires.0, c.requires.1, record { places = omega (arith, g.places, c.places.auto.out); room = g.room }, omega (arith, h.ends, h.narrow))

pub returns : goal.returns
returns c = rw c.places.ensures at c.part_is.ensures
