-- `levels::upper_is` meets its contract. The invariant: the levels passed are right, and what is to stand above them is the same.
-- Assumes nothing.
use mathlib.Core.Bool.{not}
use mathlib.Core.Path.{ap}
use native.Mathlib.Omega.{arith}
use Rattle.blocks.proofs.Writing.{climbs_fits}
use Rattle.levels.proofs.Levels.{mounts_on, mounts_not, mounts_done}
use Rattle.levels.proofs.upper_is.Goals as goal

pub above-requires : goal.above-requires
above-requires c = λ h. omega (arith, climbs_fits _ _ _ _ _ _ _ c.loop-above.invariant h)

pub returns-then-not-links_are : goal.returns-then-not-links_are
returns-then-not-links_are c =
    let u = c.in-Some.ensures in
    mounts_not _ _ _ _ _ _ c.loop-above.invariant _ _ u.0 u.1 u.2 c.links_are.result (ap not c.if-not-links_are.true) c.links_are.ensures

pub loop-above-preserved : goal.loop-above-preserved
loop-above-preserved c =
    let u = c.in-Some.ensures in
    mounts_on _ _ _ _ _ _ c.loop-above.invariant _ _ u.0 u.1 u.2 c.links_are.result (ap not c.if-not-links_are.false) c.links_are.ensures

pub returns : goal.returns
returns c = mounts_done _ _ _ _ _ _ c.loop-above.invariant (rw c.in_default.is at c.above.ensures)
