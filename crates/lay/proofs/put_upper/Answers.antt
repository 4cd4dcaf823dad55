-- `lay::put_upper` meets its contract. The invariant: the lowest level that stands is right, and what is to be laid above it is the same. Assumes nothing.
use native.Mathlib.Omega.{arith}
use Rattle.blocks.proofs.Writing.{climbs_fits, climbs_on, climbs_done}
use Rattle.lay.proofs.put_upper.Goals as goal

pub above-requires : goal.above-requires
above-requires c = λ h. omega (arith, climbs_fits _ _ _ _ _ _ _ c.loop-above.invariant h)

pub loop-above-preserved : goal.loop-above-preserved
loop-above-preserved c =
    let u = c.in-Some.ensures in
    climbs_on _ _ _ _ _ _ _ c.loop-above.invariant _ _ _ u.0 u.1 u.2 c.put_links.auto.words c.put_links.ensures

pub returns : goal.returns
returns c = climbs_done _ _ _ _ _ _ _ c.loop-above.invariant (rw c.in_default.is at c.above.ensures)
