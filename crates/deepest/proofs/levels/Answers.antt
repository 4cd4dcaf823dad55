-- `deepest::levels` meets its contract. The invariant: the levels passed are counted.
-- Assumes nothing.
use native.Mathlib.Omega.{arith}
use Rattle.deepest.proofs.Steps.{few_levels, parts_ceil, passed_on, passed_done}
use Rattle.deepest.proofs.levels.Goals as goal

pub overflow_add-n : goal.overflow_add-n
overflow_add-n c = omega (arith, c.loop-left.invariant.is, few_levels _ c.requires)

pub loop-left-preserved : goal.loop-left-preserved
loop-left-preserved c = let l = c.loop-left in rw (c.div_ceil-left.ensures, parts_ceil l.left) (passed_on _ l.n l.left l.invariant c.loop-left-test.true)

pub returns : goal.returns
returns c = let e = passed_done _ _ _ c.loop-left.invariant c.loop-left-test.false in (e, omega (arith, e, few_levels _ c.requires))
