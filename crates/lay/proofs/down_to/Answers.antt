-- `lay::down_to` meets its contract. Assumes nothing.
use native.Mathlib.Omega.{arith}
use borrow.Author.Tests.{eq-eqb, ne_eqb}
use Rattle.lay.proofs.down_to.Goals as goal

-- add-result: the place is small
pub overflow_add-result : goal.overflow_add-result
overflow_add-result c = omega (arith, c.requires.1 c.if-left-eq0.true)

pub returns-then-left-eq0 : goal.returns-then-left-eq0
returns-then-left-eq0 c = rw (eq-eqb _ 0 c.if-left-eq0.true)

pub returns : goal.returns
returns c = simp (ne_eqb _ 0 c.if-left-eq0.false)
