-- `stands::last_is` meets its contract. The invariant: the cells from `k` to `i` stand, and nothing is below them.
-- Assumes nothing.
use mathlib.Core.Path.{refl}
use native.Mathlib.Omega.{arith}
use Rattle.stands.proofs.Steps.{compared_start, compared_end, last_no, last_on}
use Rattle.stands.proofs.last_is.Goals as goal

pub loop-i-init : goal.loop-i-init
loop-i-init c = let p = c.requires in compared_start _ _ _ _ _ _ _ (λ z. absurd (omega arith)) p.1 refl p.2

pub returns-then-not-rest_is : goal.returns-then-not-rest_is
returns-then-not-rest_is c = last_no c.loop-i.invariant c.requires.0 c.loop-i-test.true c.end_at-e.ensures (rw c.of-rows.ensures at c.least-named.ensures) c.rest_is.ensures c.if-not-rest_is.true

pub loop-i-preserved : goal.loop-i-preserved
loop-i-preserved c = last_on c.loop-i.invariant c.requires.0 c.loop-i-test.true c.end_at-e.ensures (rw c.of-rows.ensures at c.least-named.ensures) c.rest_is.ensures c.if-not-rest_is.false

pub returns : goal.returns
returns c = compared_end (λ z. absurd (omega arith)) c.loop-i.invariant c.loop-i-test.false
