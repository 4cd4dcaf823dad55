-- `levels::last_is` meets its contract. The invariant is `Looks`: the links of the first `i` ends stand, and nothing is below them.
-- Assumes nothing.
use mathlib.Core.Bool.{not}
use mathlib.Core.Path.{ap}
use native.Mathlib.Omega.{arith}
use Rattle.levels.proofs.Chain.{looks_start, looks_in, last_no, last_on, looks_done, looks_not}
use Rattle.levels.proofs.last_is.Goals as goal

pub loop-i-init : goal.loop-i-init
loop-i-init c = let p = c.requires in looks_start p.0 (λ z. absurd (omega arith)) p.1

pub end_at-e-requires : goal.end_at-e-requires
end_at-e-requires c = looks_in c.loop-i.invariant c.loop-i-test.true

pub down_is-requires : goal.down_is-requires
down_is-requires c = looks_in c.loop-i.invariant c.loop-i-test.true

-- a link is wrong
pub returns-then-not-down_is : goal.returns-then-not-down_is
returns-then-not-down_is c = last_no c.loop-i.invariant c.loop-i-test.true c.end_at-e.ensures c.least-named.ensures c.down_is.ensures (ap not c.if-not-down_is.true)

pub loop-i-preserved : goal.loop-i-preserved
loop-i-preserved c = last_on c.loop-i.invariant c.loop-i-test.true c.end_at-e.ensures c.least-named.ensures c.down_is.ensures (ap not c.if-not-down_is.false)

-- a level above is wrong
pub returns-then-not-upper_is : goal.returns-then-not-upper_is
returns-then-not-upper_is c = looks_not c.loop-i.invariant c.loop-i-test.false c.upper_is.result (ap not c.if-not-upper_is.true) c.upper_is.ensures

pub returns : goal.returns
returns c = rw (c.past.ensures, c.args.chain.size) (looks_done c.loop-i.invariant c.loop-i-test.false c.upper_is.result (ap not c.if-not-upper_is.false) c.upper_is.ensures)
