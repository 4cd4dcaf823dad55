-- `octets::copy` meets its contract. The invariant: so far the first i bytes were copied.
-- Assumes nothing.
use borrow.Author.Rules.{rules}
use mathlib.Core.Path.{◌≡◌}
use native.Mathlib.Numerals.{add-one}
use native.Mathlib.Omega.{arith}
use lib.ListN.{length}
use lib.Seq.{paste-zero, paste-suc}
use Rattle.octets.proofs.copy.Goals as goal

pub loop-i-init : goal.loop-i-init
loop-i-init c = (search rules, search rules, paste-zero c.args.to.now c.args.at c.args.from.now)

-- one byte more
pub loop-i-preserved : goal.loop-i-preserved
loop-i-preserved c =
    let a = c.args in
    let l = c.loop-i in
    (search rules, search rules, rw (l.invariant.2, add-one) (paste-suc a.to.now a.at a.from.now l.i 0 (omega arith) (omega arith)))

-- all of them
pub returns : goal.returns
returns c =
    let e : c.loop-i.i ≡ length c.args.from.now = omega arith in
    rw (← e) c.loop-i.invariant.2
