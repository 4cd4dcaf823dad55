-- `roster::copy_set` meets its contract. The invariant: as many numbers as the loop has gone are those of the set.
-- Assumes nothing.
use borrow.Author.Rules.{rules}
use mathlib.Core.Path.{◌≡◌, ◌∙◌}
use Prim.Native.Nat.{◌-◌}
use native.Mathlib.Omega.{arith}
use lib.ListN.{length-set}
use Rattle.roster.proofs.Moves.{copied_on}
use Rattle.roster.proofs.copy_set.Goals as goal

pub loop-i-preserved : goal.loop-i-preserved
loop-i-preserved c =
    let l = c.loop-i in
    (search rules, length-set l.out l.i _ ∙ l.invariant.1, copied_on c.args.set.now l.out l.i (search rules) (search rules) l.invariant.2)

pub returns : goal.returns
returns c =
    let l = c.loop-i in
    let z : l.i ≡ c.args.n = omega (arith, c.loop-i-test.false, l.invariant.0) in
    rw z at l.invariant.2
